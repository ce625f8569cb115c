-- How the supports begin: the closing pipes, each alone, found pipe by pipe. Assumes nothing.
use Rattle.std.proofs.Common.{◌≡◌, ℕ, suc, ◌+◌, ◌<◌, ◌≤◌, true, false, cond, eqb, List, length, set, replicate, sym, refl, ap, ◌∙◌, subst, arith}
use native.Mathlib.Decide.{ℕ_discrete, dec_lt}
use Rattle.std.proofs.lemmas.List.{length-set, length-replicate, get_or-replicate, get_or_past, get_or-set_same, get_or-set_other}
use Rattle.cycle_space.specs.Sums.{fold}
use Rattle.cycle_space.specs.Rows.{Row, empty, row_of}
use Rattle.cycle_space.specs.Shapes.{Shape}
use Rattle.cycle_space.specs.Labels.{label, closes}
use Rattle.cycle_space.specs.Supports.{rank, before, alone}
use Rattle.cycle_space.proofs.Counting.{count_up}
use Rattle.cycle_space.proofs.Keeping.{alone_single, alone_past}
use Rattle.net.specs.Keeps.{no_pipes, row_at}
use Rattle.net.specs.Labelled.{labelled}
use Rattle.net.specs.declared.labels.Labels.{Labels}
use Rattle.net.specs.declared.tables.StoredRow.{StoredRow}

-- after the pipes before the place j: their labels, how many of them are closing, and a row for each of these
pub record Begun (N : Shape) (labels : Labels) (closing : ℕ) (rows : List StoredRow) (j : ℕ) : Type 0 where
  pub told : (v : ℕ) → v < 65 → labelled labels v ≡ label N j v
  pub number : closing ≡ before N j
  pub few : closing ≤ j
  pub long : length rows ≡ 256
  pub done : (i : ℕ) → i < before N j → row_at rows i ≡ alone N i
  pub left : (i : ℕ) → before N j ≤ i → row_at rows i ≡ empty

before_next : (N : Shape) (j : ℕ) → before N (j + 1) ≡ cond (closes N j) 1 0 + before N j
unfolding fold
before_next N j = ap (before N) (let q : j + 1 ≡ suc j = omega arith in q)

-- before any pipe
pub begun_none : (N : Shape) (labels : Labels) (rows : List StoredRow) → rows ≡ replicate 256 no_pipes → ((v : ℕ) → v < 65 → labelled labels v ≡ v) → Begun N labels 0 rows 0
unfolding fold
begun_none N labels rows e told = record {
  told = told;
  number = refl;
  few = omega arith;
  long = ap length e ∙ length-replicate 256 no_pipes;
  done = λ i l. absurd (omega arith);
  left = λ i l. ap (λ xs. row_at xs i) e ∙ elim (dec_lt i 256) [
    | yes h ↦ ap (λ r. r.words) (get_or-replicate 256 i no_pipes no_pipes h)
    | no h ↦ ap (λ r. r.words) (get_or_past (replicate 256 no_pipes) i no_pipes (let m = length-replicate 256 no_pipes in omega arith))
  ];
}

module _ (N : Shape) (few : N.pipes ≤ 256) (j : ℕ) (lj : j < N.pipes) (labels labels' : Labels) (closing : ℕ) (rows : List StoredRow) (b : Begun N labels closing rows j)
    (told' : (v : ℕ) → v < 65 → labelled labels' v ≡ label N (j + 1) v) where
  up : before N j ≤ before N (j + 1)
  up = count_up (closes N) j (j + 1) (omega arith)

  -- the pipe at j is closing
  pub begun_closing : closes N j ≡ true → closing < 256 → (row : Row) → row ≡ row_of (λ l. eqb (suc l) (j + 1)) → Begun N labels' (closing + 1) (set rows closing (record { words = row })) (j + 1)
  begun_closing c small row e =
      let one : before N (j + 1) ≡ 1 + before N j = before_next N j ∙ ap (λ t. cond t 1 0 + before N j) c in
      let is = b.number in
      let long = b.long in
      let same : row ≡ alone N (before N j) = e ∙ ap (λ k. row_of (λ l. eqb (suc l) k)) (let q : j + 1 ≡ suc j = omega arith in q) ∙ alone_single N few j lj c in
      record {
        told = told';
        number = omega arith;
        few = let most = b.few in omega arith;
        long = length-set rows closing (record { words = row }) ∙ b.long;
        done = λ i l. elim (ℕ_discrete i closing) [
          | yes q ↦ subst (λ k. row_at (set rows closing (record { words = row })) k ≡ alone N k) (sym q)
              (ap (λ r. r.words) (get_or-set_same rows closing (record { words = row }) no_pipes (omega arith)) ∙ same ∙ ap (alone N) (sym is))
          | no q ↦ ap (λ r. r.words) (get_or-set_other rows closing i (record { words = row }) no_pipes q) ∙ b.done i (omega arith)
        ];
        left = λ i l. ap (λ r. r.words) (get_or-set_other rows closing i (record { words = row }) no_pipes (λ q. omega arith)) ∙ b.left i (omega arith);
      }

  -- the pipe at j is not closing
  pub begun_other : closes N j ≡ false → Begun N labels' closing rows (j + 1)
  begun_other c =
      let none : before N (j + 1) ≡ before N j = (let e = before_next N j ∙ ap (λ t. cond t 1 0 + before N j) c in omega arith) in
      let is = b.number in
      record {
        told = told';
        number = omega arith;
        few = let most = b.few in omega arith;
        long = b.long;
        done = λ i l. b.done i (omega arith);
        left = λ i l. b.left i (omega arith);
      }

-- after all pipes
pub begun_all : (N : Shape) → N.pipes ≤ 256 → (labels : Labels) (closing : ℕ) (rows : List StoredRow) → Begun N labels closing rows N.pipes → (i : ℕ) → row_at rows i ≡ alone N i
begun_all N few labels closing rows b i = elim (dec_lt i (rank N)) [
  | yes l ↦ b.done i l
  | no l ↦ b.left i (omega arith) ∙ sym (alone_past N few i (omega arith))
]
