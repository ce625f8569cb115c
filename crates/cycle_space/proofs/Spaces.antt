-- The space of the closed sets of a shape, as functions, and the rows that stand for them. Assumes nothing.
use Rattle.std.proofs.Common.{◌≡◌, ℕ, zero, suc, ◌<◌, ◌≤◌, Bool, true, false, cond, ◌&&◌, eqb, List, [], ◌∷◌, length, get_or, sym, refl, ap, ◌∙◌, ap₂, arith}
use mathlib.Core.Path.{fun_ext}
use Rattle.std.proofs.lemmas.List.FromFn.{length-map-range_with_len}
use Rattle.std.proofs.lemmas.Bool.Decides.{nat_tests}
use Rattle.std.proofs.lemmas.List.{ext_get_or}
use Rattle.cycle_space.specs.Sums.{fold}
use Rattle.cycle_space.specs.Rows.{Row, bit, holds, FourWords, empty, row_of, add2, sum, odd}
use Rattle.cycle_space.specs.Shapes.{Shape}
use Rattle.cycle_space.specs.Bases.{Closed, chosen, Basis}
use Rattle.cycle_space.proofs.Booleans.{add2_assoc, add2_comm, add2_same}
use Rattle.cycle_space.proofs.Folds.{Comm, bits, fold_same, fold_front, fold_lone}
use Rattle.cycle_space.proofs.Bits.{known_by_bits, row_of_words, row_bits, empty_bit, empty_row, sum_bit, sum_row}
use Rattle.cycle_space.proofs.Parities.{odd_fold, parity_laws}
use Rattle.cycle_space.proofs.Counting.{listed, listed_at}
use Rattle.cycle_space.proofs.Linear.{picked, Space, Spans}
use Rattle.cycle_space.proofs.Trails.{Even, bd_add, bd_none, bd_same, touching_parity}

-- the empty set, and the sum of two sets
abbrev pub none : ℕ → Bool
none j = false

abbrev pub xors : (ℕ → Bool) → (ℕ → Bool) → ℕ → Bool
xors x y j = add2 (x j) (y j)

-- a closed set of pipes of the shape
pub record Cycle (N : Shape) (x : ℕ → Bool) : Type 0 where
  pub closed : Even N x
  pub bounded : (j : ℕ) → N.pipes ≤ j → x j ≡ false

pub sets : Comm none xors
sets = record {
  left = λ x. refl;
  assoc = λ x y z. fun_ext (λ j. add2_assoc (x j) (y j) (z j));
  comm = λ x y. fun_ext (λ j. add2_comm (x j) (y j));
}

-- an odd number of the first 256 coordinates in common
abbrev pub odd_sets : (ℕ → Bool) → (ℕ → Bool) → Bool
odd_sets s x = fold false add2 256 (λ j. s j && x j)

-- on rows it is their parity
pub odd_bits : (x s : Row) → odd x s ≡ odd_sets (bit s) (bit x)
odd_bits x s = parity_laws.symmetric x s ∙ odd_fold s x

-- with one coordinate in common at most, that one decides
pub odd_one : (s x : ℕ → Bool) (i : ℕ) → i < 256 → ((j : ℕ) → s j ≡ true → x j ≡ true → j ≡ i) → odd_sets s x ≡ (s i && x i)
odd_one s x i l h =
    fold_same bits 256 (λ j. s j && x j) (λ j. cond (eqb j i) (s i && x i) false)
    (λ j _. let one = h j in grind (arith, nat_tests))
    ∙ fold_lone bits 256 i (s i && x i) l

-- The closed sets

pub space : (N : Shape) → Space none xors (Cycle N)
space N = record {
  group = sets;
  twice = λ x. fun_ext (λ j. add2_same (x j));
  has = record { closed = bd_none N; bounded = λ j _. refl };
  sums = λ x y cx cy. record {
    closed = λ w. bd_add N x y w ∙ ap₂ add2 (cx.closed w) (cy.closed w);
    bounded = λ j l. ap₂ add2 (cx.bounded j l) (cy.bounded j l);
  };
}

-- Rows and functions

-- the pipes of a closed row are a closed set
pub of_row : (N : Shape) (r : Row) → Closed N r → Cycle N (bit r)
of_row N r c = record {
  closed = λ v. let p = touching_parity N r v N.pipes in let q = c.even v in grind (arith, nat_tests);
  bounded = λ j l. c.of_pipes.others (suc j) (omega arith);
}

module _ (N : Shape) (few : N.pipes ≤ 256) (x : ℕ → Bool) (c : Cycle N x) where
  pub bits_back : bit (row_of x) ≡ x
  bits_back = fun_ext (row_bits x (λ j l. c.bounded j (omega arith)))

  -- the row of a closed set is closed
  pub to_row : Closed N (row_of x)
  to_row = record {
    of_pipes = record { words = row_of_words x; others = others };
    even = λ v.
        let p = touching_parity N (row_of x) v N.pipes in
        let q = bd_same N (bit (row_of x)) x (λ i. ap (λ f. f i) bits_back) v in
        let r = c.closed v in
        grind (arith, nat_tests);
  }
    where
      others : (j : ℕ) → N.pipes < j → holds (row_of x) j ≡ false
      others zero l = refl
      others (suc j) l = ap (λ f. f j) bits_back ∙ c.bounded j (omega arith)

-- a row is known by its bits
from_bits : (x y : Row) → FourWords x → FourWords y → bit x ≡ bit y → x ≡ y
from_bits x y p q e = known_by_bits x y p q (λ j _. ap (λ f. f j) e)

-- Lists of rows and selections

chosen_row : (rows : List Row) (bs : List Bool) → ((i : ℕ) → i < length rows → FourWords (get_or rows i empty)) → FourWords (chosen rows bs)
chosen_row [] bs h = empty_row
chosen_row (x ∷ xs) [] h = empty_row
chosen_row (x ∷ xs) (true ∷ bs) h = sum_row x (chosen xs bs) (h 0 (omega arith)) (chosen_row xs bs (λ i l. h (suc i) (omega arith)))
chosen_row (x ∷ xs) (false ∷ bs) h = chosen_row xs bs (λ i l. h (suc i) (omega arith))

-- the pipes of a selection's sum
chosen_bits : (rows : List Row) (bs : List Bool) → ((i : ℕ) → i < length rows → FourWords (get_or rows i empty)) → length bs ≡ length rows
    → bit (chosen rows bs) ≡ picked none xors (length rows) (λ i. bit (get_or rows i empty)) (λ i. get_or bs i false)
unfolding fold
chosen_bits [] bs h l = fun_ext empty_bit
chosen_bits (x ∷ xs) [] h l = absurd (omega arith)
chosen_bits (x ∷ xs) (b ∷ bs) h l =
    first b ∙ ap (xors (cond b (bit x) none)) (chosen_bits xs bs (λ i k. h (suc i) (omega arith)) (omega arith))
    ∙ sym (fold_front sets (length xs) (λ i. cond (get_or (b ∷ bs) i false) (bit (get_or (x ∷ xs) i empty)) none))
  where
    rest : FourWords (chosen xs bs)
    rest = chosen_row xs bs (λ i k. h (suc i) (omega arith))

    first : (b : Bool) → bit (cond b (sum x (chosen xs bs)) (chosen xs bs)) ≡ xors (cond b (bit x) none) (bit (chosen xs bs))
    first true = fun_ext (sum_bit x (chosen xs bs) ((h 0 (omega arith)).four ∙ sym rest.four))
    first false = refl

-- a list of rows is a basis exactly where their pipes span the closed sets
module _ (N : Shape) (few : N.pipes ≤ 256) (rows : List Row) where
  chosen_listed : ((i : ℕ) → i < length rows → FourWords (get_or rows i empty)) → (s : ℕ → Bool)
      → bit (chosen rows (listed (length rows) s)) ≡ picked none xors (length rows) (λ i. bit (get_or rows i empty)) s
  chosen_listed h s =
      chosen_bits rows (listed (length rows) s) h (length-map-range_with_len s 0 (length rows))
      ∙ fold_same sets (length rows) (λ i. cond (get_or (listed (length rows) s) i false) (bit (get_or rows i empty)) none) (λ i. cond (s i) (bit (get_or rows i empty)) none)
      (λ i l. ap (λ b. cond b (bit (get_or rows i empty)) none) (listed_at (length rows) s false i l))

  pub to_spans : Basis N rows → Spans none xors (Cycle N) (length rows) (λ i. bit (get_or rows i empty))
  to_spans b = record {
    members = λ i l. of_row N (get_or rows i empty) (b.members i l);
    spans = λ x c.
        let r = b.spans (row_of x) (to_row N few x c) in
        ((λ i. get_or r.0 i false), sym (chosen_bits rows r.0 fours r.1) ∙ ap bit r.2 ∙ bits_back N few x c);
    unique = λ s t e i l.
        let same = b.once (listed (length rows) s) (listed (length rows) t) (length-map-range_with_len s 0 (length rows)) (length-map-range_with_len t 0 (length rows))
        (from_bits (chosen rows (listed (length rows) s)) (chosen rows (listed (length rows) t)) (chosen_row rows (listed (length rows) s) fours) (chosen_row rows (listed (length rows) t) fours)
        (chosen_listed fours s ∙ e ∙ sym (chosen_listed fours t))) in
        sym (listed_at (length rows) s false i l) ∙ ap (λ xs. get_or xs i false) same ∙ listed_at (length rows) t false i l;
  }
    where
      fours : (i : ℕ) → i < length rows → FourWords (get_or rows i empty)
      fours i l = (b.members i l).of_pipes.words

  pub from_spans : ((i : ℕ) → i < length rows → Closed N (get_or rows i empty)) → Spans none xors (Cycle N) (length rows) (λ i. bit (get_or rows i empty)) → Basis N rows
  from_spans m b = record {
    members = m;
    spans = λ x c.
        let r = b.spans (bit x) (of_row N x c) in
        let bs : List Bool = listed (length rows) r.0 in (
          bs,
          length-map-range_with_len r.0 0 (length rows),
          from_bits (chosen rows bs) x (chosen_row rows bs fours) c.of_pipes.words (chosen_listed fours r.0 ∙ r.1),
        );
    once = λ bs cs p q e.
        ext_get_or false bs cs (p ∙ sym q)
        (λ i l. b.unique (λ i. get_or bs i false) (λ i. get_or cs i false)
        (sym (chosen_bits rows bs fours p) ∙ ap bit e ∙ chosen_bits rows cs fours q) i (omega arith));
  }
    where
      fours : (i : ℕ) → i < length rows → FourWords (get_or rows i empty)
      fours i l = (m i l).of_pipes.words
