-- The front before the first turn. Assumes nothing.
use Rattle.std.proofs.Common.{◌≡◌, ℕ, zero, suc, ◌+◌, ◌-◌, ◌*◌, ◌%◌, ◌<◌, ◌≤◌, true, false, cond, eqb, ◌≢◌, List, length, get_or, set, replicate, sym, refl, ap, ◌∙◌, subst, ⊎_elim, arith, length-set, get_or-set_other, get_or-set_same}
use lib.ListN.{length-replicate, get_or-replicate}
use borrow.Author.Tests.{both_ways}
use Rattle.std.proofs.lemmas.Bool.{cases_eq, cases_lt}
use Rattle.std.proofs.lemmas.List.{get_or_past}
use Rattle.cycle_space.specs.Rows.{bit, holds, empty, add2}
use Rattle.cycle_space.proofs.Booleans.{add2_same}
use Rattle.cycle_space.proofs.Folds.{fold_none}
use Rattle.cycle_space.proofs.Bits.{empty_bit, empty_row}
use Rattle.cycle_space.proofs.Parities.{parity_laws}
use Rattle.cycle_space.proofs.Trails.{touching_parity, bd_same, bd_none}
use Rattle.search.specs.declared.mark.Mark.{Mark}
use Rattle.search.specs.declared.mark.Mark.TheVariants.{Unreached, Open}
use Rattle.search.specs.Marks.{is_reached, is_settled, mark, reached, settled, row_at}
use Rattle.search.specs.Tasks.{Task, Sound, Attained, node, row_weight, even_start}
use Rattle.search.specs.Searches.{at, Searching}
use Rattle.search.proofs.Measuring.{Lawful, monoid, self}
use Rattle.search.proofs.Sets.{row_heft}

all_unreached : (n k : ℕ) → mark (replicate n Unreached) k ≡ Unreached
all_unreached n k = ⊎_elim (λ h. get_or-replicate n k Unreached Unreached h) (λ h. get_or_past (replicate n Unreached) k Unreached (let e = length-replicate n Unreached in omega arith)) (cases_lt k n)

module _ {M : Type 0} (t : Task M) (laws : Lawful t) (sound : Sound t) where
  empty_weight : row_weight t empty ≡ t.none
  empty_weight =
      row_heft laws empty
      ∙ fold_none (monoid laws) (length t.weights) (λ j. cond (bit empty j) (get_or t.weights j t.none) t.none)
      (λ j _. ap (λ b. cond b (get_or t.weights j t.none) t.none) (empty_bit j))

  start_attained : Attained t (even_start t) empty t.none
  start_attained = record {
    of_pipes = record { words = empty_row; others = others };
    ends = λ v.
        let one = sound.start_in.0 in
        let there : node (even_start t) ≡ t.start = omega arith in
        touching_parity t.shape empty v t.shape.pipes
        ∙ bd_same t.shape (bit empty) (λ _. false) empty_bit v
        ∙ bd_none t.shape v
        ∙ sym (ap (λ n. add2 (eqb t.start v) (eqb n v)) there ∙ add2_same (eqb t.start v));
    parity = parity_laws.none t.support ∙ ap (λ n. eqb n 1) (let z : 0 ≡ (2 * (t.start - 1) + 0) % 2 = omega arith in z);
    weighs = subst (λ y. t.within y t.none ≡ true) (sym empty_weight) (self laws.base t.none);
  }
    where
      others : (k : ℕ) → t.shape.pipes < k → holds empty k ≡ false
      others zero h = refl
      others (suc k) h = empty_bit k

  module _ (d : List M) (room : 2 * t.shape.nodes ≤ length d) where
    abbrev first : List Mark
    first = set (replicate 128 Unreached) (even_start t) (Open empty)

    abbrev zeroed : List M
    zeroed = set d (even_start t) t.none

    mark_there : mark first (even_start t) ≡ Open empty
    mark_there = get_or-set_same (replicate 128 Unreached) (even_start t) (Open empty) Unreached
        (let h = sound.start_in.0 in let h' = sound.start_in.1 in let k = sound.net.few_nodes in omega arith)

    zero_there : at t zeroed (even_start t) ≡ t.none
    zero_there = get_or-set_same d (even_start t) t.none t.none (let h = sound.start_in.0 in let h' = sound.start_in.1 in omega arith)

    elsewhere : (k : ℕ) → k ≢ even_start t → mark first k ≡ Unreached
    elsewhere k ne = get_or-set_other (replicate 128 Unreached) (even_start t) k (Open empty) Unreached ne ∙ all_unreached 128 k

    only : (k : ℕ) → reached first k ≡ true → k ≡ even_start t
    only k r = ⊎_elim (λ e. e) (λ ne. absurd (both_ways _ (ap is_reached (elsewhere k ne)) r)) (cases_eq k (even_start t))

    never : (k : ℕ) → settled first k ≡ true → ⊥
    never k s = ⊎_elim
        (λ e. both_ways _ (ap is_settled mark_there) (subst (λ (n : ℕ). settled first n ≡ true) e s))
        (λ ne. both_ways _ (ap is_settled (elsewhere k ne)) s)
        (cases_eq k (even_start t))

    pub started : Searching t first zeroed
    started = record {
      kept = record {
        marks_sized = length-set (replicate 128 Unreached) (even_start t) (Open empty);
        start_reached = ap is_reached mark_there;
        start_zero = zero_there;
        inside = λ k r. let e = only k r in let h = sound.start_in.0 in let h' = sound.start_in.1 in omega arith;
        attained = λ k r.
            let P : ℕ → Type 0 = λ n. Attained t n (row_at first n) (at t zeroed n) in
            subst P (sym (only k r)) (rw (mark_there, zero_there) start_attained);
      };
      order = λ a b h o. absurd (never a h);
      eased = λ k h j below. absurd (never k h);
    }
