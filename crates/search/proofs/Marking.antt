-- What one test of a mark says of another, and how the unsettled states are counted. Assumes nothing.
use Rattle.std.proofs.Common.{◌≡◌, ℕ, ◌<◌, true, false, not, cond, List, length, set, Some, refl, ap, arith}
use Rattle.std.proofs.lemmas.List.Sums.{sum_by-set}
use Rattle.cycle_space.specs.Rows.{Row}
use Rattle.search.specs.declared.mark.Mark.{Mark}
use Rattle.search.specs.declared.mark.Mark.TheVariants.{Unreached, Open, Settled}
use Rattle.search.specs.Marks.{is_open, is_settled, is_reached, way, walked, mark, opened, settled}
use Rattle.search.specs.Searches.{unsettled}

pub settled_reached : (m : Mark) → is_settled m ≡ true → is_reached m ≡ true
settled_reached Unreached e = cc
settled_reached (Open x) e = refl
settled_reached (Settled x) e = refl

pub open_reached : (m : Mark) → is_open m ≡ true → is_reached m ≡ true
open_reached Unreached e = cc
open_reached (Open x) e = refl
open_reached (Settled x) e = refl

pub open_unsettled : (m : Mark) → is_open m ≡ true → is_settled m ≡ false
open_unsettled Unreached e = refl
open_unsettled (Open x) e = refl
open_unsettled (Settled x) e = cc

pub reached_settled : (m : Mark) → is_reached m ≡ true → (is_open m ≡ true → ⊥) → is_settled m ≡ true
reached_settled Unreached e not_open = cc
reached_settled (Open x) e not_open = absurd (not_open refl)
reached_settled (Settled x) e not_open = refl

pub walked_reached : (m : Mark) (x : Row) → walked m ≡ Some x → is_reached m ≡ true
walked_reached Unreached x e = cc
walked_reached (Open y) x e = refl
walked_reached (Settled y) x e = refl

pub walked_way : (m : Mark) (x : Row) → walked m ≡ Some x → way m ≡ x
walked_way Unreached x e = cc
walked_way (Open y) x e = cc
walked_way (Settled y) x e = cc

module _ (ms : List Mark) (k : ℕ) (x : Row) (inside : k < length ms) where
  abbrev counts : Mark → ℕ
  counts m = cond (not (is_settled m)) 1 0

  pub open_counts : settled ms k ≡ false → unsettled (set ms k (Open x)) ≡ unsettled ms
  open_counts e =
      let was : counts (mark ms k) ≡ 1 = ap (λ b. cond (not b) 1 0) e in
      let s = sum_by-set counts ms k (Open x) Unreached inside in
      omega arith

  pub settled_counts : opened ms k ≡ true → unsettled (set ms k (Settled x)) < unsettled ms
  settled_counts e =
      let was : counts (mark ms k) ≡ 1 = ap (λ b. cond (not b) 1 0) (open_unsettled (mark ms k) e) in
      let s = sum_by-set counts ms k (Settled x) Unreached inside in
      omega arith
