-- What one pipe changes in a row, and one relaxed pipe in the front. Assumes nothing.
use Rattle.std.specs.Prelude.{◌≡◌, ℕ, suc, ◌+◌, Bool, true, false, not, List, nat_eq, slice_index_or, slice_set}
use Rattle.cycle_space.specs.Rows.{Row, row_of, sum}
use Rattle.search.specs.declared.mark.Mark.{Mark}
use Rattle.search.specs.declared.mark.Mark.TheVariants.{Unreached, Open, Settled}
use Rattle.search.specs.Marks.{mark, row_at}

-- the row with the pipe at the place j put in, or taken out where it was in
abbrev pub turn : Row → ℕ → Row
turn row j = sum row (row_of (λ i. nat_eq (suc i) (j + 1)))

-- whether the distance reach improves a state with such a mark, at the distance d
abbrev pub better : {M : Type 0} → (M → M → Bool) → Mark → M → M → Bool
better within Unreached d reach = true
better within (Open _) d reach = not (within d reach)
better within (Settled _) d reach = false

-- the state v is reached from u over the pipe at the place j, at the distance reach
pub record Entered {M : Type 0} (marks : List Mark) (dist : List M) (u v j : ℕ) (reach : M) (marks' : List Mark) (dist' : List M) : Type 0 where
  pub dist_is : dist' ≡ slice_set dist v reach
  pub marks_is : marks' ≡ slice_set marks v (Open (turn (row_at marks u) j))

pub record Relaxed {M : Type 0} (none : M) (join : M → M → M) (within : M → M → Bool)
    (marks : List Mark) (dist : List M) (u v j : ℕ) (w : M) (marks' : List Mark) (dist' : List M) : Type 0 where
  pub stays : better within (mark marks v) (slice_index_or dist v none) (join (slice_index_or dist u none) w) ≡ false → (marks' ≡ marks) × (dist' ≡ dist)
  pub moves : better within (mark marks v) (slice_index_or dist v none) (join (slice_index_or dist u none) w) ≡ true → Entered marks dist u v j (join (slice_index_or dist u none) w) marks' dist'
