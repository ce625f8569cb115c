-- What the mark of a state tells. Assumes nothing.
use Rattle.std.specs.Prelude.{ℕ, Bool, true, false, List, [], Some, None, Option, slice_index_or}
use Rattle.cycle_space.specs.Rows.{Row}
use Rattle.search.specs.declared.mark.Mark.{Mark}
use Rattle.search.specs.declared.mark.Mark.TheVariants.{Unreached, Open, Settled}

abbrev pub is_open : Mark → Bool
is_open (Open _) = true
is_open _ = false

abbrev pub is_settled : Mark → Bool
is_settled (Settled _) = true
is_settled _ = false

abbrev pub is_reached : Mark → Bool
is_reached Unreached = false
is_reached _ = true

-- the row walked to the state, if it is reached
abbrev pub walked : Mark → Option Row
walked Unreached = None
walked (Open x) = Some x
walked (Settled x) = Some x

-- the same row, and no words where the state is not reached
abbrev pub way : Mark → Row
way Unreached = []
way (Open x) = x
way (Settled x) = x

module _ (ms : List Mark) (k : ℕ) where
  -- the mark of the state k
  abbrev pub mark : Mark
  mark = slice_index_or ms k Unreached

  abbrev pub reached : Bool
  reached = is_reached mark

  abbrev pub opened : Bool
  opened = is_open mark

  abbrev pub settled : Bool
  settled = is_settled mark

  -- the row walked to the state k
  abbrev pub row_at : Row
  row_at = way mark
