use Rattle.cycle_space.proofs.Existence.{closing_pipes_tell}
use Rattle.cycle_space.proofs.theorems.closing_pipes_tell_closed_sets.Goals as goal

pub returns : goal.returns
returns c = closing_pipes_tell
