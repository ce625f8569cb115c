-- By the words' bits.
use Rattle.cycle_space.proofs.Bits.{known_by_pipes}
use Rattle.cycle_space.proofs.theorems.rows_are_known_by_their_pipes.Goals as goal

pub returns : goal.returns
returns c = known_by_pipes
