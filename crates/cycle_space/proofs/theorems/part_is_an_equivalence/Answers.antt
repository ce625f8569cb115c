-- By runs, one after the other and back.
use Rattle.cycle_space.proofs.Runs.{part_laws}
use Rattle.cycle_space.proofs.theorems.part_is_an_equivalence.Goals as goal

pub returns : goal.returns
returns c = part_laws
