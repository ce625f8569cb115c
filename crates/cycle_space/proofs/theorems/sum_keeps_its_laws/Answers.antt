-- By the pipes of the sums.
use Rattle.cycle_space.proofs.Bits.{sum_laws}
use Rattle.cycle_space.proofs.theorems.sum_keeps_its_laws.Goals as goal

pub returns : goal.returns
returns c = sum_laws
