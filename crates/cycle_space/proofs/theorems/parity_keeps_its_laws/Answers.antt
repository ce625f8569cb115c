-- By sums over GF(2).
use Rattle.cycle_space.proofs.Parities.{parity_laws}
use Rattle.cycle_space.proofs.theorems.parity_keeps_its_laws.Goals as goal

pub returns : goal.returns
returns c = parity_laws
