use Rattle.cycle_space.proofs.Moments.{moment_laws}
use Rattle.cycle_space.proofs.theorems.nets_keep_their_laws.Goals as goal

pub returns : goal.returns
returns g c = moment_laws
