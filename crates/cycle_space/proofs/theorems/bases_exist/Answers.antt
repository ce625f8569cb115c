use Rattle.cycle_space.proofs.Existence.{bases_exist}
use Rattle.cycle_space.proofs.theorems.bases_exist.Goals as goal

pub returns : goal.returns
returns c = bases_exist
