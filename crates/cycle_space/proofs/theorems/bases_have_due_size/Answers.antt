use Rattle.cycle_space.proofs.Existence.{bases_have_due_size}
use Rattle.cycle_space.proofs.theorems.bases_have_due_size.Goals as goal

pub returns : goal.returns
returns c = bases_have_due_size
