use Rattle.cycle_space.proofs.Keeping.{alone_holds}
use Rattle.cycle_space.proofs.theorems.supports_begin_with_closing_pipes.Goals as goal

pub returns : goal.returns
returns c = alone_holds
