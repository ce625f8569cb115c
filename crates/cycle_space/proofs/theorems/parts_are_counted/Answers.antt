-- By the nodes that are their own label.
use Rattle.cycle_space.proofs.Parts.{parts_are_counted}
use Rattle.cycle_space.proofs.theorems.parts_are_counted.Goals as goal

pub returns : goal.returns
returns c = parts_are_counted
