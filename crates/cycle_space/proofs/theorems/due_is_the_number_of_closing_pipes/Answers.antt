-- By labels, one pipe after the other.
use Rattle.cycle_space.proofs.Due.{due_is_closing}
use Rattle.cycle_space.proofs.theorems.due_is_the_number_of_closing_pipes.Goals as goal

pub returns : goal.returns
returns c = due_is_closing
