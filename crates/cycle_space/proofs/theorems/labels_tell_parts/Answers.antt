-- By runs to the labels.
use Rattle.cycle_space.proofs.Labels.{labels_tell_parts}
use Rattle.cycle_space.proofs.theorems.labels_tell_parts.Goals as goal

pub returns : goal.returns
returns c = labels_tell_parts
