use Rattle.std.proofs.Common.{◌≡◌}
use Rattle.net.specs.Labelled.{own_labels}
use Rattle.net.proofs.labels.Labels.parts.Given as goal

-- the nodes so far that are their own label are counted
abbrev pub invariant-loop-place : goal.invariant-loop-place
invariant-loop-place l = l.parts ≡ own_labels l.self l.place
