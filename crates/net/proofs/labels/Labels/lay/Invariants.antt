use Rattle.std.proofs.Common.{◌≡◌, map, take, drop, ◌++◌}
use Rattle.net.proofs.Labelling.{lowered}
use Rattle.net.proofs.labels.Labels.lay.Given as goal

-- the labels so far are lowered, and those that are left are as they were
abbrev pub invariant-loop-label : goal.invariant-loop-label
invariant-loop-label l = l.label-items ≡ map (lowered l.high l.low) (take l.label-index l.initial.label-items) ++ drop l.label-index l.initial.label-items
