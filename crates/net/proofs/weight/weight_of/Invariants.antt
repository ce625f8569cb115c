use Rattle.std.proofs.Common.{◌≡◌, ◌+◌, drop}
use Rattle.cycle_space.specs.Moments.{weight_from}
use Rattle.net.proofs.weight.weight_of.Given as goal

-- what is joined so far, and the weight of what is left, are the whole
abbrev pub invariant-loop-place : goal.invariant-loop-place
invariant-loop-place g l =
    let m = g.M.Measure in
    m.join l.sum (weight_from m.zero m.join l.row (l.place + 1) (drop l.place l.column)) ≡ weight_from m.zero m.join l.row 1 l.column
