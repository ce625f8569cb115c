use Rattle.std.proofs.Common.{◌≡◌}
use Rattle.cycle_space.specs.Rivals.{joined_weight}
use Rattle.net.specs.Views.{view, rings}
use Rattle.net.proofs.Weighing.{past}
use Rattle.net.proofs.net.Net.joined_weight.Given as goal

-- what is joined so far, and the joined weight of the rings that are left, are the whole
abbrev pub invariant-loop-row : goal.invariant-loop-row
invariant-loop-row g l =
    let m = g.M.Measure in
    m.join l.joined (past g.met.M.Measure.lawful (view l.self) (rings l.self) l.row-index) ≡ joined_weight m.zero m.join (view l.self) (rings l.self)
