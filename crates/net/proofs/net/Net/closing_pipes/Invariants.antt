use Rattle.cycle_space.specs.Moments.{shape}
use Rattle.net.specs.Views.{view}
use Rattle.net.proofs.Beginning.{Begun}
use Rattle.net.proofs.net.Net.closing_pipes.Given as goal

abbrev pub invariant-loop-place : goal.invariant-loop-place
invariant-loop-place g l = Begun (shape (view l.self)) l.labels l.closing l.of l.place
