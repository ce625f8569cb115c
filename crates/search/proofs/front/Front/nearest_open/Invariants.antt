use Rattle.search.specs.Fronts.{Picked}
use Rattle.search.proofs.front.Front.nearest_open.Given as goal

-- the nearest of the open states so far
abbrev pub invariant-loop-k : goal.invariant-loop-k
invariant-loop-k g l = Picked g.M.Measure.zero g.M.Measure.within l.self.dist.now l.self.marks l.k l.best
