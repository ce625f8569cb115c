use Rattle.search.specs.Tasks.{task}
use Rattle.search.specs.Finds.{Least}
use Rattle.search.proofs.hunt.Hunt.lightest.Given as goal

-- the lightest of the starts so far
abbrev pub invariant-loop-start : goal.invariant-loop-start
invariant-loop-start g l = Least (task l.self 1) l.start l.best
