use Rattle.search.proofs.Laying.{laws_of}
use Rattle.search.proofs.Turns.{finished}
use Rattle.search.proofs.front.Front.search.Goals as goal

pub returns-clause-shortest : goal.returns-clause-shortest
returns-clause-shortest g c = finished (laws_of c.loop-u.self g.met.M.Measure.lawful) c.loop-u.invariant.searching c.in_default.ensures
