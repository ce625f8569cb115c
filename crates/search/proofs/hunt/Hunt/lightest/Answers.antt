use Rattle.std.proofs.Common.{◌+◌, arith}
use Rattle.search.specs.Tasks.{task}
use Rattle.search.specs.Finds.{Least}
use Rattle.search.proofs.Laying.{bounded, lawful}
use Rattle.search.proofs.Finding.{least_skip, least_more, lightest_of}
use Rattle.search.proofs.hunt.Hunt.lightest.Given.{Over}
use Rattle.search.proofs.hunt.Hunt.lightest.Goals as goal
use Rattle.search.proofs.hunt.Hunt.lightest.Goals.{Joined-starts, then-starts, else-starts}

-- no pipe is drawn from 0
pub loop-start-init : goal.loop-start-init
loop-start-init g c = λ s low start.
    let one = ((bounded c.args.self.now 1).ends_in start.0 start.1).0.0 in
    let is = start.3 in
    absurd (omega arith)

-- with the start of this turn, whichever branch ran
one_more : (g : Over) (c : Joined-starts g) → Least (task c.args.self.now 1) (c.loop-start.start + 1) c.if-starts.best
one_more g c =
    let h = c.args.self.now in
    elim c.if-starts.branch [
      | then-starts w ↦ rw (w.best-is, w.lighter_of-best.ensures) (least_more (task h 1) (lawful h 1 g.met.M.Measure.lawful) c.loop-start.start _ _ c.loop-start.invariant w.closed_through.ensures)
      | else-starts w ↦ rw w.best-is (least_skip (task h 1) c.loop-start.start _ c.loop-start.invariant (c.starts.ensures w.if-starts.false))
    ]

pub loop-start-preserved : goal.loop-start-preserved
loop-start-preserved g c = one_more g (goal.at.loop-start-preserved g c).Joined-starts

pub returns : goal.returns
returns g c =
    let h = c.args.self.now in
    let left = c.loop-start-test.false in
    lightest_of (task h 1) (lawful h 1 g.met.M.Measure.lawful) (bounded h 1) c.loop-start.start (omega arith) c.loop-start.best c.loop-start.invariant

pub returns-after-starts : goal.returns-after-starts
returns-after-starts g c =
    let h = c.args.self.now in
    lightest_of (task h 1) (lawful h 1 g.met.M.Measure.lawful) (bounded h 1) (c.loop-start.start + 1) (omega arith) _ (one_more g (goal.at.returns-after-starts g c).Joined-starts)
