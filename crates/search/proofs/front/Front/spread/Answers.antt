use Rattle.std.proofs.Common.{◌≡◌, ℕ, ◌<◌, length, ap, ◌∙◌, subst, arith}
use Rattle.std.proofs.lemmas.List.{get_or_read}
use Rattle.search.specs.Tasks.{task_of}
use Rattle.search.specs.Searches.{Settling}
use Rattle.search.proofs.Attaining.{stepping}
use Rattle.search.proofs.Laying.{laws_of, sound_of}
use Rattle.search.proofs.Relaxing.{relaxed_on, passed_on}
use Rattle.search.proofs.front.Front.spread.Goals as goal
use Rattle.search.proofs.front.Front.spread.Goals.{in-Some, in_default}

pub loop-place-preserved : goal.loop-place-preserved
loop-place-preserved g c =
    let f = c.loop-place.self in
    let t = task_of f in
    let i = c.loop-place.place in
    let inv = c.loop-place.invariant in
    elim c.match-across.branch [
      | in-Some w ↦
          let laws = laws_of f g.met.M.Measure.lawful in
          let sound = sound_of f in
          let same = ap (λ k. k.weights) inv.same in
          let below : i < length t.weights = rw same c.loop-place-test.true in
          let read = get_or_read t.weights i c.weight-item.result below (rw same c.weight-item.is) t.none in
          let inside = w.in-Some.ensures.inside in
          let room = f.room in
          let few = sound.net.few_nodes in
          let weighed = sound.net.weighed in
          let r = relaxed_on inv.settling laws (stepping t laws sound)
          (omega arith) c.across.ensures.leads w.in-Some.is inside (omega arith) (omega arith) read w.relax.ensures.relaxed in
          rw (w.self-is, w.relax.ensures.same) (record { same = inv.same; left = r.1 ∙ inv.left; settling = r.0 })
      | in_default w ↦
          rw w.self-is (record { same = inv.same; left = inv.left; settling = passed_on inv.settling c.across.ensures.leads w.in_default.is })
    ]

pub returns-clause-settling : goal.returns-clause-settling
returns-clause-settling g c =
    let t = task_of c.loop-place.self in
    let same = ap (λ k. length k.weights) c.loop-place.invariant.same in
    let weighed = (sound_of c.loop-place.self).net.weighed in
    let left = c.loop-place-test.false in
    let far = c.loop-place.auto.place-end in
    let all : c.loop-place.place ≡ t.shape.pipes = omega arith in
    subst (λ (n : ℕ). Settling t c.args.u n c.loop-place.self.marks c.loop-place.self.dist.now) all c.loop-place.invariant.settling
