use Rattle.std.proofs.Common.{◌≡◌, ℕ, suc, ◌+◌, ap, ◌∙◌, arith, rules}
use Rattle.cycle_space.specs.Labels.{label}
use Rattle.cycle_space.specs.Moments.{shape}
use Rattle.net.specs.Views.{view}
use Rattle.net.proofs.Kept.{from_first, laid_at, laid_all}
use Rattle.net.proofs.Labelling.{label_next}
use Rattle.net.proofs.net.Net.labels.Goals as goal

pub loop-ends-preserved : goal.loop-ends-preserved
loop-ends-preserved g c =
    let n = c.args.self.now in
    let i : ℕ = c.loop-ends.ends-index in
    let at = laid_at n _ i c.loop-ends-test.true (search (rules, from_first)) in
    let more : suc i ≡ i + 1 = omega arith in
    λ v h. label_next (shape (view n)) i c.loop-ends.labels _ _ _ at.first at.second at.have_places.first_in at.have_places.second_in c.loop-ends.invariant c.lay.ensures v h
    ∙ ap (λ k. label (shape (view n)) k v) more

pub returns : goal.returns
returns g c = λ v h.
    c.loop-ends.invariant v h
    ∙ ap (λ i. label (shape (view c.args.self.now)) i v) (laid_all c.args.self.now _ _ c.loop-ends-test.false c.loop-ends.auto.ends-index-end (search (rules, from_first)))
