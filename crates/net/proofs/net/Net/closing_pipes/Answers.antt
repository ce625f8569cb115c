use Rattle.std.proofs.Common.{◌≡◌, ℕ, suc, ◌+◌, ◌<◌, eqb, sym, refl, ap, ◌∙◌, subst, ap₂, subst₂, arith}
use Rattle.cycle_space.specs.Shapes.{Shape}
use Rattle.cycle_space.specs.Labels.{label, closes}
use Rattle.cycle_space.specs.Moments.{shape}
use Rattle.cycle_space.specs.Supports.{alone}
use Rattle.net.specs.Views.{view}
use Rattle.net.specs.Labelled.{labelled}
use Rattle.net.proofs.Kept.{laid_long, laid_all, laid_at, shape_pipes, view_shape}
use Rattle.net.proofs.Labelling.{label_next}
use Rattle.net.proofs.Beginning.{Begun, begun_none, begun_closing, begun_other, begun_all}
use Rattle.net.proofs.net.Net.closing_pipes.Goals as goal
use Rattle.net.proofs.net.Net.closing_pipes.Goals.{then-joined, else-joined}

pub loop-place-init : goal.loop-place-init
loop-place-init g c = begun_none (shape (view c.args.self.now)) c.own-labels.result _ refl c.own-labels.ensures

pub loop-place-preserved : goal.loop-place-preserved
loop-place-preserved g c =
    let n = c.args.self.now in
    let N : Shape = shape (view n) in
    let j : ℕ = c.loop-place.place in
    let few = n.keeps.few_pipes in
    let pipes = shape_pipes n in
    let long = laid_long n _ c.laid-ends-items.ensures in
    let at = laid_at n _ j c.loop-place-test.true c.laid-ends-items.ensures in
    let a = at.have_places.first_in in
    let b = at.have_places.second_in in
    let inv : Begun N c.loop-place.labels c.loop-place.closing c.loop-place.of j = c.loop-place.invariant in
    let told : (v : ℕ) → v < 65 → labelled c.lay.new.self v ≡ label N (j + 1) v = λ v h.
    label_next N j c.loop-place.labels _ _ _ at.first at.second a b inv.told c.lay.ensures v h ∙ ap (λ i. label N i v) (let q : suc j ≡ j + 1 = omega arith in q) in
    let tells : c.joined.result ≡ closes N j =
    c.joined.ensures ∙ ap₂ eqb (inv.told _ a ∙ ap (label N j) (sym at.first)) (inv.told _ b ∙ ap (label N j) (sym at.second)) in
    elim c.if-joined.branch [
      | then-joined w ↦ subst₂ (λ k xs. Begun N c.lay.new.self k xs (j + 1)) (sym w.closing-is) (sym w.of-is)
          (begun_closing N (omega arith) j (omega arith) c.loop-place.labels c.lay.new.self _ _ inv told (sym tells ∙ w.if-joined.true) (omega arith) _ w.single.ensures)
      | else-joined w ↦ subst₂ (λ k xs. Begun N c.lay.new.self k xs (j + 1)) (sym w.closing-is) (sym w.of-is)
          (begun_other N (omega arith) j (omega arith) c.loop-place.labels c.lay.new.self _ _ inv told (sym tells ∙ w.if-joined.false))
    ]

pub returns : goal.returns
returns g c =
    let n = c.args.self.now in
    let N : Shape = shape (view n) in
    let few = n.keeps.few_pipes in
    let pipes = shape_pipes n in
    let all = laid_all n _ _ c.loop-place-test.false c.loop-place.auto.place-end c.laid-ends-items.ensures in
    λ i. begun_all N (omega arith) c.loop-place.labels c.loop-place.closing c.loop-place.of
    (subst (Begun N c.loop-place.labels c.loop-place.closing c.loop-place.of) all c.loop-place.invariant) i
    ∙ ap (λ M. alone M i) (view_shape n)
