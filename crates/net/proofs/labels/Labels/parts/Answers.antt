use Rattle.std.proofs.Common.{◌≡◌, ℕ, ◌+◌, Bool, cond, eqb, length, sym, ap, ◌∙◌, arith, rules, eq-eqb, ne_eqb}
use Rattle.net.specs.Labelled.{labelled, own_labels}
use Rattle.net.proofs.Labelling.{node_label, labels_read, own_more, own_few}
use Rattle.net.proofs.labels.Labels.parts.Goals as goal
use Rattle.net.proofs.labels.Labels.parts.Goals.{then-label-place, else-label-place}

pub overflow_add-parts : goal.overflow_add-parts
overflow_add-parts c =
    let few = own_few c.args.self.now c.loop-place.place in
    let inv : c.loop-place.parts ≡ own_labels c.args.self.now c.loop-place.place = c.loop-place.invariant in
    omega arith

pub loop-place-preserved : goal.loop-place-preserved
loop-place-preserved c =
    let l = c.args.self.now in
    let i : ℕ = c.loop-place.place in
    let label = node_label l _ i c.loop-place-test.true in
    let counted : (b : Bool) → eqb (labelled l (i + 1)) (i + 1) ≡ b → own_labels l (i + 1) ≡ own_labels l i + cond b 1 0 =
    λ b e. own_more l i ∙ ap (λ x. own_labels l i + cond x 1 0) e in
    elim c.if-label-place.branch [
      | then-label-place w ↦ w.parts-is ∙ ap (λ k. k + 1) c.loop-place.invariant ∙ sym (counted _ (eq-eqb _ _ (sym label ∙ w.if-label-place.true)))
      | else-label-place w ↦ w.parts-is ∙ c.loop-place.invariant ∙ omega (arith, counted _ (ne_eqb _ _ (λ e. w.if-label-place.false (label ∙ e))))
    ]

pub returns : goal.returns
returns c =
    let l = c.args.self.now in
    let long : length l.of ≡ 65 = search rules in
    let all = labels_read l _ c.loop-place.place c.args.nodes long c.requires (omega arith) c.loop-place-test.false c.loop-place.auto.place-end in
    c.loop-place.invariant ∙ ap (own_labels l) all
