use Rattle.std.proofs.Common.{sym, ap, ◌∙◌, subst, arith}
use Rattle.cycle_space.specs.Shapes.{Shape, Parts}
use Rattle.cycle_space.specs.Moments.{shape}
use Rattle.cycle_space.proofs.Parts.{parts_by_labels}
use Rattle.net.specs.Labelled.{own_labels}
use Rattle.net.specs.Views.{view}
use Rattle.net.proofs.Kept.{ends_are_nodes}
use Rattle.net.proofs.Labelling.{own_counted}
use Rattle.net.proofs.net.Net.parts.Goals as goal

pub returns : goal.returns
returns g c =
    let n = c.args.self.now in
    let N : Shape = shape (view n) in
    let few = n.keeps.few_nodes in
    subst (Parts N)
    (sym (c.parts.ensures ∙ ap (own_labels c.labels.result) c.nodes.ensures ∙ own_counted N N.pipes c.labels.result c.labels.ensures n.tables.nodes (omega arith)))
    (parts_by_labels N (ends_are_nodes n))
