use Rattle.std.proofs.Common.{length, map, sym, ap, ◌∙◌, subst, arith}
use Rattle.cycle_space.specs.Shapes.{EndsAreNodes}
use Rattle.cycle_space.specs.Moments.{drawn}
use Rattle.net.proofs.Kept.{weights_many, laid_long, view_shape, ends_are_nodes}
use Rattle.net.proofs.net.Net.layout.Goals as goal

-- what every net keeps is what the search wants
pub invariant_of-result : goal.invariant_of-result
invariant_of-result g c =
    let n = c.args.self.now in
    let long = laid_long n _ c.laid.ensures in
    let few = n.keeps.few_pipes in
    record {
      few_nodes = n.keeps.few_nodes;
      few_pipes = omega arith;
      weighed = ap length c.weights.ensures ∙ weights_many n ∙ sym long;
      ends_in = subst (λ es. EndsAreNodes (drawn n.tables.nodes (map (λ e. e.first) es) (map (λ e. e.second) es))) (sym c.laid.ensures)
          (subst EndsAreNodes (view_shape n) (ends_are_nodes n));
    }
