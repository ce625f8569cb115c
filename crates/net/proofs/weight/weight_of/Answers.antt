use Rattle.std.proofs.Common.{sym, ap, ◌∙◌}
use Rattle.cycle_space.specs.Moments.{weight_from}
use Rattle.net.proofs.Weighing.{empty_weighs, weight_all}
use Rattle.net.proofs.weight.weight_of.Goals as goal

pub returns : goal.returns
returns g c =
    let m = g.M.Measure in
    let all = sym (weight_all g.met.M.Measure.lawful c.args.row c.args.column.now c.loop-place.place c.loop-place.sum c.loop-place-test.false) ∙ c.loop-place.invariant in
    record {
      joined = all;
      nothing = λ e. all ∙ ap (λ row. weight_from m.zero m.join row 1 c.args.column.now) e ∙ empty_weighs m.zero m.join 1 c.args.column.now;
    }
