use Rattle.std.proofs.Common.{take, sym, ap, ◌∙◌, arith}
use Rattle.std.proofs.lemmas.List.{length-map, get_or-map}
use Rattle.cycle_space.specs.Rows.{empty}
use Rattle.cycle_space.specs.Moments.{weight}
use Rattle.net.specs.Views.{view, rings}
use Rattle.net.proofs.Turning.{blank}
use Rattle.net.proofs.Weighing.{joined_next}
use Rattle.net.proofs.net.Net.joined_weight.Goals as goal

pub loop-row-preserved : goal.loop-row-preserved
loop-row-preserved g c =
    let n = c.args.self.now in
    let m = g.M.Measure in
    let rows = take n.tables.found n.tables.rows in
    let as_many = length-map rows (λ r. r.words) in
    joined_next g.met.M.Measure.lawful (view n) (rings n) c.loop-row.row-index c.loop-row.joined _ (omega arith)
    (c.join-joined.ensures
    ∙ ap (m.join c.loop-row.joined) (c.weighed.ensures ∙ ap (weight m.zero m.join (view n)) (sym (get_or-map (λ r. r.words) rows c.loop-row.row-index blank empty c.loop-row-test.true))))
    ∙ c.loop-row.invariant
