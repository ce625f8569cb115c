use Rattle.std.proofs.Common.{sym, ◌∙◌}
use Rattle.search.proofs.Laying.{laws_of}
use Rattle.search.proofs.Turns.{one_less, turn_begins, turn_ends}
use Rattle.search.proofs.front.Front.settle.Goals as goal

pub spread-requires-clause-settling : goal.spread-requires-clause-settling
spread-requires-clause-settling g c =
    let f = c.args.self.now in
    turn_begins (laws_of f g.met.M.Measure.lawful) c.requires.searching f.hunt.now.net.now.few_nodes c.requires.nearest (sym c.row.ensures ∙ c.unwrap-row.ensures)

pub returns-clause-fewer : goal.returns-clause-fewer
returns-clause-fewer g c =
    let f = c.args.self.now in
    rw c.spread.ensures.left
    (one_less (laws_of f g.met.M.Measure.lawful) c.requires.searching f.hunt.now.net.now.few_nodes c.requires.nearest (sym c.row.ensures ∙ c.unwrap-row.ensures))

pub returns-clause-searching : goal.returns-clause-searching
returns-clause-searching g c = turn_ends (laws_of c.spread.new.self g.met.M.Measure.lawful) c.spread.ensures.settling
