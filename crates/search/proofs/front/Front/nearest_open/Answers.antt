use Rattle.std.proofs.Common.{◌≡◌, ◌*◌, length, rules, ◌∙◌, arith}
use Rattle.std.proofs.lemmas.List.{length-take-le, get_or-take}
use Rattle.search.specs.declared.mark.Mark.TheVariants.{Unreached}
use Rattle.search.specs.Marks.{opened}
use Rattle.search.proofs.Picks.{pick_skip, pick_next}
use Rattle.search.proofs.front.Front.nearest_open.Goals as goal
use Rattle.search.proofs.front.Front.nearest_open.Goals.{then-is_open, else-is_open}

pub loop-k-preserved : goal.loop-k-preserved
loop-k-preserved g c =
    let f = c.args.self.now in
    let k = c.loop-k.k in
    let n = 2 * f.hunt.now.net.now.nodes in
    let few = f.hunt.now.net.now.few_nodes in
    let long : length f.marks ≡ 128 = search rules in
    let taken = length-take-le n f.marks (omega arith) in
    let below = c.loop-k-test.true in
    let is : opened f.marks k ≡ c.is_open.result = (let read = get_or-take n f.marks k Unreached (omega arith) in grind arith) in
    elim c.if-is_open.branch [
      | then-is_open w ↦ rw w.best-is (pick_next g.met.M.Measure.lawful _ _ k _ _ c.loop-k.invariant (is ∙ w.if-is_open.true) w.nearer.ensures)
      | else-is_open w ↦ rw w.best-is (pick_skip g.met.M.Measure.lawful _ _ k _ c.loop-k.invariant (is ∙ w.if-is_open.false))
    ]
