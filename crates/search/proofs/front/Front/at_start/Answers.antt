use Rattle.std.proofs.Common.{ℕ, replicate, set, sym, subst}
use Rattle.cycle_space.specs.Rows.{empty}
use Rattle.search.specs.declared.mark.Mark.TheVariants.{Unreached, Open}
use Rattle.search.specs.Tasks.{task}
use Rattle.search.specs.Searches.{Searching}
use Rattle.search.proofs.Laying.{lawful, sound}
use Rattle.search.proofs.Starting.{started}
use Rattle.search.proofs.front.Front.at_start.Goals as goal

pub returns-clause-searching : goal.returns-clause-searching
returns-clause-searching g c =
    let h = c.args.hunt.now in
    let s = c.args.start in
    let d = c.args.dist.now in
    rw c.zero.ensures
    (subst (λ (k : ℕ). Searching (task h s) (set (replicate 128 Unreached) k (Open empty)) (set d k g.M.Measure.zero)) (sym c.state-s.ensures)
    (started (task h s) (lawful h s g.met.M.Measure.lawful) (sound h s c.requires.inside.0 c.requires.inside.1) d c.requires.room))
