use Rattle.std.proofs.Common.{get_or, sym, ap, ◌∙◌, arith}
use Rattle.std.proofs.lemmas.List.{get_or_read}
use Rattle.search.specs.Marks.{mark, walked}
use Rattle.search.specs.Tasks.{task}
use Rattle.search.proofs.Finding.{found_at}
use Rattle.search.proofs.Laying.{sound}
use Rattle.search.proofs.hunt.Hunt.closed_through.Goals as goal

pub returns : goal.returns
returns g c =
    let h = c.args.self.now in
    let s = c.args.start in
    let f = c.search.new.self in
    let room = f.room in
    let same = c.search.ensures.same ∙ c.at_start-front.ensures.same in
    let nodes = ap (λ t. t.shape.nodes) same in
    let short = rw same at c.search.ensures.shortest in
    let zero = g.M.Measure.zero in
    let at = c.state-at.ensures in
    rw (← c.index-front-at.is)
    (found_at (task h s) (sound h s c.requires.inside.0 c.requires.inside.1) f.marks f.dist.now _ _
    (get_or_read f.dist.now _ c.index-front-at.result (omega arith) c.index-front-at.is zero ∙ ap (λ k. get_or f.dist.now k zero) at)
    (sym (ap (λ k. walked (mark f.marks k)) at) ∙ (sym c.row.ensures ∙ c.in_ok-row.was)) short)
