use Rattle.std.proofs.Common.{refl, arith}
use Rattle.cycle_space.specs.Moments.{shape}
use Rattle.cycle_space.proofs.Due.{due_is_closing}
use Rattle.net.specs.Views.{view}
use Rattle.net.proofs.Kept.{ends_are_nodes, reckoned}
use Rattle.net.proofs.net.Net.due.Goals as goal

pub overflow_add-result : goal.overflow_add-result
overflow_add-result g c = let k = reckoned c.args.self.now _ _ _ c.pipes.ensures c.parts.ensures refl in omega arith

pub overflow_sub-result : goal.overflow_sub-result
overflow_sub-result g c = let k = reckoned c.args.self.now _ _ _ c.pipes.ensures c.parts.ensures c.nodes.ensures in omega arith

pub returns : goal.returns
returns g c =
    let n = c.args.self.now in
    let k = reckoned n _ _ _ c.pipes.ensures c.parts.ensures c.nodes.ensures in
    record { formula = k.due; closing = (due_is_closing (shape (view n)) (ends_are_nodes n) _).0 k.due }
