use Rattle.std.proofs.Common.{length, ap, arith}
use Rattle.net.proofs.Kept.{weights_many}
use Rattle.net.proofs.net.Net.weight.Goals as goal

pub offset_bounds-branch : goal.offset_bounds-branch
offset_bounds-branch g c = let is = c.in_ok-pipe_place.ensures.1 in omega (arith, ap length c.weights.ensures, weights_many c.args.self.now)

pub bounds-branch-branch : goal.bounds-branch-branch
bounds-branch-branch g c = let is = c.in_ok-pipe_place.ensures.1 in omega (arith, ap length c.weights.ensures, weights_many c.args.self.now)
