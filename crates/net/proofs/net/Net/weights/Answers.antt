use Rattle.std.proofs.Common.{sym}
use Rattle.net.proofs.Kept.{weights_seen}
use Rattle.net.proofs.net.Net.weights.Goals as goal

pub returns : goal.returns
returns g c = sym (weights_seen c.args.self.now)
