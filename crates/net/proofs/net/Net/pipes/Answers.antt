use Rattle.std.proofs.Common.{sym}
use Rattle.net.proofs.Kept.{pipes_seen}
use Rattle.net.proofs.net.Net.pipes.Goals as goal

pub returns : goal.returns
returns g c = sym (pipes_seen c.args.self.now)
