use Rattle.std.proofs.Common.{rules}
use Rattle.net.proofs.Kept.{pipes_seen}
use Rattle.net.proofs.net.Net.pipe_place.Goals as goal

pub returns : goal.returns
returns g c = let e = pipes_seen c.args.self.now in search rules
