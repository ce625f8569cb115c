use Rattle.std.proofs.Common.{rules}
use Rattle.net.proofs.labels.Labels.own.Goals as goal

pub returns : goal.returns
returns c = λ v h. let call = (c.from_fn.ensures.items.at v 0 h).2 in search rules
