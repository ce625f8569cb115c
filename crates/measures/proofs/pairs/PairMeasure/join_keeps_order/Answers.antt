use Rattle.std.proofs.Common.{rules}
use Rattle.measures.specs.OfPairs.{pair_keeps}
use Rattle.measures.proofs.pairs.PairMeasure.join_keeps_order.Goals as goal

pub returns : goal.returns
returns g c = pair_keeps g.met.A.Measure.lawful g.met.B.Measure.lawful (search rules) (search rules) (search rules)
