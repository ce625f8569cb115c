use Rattle.std.proofs.Common.{refl, arith}
use Rattle.net.proofs.Keeping.{begun}
use Rattle.net.proofs.Coding.{told}
use Rattle.net.proofs.Standing.{promise}
use Rattle.net.proofs.net.Net.open.Goals as goal

pub invariant_of-result-clause-keeps : goal.invariant_of-result-clause-keeps
invariant_of-result-clause-keeps g c = begun _ refl refl refl (omega arith) refl refl

pub returns-clause-stands : goal.returns-clause-stands
returns-clause-stands g c =
    promise g.M.Measure.zero g.M.Measure.join g.M.Measure.within g.met.M.Measure.lawful c.join_keeps_order.ensures (told g.row.M.coded)
    {column = c.args.column.now} _ (record { nothing = refl; no_rings = refl; rows_zero = refl; supports_zero = refl; as_brought = refl })
