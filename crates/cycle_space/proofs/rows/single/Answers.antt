-- Where the pipe has a spot, the code marks the bit `pipe - 1` in the empty row.
use Rattle.std.proofs.Common.{arith}
use Rattle.cycle_space.proofs.Singles.{marked_at, none_marked}
use Rattle.cycle_space.proofs.rows.single.Goals as goal

pub returns-in-Some : goal.returns-in-Some
returns-in-Some c =
    let spot = c.in-Some.ensures in
    marked_at c.args.pipe _ _ spot.0 spot.1 spot.2 (omega (arith, spot.3))

pub returns-in_default : goal.returns-in_default
returns-in_default c = none_marked c.args.pipe (λ p. let none = c.in_default.ensures in grind arith)
