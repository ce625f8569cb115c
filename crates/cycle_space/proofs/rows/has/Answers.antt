-- Where the pipe has a spot, the code reads bit `pipe - 1`; else no row has such a pipe.
use Rattle.std.proofs.Common.{◌≡◌, length, arith, rules}
use Rattle.cycle_space.proofs.Bits.{read_at, holds_past}
use Rattle.cycle_space.proofs.rows.has.Goals as goal

pub returns-in-Some : goal.returns-in-Some
returns-in-Some c =
    let spot = c.in-Some.ensures in
    read_at c.args.row c.args.pipe _ _ _ spot.0 spot.2 (omega (arith, spot.3)) (omega (arith, spot.1))

pub returns-in-None : goal.returns-in-None
returns-in-None c =
    let four : length c.args.row ≡ 4 = search rules in
    let past = holds_past c.args.row four c.args.pipe in
    let none = c.in-None.ensures in
    grind arith
