-- The four words are the sum, so its pipes are known.
use Rattle.std.proofs.Common.{◌≡◌, length, sym, ap, ◌∙◌, rules}
use Rattle.cycle_space.specs.Rows.{holds}
use Rattle.cycle_space.proofs.Bits.{sum_of_four, sum_holds}
use Rattle.cycle_space.proofs.rows.sum.Goals as goal

pub returns : goal.returns
returns c =
    let x = c.args.x in
    let y = c.args.y in
    let lx : length c.args.x ≡ 4 = search rules in
    let ly : length c.args.y ≡ 4 = search rules in
    let value = sum_of_four x y lx ly in
    record { value = value; pipes = λ j. ap (λ r. holds r j) value ∙ sum_holds x y (lx ∙ sym ly) j }
