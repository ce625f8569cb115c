-- The word that is counted is the sum of the four words in common, and it has 64 bits.
use lib.Bits.{and_lt, xor_lt}
use Rattle.cycle_space.proofs.Parities.{odd_of_four}
use Rattle.cycle_space.proofs.rows.parity.Goals as goal

pub returns : goal.returns
returns c =
    let f0 = and_lt 64 _ _ c.element_fits.fits c.element_fits2.fits in
    let f1 = and_lt 64 _ _ c.element_fits3.fits c.element_fits4.fits in
    let f2 = and_lt 64 _ _ c.element_fits5.fits c.element_fits6.fits in
    let f3 = and_lt 64 _ _ c.element_fits7.fits c.element_fits8.fits in
    odd_of_four c.args.x c.args.y (xor_lt 64 _ _ (xor_lt 64 _ _ (xor_lt 64 _ _ f0 f1) f2) f3)
