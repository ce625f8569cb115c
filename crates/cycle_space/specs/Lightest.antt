-- The lightest closed sets that are odd against a support. Assumes nothing.
use Rattle.std.specs.Prelude.{◌≡◌, Bool, true, List}
use Rattle.cycle_space.specs.Rows.{Row, odd}
use Rattle.cycle_space.specs.Shapes.{Shape}
use Rattle.cycle_space.specs.Moments.{weight_from}
use Rattle.cycle_space.specs.Bases.{Closed}

-- c is a closed set odd against the support, and no closed set odd against the support is lighter; pipes weigh as the list says, in their order
pub record LightestOdd {M : Type 0} (none : M) (join : M → M → M) (within : M → M → Bool) (N : Shape) (weights : List M) (support c : Row) : Type 0 where
  pub closed : Closed N c
  pub is_odd : odd c support ≡ true
  pub least : (x : Row) → Closed N x → odd x support ≡ true → within (weight_from none join c 1 weights) (weight_from none join x 1 weights) ≡ true
