-- What is sought: the lightest closed set that is odd against a support, or nothing where there is none such. Assumes nothing.
use Rattle.std.specs.Prelude.{◌≡◌, ◌*◌, ◌<◌, ◌≤◌, Bool, true, List, map, length, Some, None, Ok, Err, Option, Result, ◌≢◌}
use Rattle.cycle_space.specs.Rows.{Row, odd}
use Rattle.cycle_space.specs.Shapes.{Shape}
use Rattle.cycle_space.specs.Moments.{drawn}
use Rattle.cycle_space.specs.Bases.{Closed}
use Rattle.cycle_space.specs.Lightest.{LightestOdd}
use Rattle.search.specs.declared.layout.Layout.{Layout}
use Rattle.search.specs.declared.lightest.ScratchTooShort.{ScratchTooShort}

-- the shape of the net
abbrev pub plan : {M : Type 0} → Layout M → Shape
plan l = drawn l.nodes (map (λ e. e.first) l.ends.now) (map (λ e. e.second) l.ends.now)

module _ {M : Type 0} (none : M) (join : M → M → M) (within : M → M → Bool) (l : Layout M) (support : Row) where
  -- the set c is lightest; where nothing is found, no closed set is odd against the support
  abbrev pub Found : Option Row → Type 0
  Found (Some c) = LightestOdd none join within (plan l) l.weights.now support c
  Found None = (x : Row) → Closed (plan l) x → odd x support ≢ true

  -- declined where the scratch has fewer than two places for each node, and then the scratch is as it was
  abbrev pub Sought : List M → Result (Option Row) ScratchTooShort → List M → Type 0
  Sought scratch (Ok r) scratch' = (2 * l.nodes ≤ length scratch) × Found r × (length scratch' ≡ length scratch)
  Sought scratch (Err e) scratch' = (length scratch < 2 * l.nodes) × (scratch' ≡ scratch)
