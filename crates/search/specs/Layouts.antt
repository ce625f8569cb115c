-- The states of a search, and what is read where there is no pipe. Assumes nothing.
use Rattle.std.specs.Prelude.{ℕ, ◌*◌}
use Rattle.cycle_space.specs.declared.ends.Ends.{Ends}
use Rattle.search.specs.declared.layout.Layout.{Layout}

-- how many states a search has: two for each node
abbrev pub states : {M : Type 0} → Layout M → ℕ
states l = 2 * l.nodes

abbrev pub nowhere : Ends
nowhere = record { first = 0; second = 0 }
