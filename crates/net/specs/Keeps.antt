-- What the tables of every net keep. Assumes nothing.
use Rattle.std.specs.Prelude.{◌≡◌, ℕ, ◌<◌, ◌≤◌, cond, List, map, length, get_or, take, ◌==◌, slice_index_or}
use Rattle.cycle_space.specs.declared.ends.Ends.{Ends}
use Rattle.cycle_space.specs.Rows.{Row, empty}
use Rattle.cycle_space.specs.Shapes.{Shape}
use Rattle.cycle_space.specs.Moments.{drawn}
use Rattle.cycle_space.specs.Supports.{alone, Sound}
use Rattle.net.specs.declared.tables.StoredRow.{StoredRow}
use Rattle.net.specs.declared.tables.Tables.{Tables}

-- what a place without a pipe holds at opening
abbrev pub nowhere : Ends
nowhere = record { first = 0; second = 0 }

-- these ends are two of the nodes 1, .., nodes
pub record Joins (nodes : ℕ) (e : Ends) : Type 0 where
  pub first_in : (1 ≤ e.first) × (e.first ≤ nodes)
  pub second_in : (1 ≤ e.second) × (e.second ≤ nodes)
  pub apart : e.first ≡ e.second → ⊥

-- the shape of the pipes laid
abbrev pub laid_out : Tables → Shape
laid_out t = drawn t.nodes (map (λ e. e.first) (take t.pipes t.ends)) (map (λ e. e.second) (take t.pipes t.ends))

-- a stored row without pipes
abbrev pub no_pipes : StoredRow
no_pipes = record { words = empty }

-- the row at a place of a table; past its end there is nothing
abbrev pub row_at : List StoredRow → ℕ → Row
row_at rows i = (get_or rows i no_pipes).words

-- the supports, counted from 0: before the first ring each holds just its own closing pipe, and from then on they stand in their table
abbrev pub supports_of : Tables → ℕ → Row
supports_of t i = cond (t.found == 0) (alone (laid_out t) i) (row_at t.supports i)

-- the tables have their places, the counts are in range, every pipe leads from a node to another, and the rings found are sound
pub record Keeps (t : Tables) : Type 0 where
  pub places : (length t.ends ≡ 256) × (length t.rows ≡ 256) × (length t.supports ≡ 256)
  pub few_nodes : t.nodes ≤ 64
  pub few_pipes : t.pipes ≤ 256
  pub few_rings : t.found ≤ 256
  pub joined : (j : ℕ) → j < t.pipes → Joins t.nodes (slice_index_or t.ends j nowhere)
  pub sound : Sound (laid_out t) t.found (row_at t.rows) (supports_of t)
