-- What is seen of a net: its nodes, pipes and weights, the rings found and their supports. Assumes nothing.
use Rattle.std.specs.Prelude.{ℕ, ◌-◌, List, [], ◌∷◌, map, take}
use Rattle.cycle_space.specs.Rows.{Row}
use Rattle.cycle_space.specs.Moments.{Pipe, Moment}
use Rattle.net.specs.Keeps.{supports_of}
use Rattle.net.specs.declared.net.Net.{Net}
use Rattle.cycle_space.specs.declared.ends.Ends.{Ends}

-- pipes, by their ends and their weights
abbrev pub pipes_of : {M : Type 0} → List Ends → List M → List (Pipe M)
pipes_of [] ws = []
pipes_of (e ∷ es) [] = []
pipes_of (e ∷ es) (w ∷ ws) = record { first = e.first; second = e.second; weight = w } ∷ pipes_of es ws

-- the net at this moment: so many pipes have been laid, with their ends in the table and their weights in the column
abbrev pub view : {M : Type 0} → Net M → Moment M
view n = record { nodes = n.tables.nodes; pipes = pipes_of (take n.tables.pipes n.tables.ends) (take n.tables.pipes n.column.now) }

-- the rows of the rings (the cycles) found
abbrev pub rings : {M : Type 0} → Net M → List Row
rings n = map (λ r. r.words) (take n.tables.found n.tables.rows)

-- the support of ring i, found or still to come: before the first ring the i-th closing pipe alone
abbrev pub support : {M : Type 0} → Net M → ℕ → Row
support n i = supports_of n.tables (i - 1)
