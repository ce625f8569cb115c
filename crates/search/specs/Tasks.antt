-- A search task: the measure's members, the shape and weights of the net, the support, and the start. States, where pipes lead to from
-- them, walks over them, and the rows that attain them. Assumes nothing.
use Rattle.std.specs.Prelude.{◌≡◌, ℕ, ◌+◌, ◌-◌, ◌*◌, ◌/◌, ◌%◌, ◌<◌, ◌≤◌, Bool, true, cond, List, length, Some, None, Option, ◌==◌, slice_index_or}
use Rattle.cycle_space.specs.Rows.{Row, bit, add2, odd}
use Rattle.cycle_space.specs.Shapes.{Shape, Node, EndsAreNodes}
use Rattle.cycle_space.specs.Moments.{weight_from}
use Rattle.cycle_space.specs.Bases.{OfPipes, touching}
use Rattle.measures.specs.declared.measure.Measure.{Ghosts}
use Rattle.search.specs.declared.layout.Layout.{Layout}
use Rattle.search.specs.declared.hunt.Hunt.{Hunt}
use Rattle.search.specs.declared.front.Front.{Front}
use Rattle.search.specs.Sought.{plan}

pub record Task (M : Type 0) : Type 0 where
  pub none : M
  pub join : M → M → M
  pub within : M → M → Bool
  pub shape : Shape
  pub weights : List M
  pub support : Row
  pub start : ℕ

-- the net has at most 64 nodes and 256 pipes, a weight for each pipe, and every end is a node
pub record Bounded {M : Type 0} (t : Task M) : Type 0 where
  pub few_nodes : t.shape.nodes ≤ 64
  pub few_pipes : t.shape.pipes ≤ 256
  pub weighed : length t.weights ≡ t.shape.pipes
  pub ends_in : EndsAreNodes t.shape

-- and so is the start
pub record Sound {M : Type 0} (t : Task M) : Type 0 where
  pub net : Bounded t
  pub start_in : Node t.shape t.start

-- the search of a net from the node s
abbrev pub from_node : {M : Type 0} → M → (M → M → M) → (M → M → Bool) → Layout M → Row → ℕ → Task M
from_node none join within l support s =
    record { none = none; join = join; within = within; shape = plan l; weights = l.weights.now; support = support; start = s }

-- the task of a hunt from the node s
abbrev pub task : {M : Type 0} {m : Ghosts M} → Hunt M m → ℕ → Task M
task {m = m} h s = from_node m.zero m.join m.within h.net.now h.support s

-- the task of a front
abbrev pub task_of : {M : Type 0} {m : Ghosts M} → Front M m → Task M
task_of f = task f.hunt.now f.start

-- the state of the node v, from 1, with the parity p, 0 or 1
abbrev pub state : ℕ → ℕ → ℕ
state v p = 2 * (v - 1) + p

-- the node of the state u
abbrev pub node : ℕ → ℕ
node u = u / 2 + 1

-- whether the state u is odd
abbrev pub is_odd : ℕ → Bool
is_odd u = u % 2 == 1

-- the state at the node v, come to from the state u over the pipe at the place j: a pipe of the support turns the parity
abbrev pub arrival : Row → ℕ → ℕ → ℕ → ℕ
arrival support v u j = cond (bit support j) (state v (1 - u % 2)) (state v (u % 2))

-- the state on the other side of the pipe at the place j from the state u, where the pipe lies at u's node
abbrev pub arc : Shape → Row → ℕ → ℕ → Option ℕ
arc N support u j =
    cond (N.first j == node u) (Some (arrival support (N.second j) u j))
    (cond (N.second j == node u) (Some (arrival support (N.first j) u j)) None)

-- the weight of the pipe at the place j
abbrev pub weight : {M : Type 0} → Task M → ℕ → M
weight t j = slice_index_or t.weights j t.none

-- the start with parity even, and with parity odd
abbrev pub even_start : {M : Type 0} → Task M → ℕ
even_start t = state t.start 0

abbrev pub odd_start : {M : Type 0} → Task M → ℕ
odd_start t = state t.start 1

-- a walk from the even start to a state, with the joined weight of its crossings
pub data Walk {M : Type 0} (t : Task M) : ℕ → M → Type 0 where
  stay : Walk t (even_start t) t.none
  cross : {u : ℕ} {c : M} (j v : ℕ) → Walk t u c → j < t.shape.pipes → arc t.shape t.support u j ≡ Some v → Walk t v (t.join c (weight t j))

-- the weight of a row
abbrev pub row_weight : {M : Type 0} → Task M → Row → M
row_weight t x = weight_from t.none t.join x 1 t.weights

-- the row x attains the state k at the distance d: its ends are the start and k's node, its parity is k's, and it weighs at most d
pub record Attained {M : Type 0} (t : Task M) (k : ℕ) (x : Row) (d : M) : Type 0 where
  pub of_pipes : OfPipes t.shape.pipes x
  pub ends : (v : ℕ) → (touching t.shape x v t.shape.pipes % 2 == 1) ≡ add2 (t.start == v) (node k == v)
  pub parity : odd x t.support ≡ is_odd k
  pub weighs : t.within (row_weight t x) d ≡ true
