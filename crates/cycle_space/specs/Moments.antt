-- A net at a moment: its nodes, its pipes and their weights, what changes it, and the weight of a set of pipes. Assumes nothing.
use Rattle.std.specs.Prelude.{◌≡◌, ℕ, zero, suc, ◌+◌, ◌-◌, ◌≤◌, true, cond, List, [], ◌∷◌, ◌++◌, map, length, take, ◌≢◌, slice_index, slice_set}
use Rattle.cycle_space.specs.Rows.{Row, holds, empty, sum, FourWords}
use Rattle.cycle_space.specs.Shapes.{Shape}

-- a pipe (a weighted edge): drawn from its first end to its second
pub record Pipe (M : Type 0) : Type 0 where
  pub first : ℕ
  pub second : ℕ
  pub weight : M

-- a net at a moment (a weighted multigraph): so many nodes, numbered from 1, and these pipes, numbered from 1 in their order
pub record Moment (M : Type 0) : Type 0 where
  pub nodes : ℕ
  pub pipes : List (Pipe M)

-- the shape of so many nodes, and of pipes with these first and second ends
abbrev pub drawn : ℕ → List ℕ → List ℕ → Shape
drawn nodes firsts seconds = record { nodes = nodes; pipes = length firsts; first = λ j. slice_index firsts j; second = λ j. slice_index seconds j }

-- the shape of a net, without its weights
abbrev pub shape : {M : Type 0} → Moment M → Shape
shape n = drawn n.nodes (map (λ p. p.first) n.pipes) (map (λ p. p.second) n.pipes)

-- the weights of the pipes, in their order
abbrev pub weights : {M : Type 0} → Moment M → List M
weights n = map (λ p. p.weight) n.pipes

-- the net has a pipe j
abbrev pub HasPipe : {M : Type 0} → Moment M → ℕ → Type 0
HasPipe n j = (1 ≤ j) × (j ≤ length n.pipes)

-- no nodes and no pipes
abbrev pub bare : {M : Type 0} → Moment M
bare = record { nodes = 0; pipes = [] }

-- one node more
abbrev pub add_node : {M : Type 0} → Moment M → Moment M
add_node n = record { nodes = n.nodes + 1; pipes = n.pipes }

-- one pipe more, behind the others
abbrev pub add_pipe : {M : Type 0} → Moment M → ℕ → ℕ → M → Moment M
add_pipe n a b w = record { nodes = n.nodes; pipes = n.pipes ++ (record { first = a; second = b; weight = w } ∷ []) }

-- without the pipe of highest number
abbrev pub drop_last : {M : Type 0} → Moment M → Moment M
drop_last n = record { nodes = n.nodes; pipes = take (length n.pipes - 1) n.pipes }

-- pipes with another weight at the place j
abbrev pub reweighed : {M : Type 0} → List (Pipe M) → ℕ → M → List (Pipe M)
reweighed [] j w = []
reweighed (p ∷ ps) zero w = record { first = p.first; second = p.second; weight = w } ∷ ps
reweighed (p ∷ ps) (suc j) w = p ∷ reweighed ps j w

-- with another weight of pipe j
abbrev pub reweigh_pipe : {M : Type 0} → Moment M → ℕ → M → Moment M
reweigh_pipe n j w = record { nodes = n.nodes; pipes = reweighed n.pipes (j - 1) w }

module _ {M : Type 0} (none : M) (join : M → M → M) where
  -- the joined weights of the row's pipes, where the first of the weights is that of pipe j
  abbrev pub weight_from : Row → ℕ → List M → M
  weight_from row j [] = none
  weight_from row j (w ∷ ws) = cond (holds row j) (join w (weight_from row (suc j) ws)) (weight_from row (suc j) ws)

  -- the weight of a set of pipes of the net
  abbrev pub weight : Moment M → Row → M
  weight n row = weight_from row 1 (weights n)

-- What is proved of them.

-- a lift takes away what was laid last; a reweighing alters the one weight, and no end
pub record MomentLaws (M : Type 0) : Type 0 where
  pub lift_undoes_lay : (n : Moment M) (a b : ℕ) (w : M) → drop_last (add_pipe n a b w) ≡ n
  pub reweigh_keeps_ends : (n : Moment M) (j : ℕ) (w : M) → shape (reweigh_pipe n j w) ≡ shape n
  pub reweigh_sets_weight : (n : Moment M) (j : ℕ) (w : M) → weights (reweigh_pipe n j w) ≡ slice_set (weights n) (j - 1) w

-- the empty set weighs nothing, and two sets without a common pipe weigh together what they weigh each
pub record WeightLaws {M : Type 0} (none : M) (join : M → M → M) : Type 0 where
  pub empty_none : (n : Moment M) → weight none join n empty ≡ none
  pub apart_joins : (n : Moment M) (x y : Row) → FourWords x → FourWords y → ((j : ℕ) → holds x j ≡ true → holds y j ≢ true)
      → weight none join n (sum x y) ≡ join (weight none join n x) (weight none join n y)
