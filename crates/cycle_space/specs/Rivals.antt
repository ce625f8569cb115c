-- What two lists of closed sets, or two nets, are compared by. Assumes nothing.
use Rattle.std.specs.Prelude.{◌≡◌, ℕ, zero, suc, ◌+◌, ◌<◌, Bool, true, cond, ◌⊎◌, ◌↔◌, List, [], ◌∷◌, length, ◌≢◌, slice_index, slice_index_or, slice_set}
use Rattle.cycle_space.specs.Rows.{Row, empty}
use Rattle.cycle_space.specs.Moments.{Pipe, Moment, shape, weight}
use Rattle.cycle_space.specs.Bases.{Basis}

-- the joined weight of a list of sets
abbrev pub joined_weight : {M : Type 0} → M → (M → M → M) → Moment M → List Row → M
joined_weight none join n [] = none
joined_weight none join n (x ∷ xs) = join (weight none join n x) (joined_weight none join n xs)

-- the rival's list with the first of our rings at the first of the places, the second at the second, and so on
abbrev pub exchanged : List Row → List ℕ → List Row → List Row
exchanged rival [] ours = rival
exchanged rival (p ∷ ps) [] = rival
exchanged rival (p ∷ ps) (c ∷ cs) = slice_set (exchanged rival ps cs) p c

-- different members of the rival's list can be exchanged for our rings, one for one, each for a ring that weighs at most as much, and
-- the list is again a basis
pub record Exchanges {M : Type 0} (none : M) (join : M → M → M) (within : M → M → Bool) (n : Moment M) (ours rival : List Row) : Type 0 where
  pub places : List ℕ
  pub one_each : length places ≡ length ours
  pub members : (i : ℕ) → i < length places → slice_index places i < length rival
  pub different : (i j : ℕ) → i < length places → j < length places → slice_index places i ≡ slice_index places j → i ≡ j
  pub no_heavier : (i : ℕ) → i < length ours → within (weight none join n (slice_index_or ours i empty)) (weight none join n (slice_index_or rival (slice_index places i) empty)) ≡ true
  pub basis : Basis (shape n) (exchanged rival places ours)

-- how many of these values are at most v
abbrev pub how_many : {M : Type 0} → (M → M → Bool) → M → List M → ℕ
how_many within v [] = 0
how_many within v (w ∷ ws) = cond (within w v) 1 0 + how_many within v ws

-- the pipe leads from u to v or from v to u
abbrev pub Links : {M : Type 0} → ℕ → ℕ → Pipe M → Type 0
Links u v p = ((p.first ≡ u) × (p.second ≡ v)) ⊎ ((p.first ≡ v) × (p.second ≡ u))

-- exactly k of the pipes link u and v, drawn either way, and weigh w
pub data Between {M : Type 0} (u v : ℕ) (w : M) : List (Pipe M) → ℕ → Type 0 where
  none : Between u v w [] zero
  one : {p : Pipe M} {ps : List (Pipe M)} {k : ℕ} → Links u v p → p.weight ≡ w → Between u v w ps k → Between u v w (p ∷ ps) (suc k)
  other : {p : Pipe M} {ps : List (Pipe M)} {k : ℕ} → (Links u v p → p.weight ≢ w) → Between u v w ps k → Between u v w (p ∷ ps) k

-- two nets have the same pipes: for every two nodes and every weight equally many, drawn either way
abbrev pub SamePipes : {M : Type 0} → Moment M → Moment M → Type 0
SamePipes {M} n n' = (u v : ℕ) (w : M) (k : ℕ) → Between u v w n.pipes k ↔ Between u v w n'.pipes k
