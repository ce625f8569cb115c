-- Closed sets of pipes (the cycle space over GF(2)) and bases of them. Assumes nothing.
use Rattle.std.specs.Prelude.{◌≡◌, ℕ, zero, suc, ◌+◌, ◌%◌, ◌<◌, Bool, false, cond, List, [], ◌∷◌, length, ◌==◌, slice_index_or}
use Rattle.cycle_space.specs.Rows.{Row, holds, empty, sum, FourWords}
use Rattle.cycle_space.specs.Shapes.{Shape}

-- a set of the pipes 1, .., m: all other bits are 0
pub record OfPipes (m : ℕ) (row : Row) : Type 0 where
  pub words : FourWords row
  pub others : (j : ℕ) → m < j → holds row j ≡ false

-- how many ends at the node v have those of the first m pipes that are in the row
unfoldable pub touching : Shape → Row → ℕ → ℕ → ℕ
touching N row v zero = 0
touching N row v (suc m) =
    cond (holds row (suc m)) (cond (N.first m == v) 1 0 + cond (N.second m == v) 1 0) 0 + touching N row v m

-- a closed set (an element of the cycle space): every node is touched by an even number of its pipes. A pipe that led from a node to
-- itself would touch it twice
pub record Closed (N : Shape) (row : Row) : Type 0 where
  pub of_pipes : OfPipes N.pipes row
  pub even : (v : ℕ) → touching N row v N.pipes % 2 ≡ 0

-- the sum of the sets that a selection chooses from a list
abbrev pub chosen : List Row → List Bool → Row
chosen [] bs = empty
chosen (x ∷ xs) [] = empty
chosen (x ∷ xs) (b ∷ bs) = cond b (sum x (chosen xs bs)) (chosen xs bs)

-- a basis: a list of closed sets such that every closed set is the sum of exactly one selection from the list
pub record Basis (N : Shape) (rows : List Row) : Type 0 where
  pub members : (i : ℕ) → i < length rows → Closed N (slice_index_or rows i empty)
  pub spans : (x : Row) → Closed N x → (bs : List Bool) × (length bs ≡ length rows) × (chosen rows bs ≡ x)
  pub once : (bs cs : List Bool) → length bs ≡ length rows → length cs ≡ length rows → chosen rows bs ≡ chosen rows cs → bs ≡ cs
