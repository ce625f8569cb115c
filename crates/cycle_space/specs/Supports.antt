-- Supports (witnesses): a set of pipes for each ring, against which the ring is odd and every earlier ring even. Rings and supports are
-- counted from 0 here. Assumes nothing.
use Rattle.std.specs.Prelude.{◌≡◌, ℕ, suc, ◌<◌, ◌≤◌, true, false, ◌&&◌, ◌↔◌, List, length, ◌==◌, nat_lt}
use Rattle.cycle_space.specs.Sums.{count}
use Rattle.cycle_space.specs.Rows.{Row, bit, holds, empty, row_of, sum, odd}
use Rattle.cycle_space.specs.Shapes.{Shape, EndsAreNodes, Due, Closing, Exactly}
use Rattle.cycle_space.specs.Labels.{closes}
use Rattle.cycle_space.specs.Bases.{OfPipes, Closed, Basis}

-- how many pipes are closing
abbrev pub rank : Shape → ℕ
rank N = count N.pipes (closes N)

-- how many closing pipes stand before the place j
abbrev pub before : Shape → ℕ → ℕ
before N j = count j (closes N)

-- the row that holds only the closing pipe with i closing pipes before it; empty where there is none such
unfoldable pub alone : Shape → ℕ → Row
alone N i = row_of (λ j. nat_lt j N.pipes && (closes N j && before N j == i))

-- what is kept of the rings 0, .., k - 1 and of the supports, one for each closing pipe, whatever the pipes weigh
pub record Sound (N : Shape) (k : ℕ) (ring support : ℕ → Row) : Type 0 where
  pub few_pipes : N.pipes ≤ 256
  pub not_over : k ≤ rank N
  -- a support holds its own closing pipe, and besides only lower closing pipes
  pub of_pipes : (i : ℕ) → i < rank N → OfPipes N.pipes (support i)
  pub own : (j : ℕ) → j < N.pipes → closes N j ≡ true → bit (support (before N j)) j ≡ true
  pub lower : (i j : ℕ) → i < rank N → bit (support i) j ≡ true → (closes N j ≡ true) × (before N j ≤ i)
  -- each ring is closed, odd against its support, and even against the later ones
  pub closed : (i : ℕ) → i < k → Closed N (ring i)
  pub own_odd : (i : ℕ) → i < k → odd (ring i) (support i) ≡ true
  pub later_even : (i j : ℕ) → i < k → i < j → j < rank N → odd (ring i) (support j) ≡ false

-- the ring c is found next, and the later supports are made even against it
pub record Extended (k : ℕ) (support : ℕ → Row) (c : Row) (support' : ℕ → Row) : Type 0 where
  pub earlier_stay : (i : ℕ) → i ≤ k → support' i ≡ support i
  pub even_stay : (i : ℕ) → k < i → odd c (support i) ≡ false → support' i ≡ support i
  pub odd_turn : (i : ℕ) → k < i → odd c (support i) ≡ true → support' i ≡ sum (support i) (support k)

-- What is proved of them.

-- the row of the closing pipe i alone holds just a closing pipe with exactly i closing pipes before it
abbrev pub AloneHolds : Type 0
AloneHolds =
    (N : Shape) → N.pipes ≤ 256 → (i j : ℕ)
    → (holds (alone N i) (suc j) ≡ true) ↔ ((j < N.pipes) × Closing N j × Exactly (Closing N) j i)

-- every shape has a basis, of as many sets as it has closing pipes
abbrev pub BasesExist : Type 0
BasesExist = (N : Shape) → N.pipes ≤ 256 → (rows : List Row) × (length rows ≡ rank N) × Basis N rows

-- a closed set without closing pipes is empty
abbrev pub ClosingPipesTell : Type 0
ClosingPipesTell =
    (N : Shape) → N.pipes ≤ 256 → (x : Row) → Closed N x → ((j : ℕ) → j < N.pipes → holds x (suc j) ≡ true → Closing N j → ⊥) → x ≡ empty

-- every basis has as many members as the due number says
abbrev pub BasesHaveDueSize : Type 0
BasesHaveDueSize = (N : Shape) → EndsAreNodes N → N.pipes ≤ 256 → (rows : List Row) → Basis N rows → Due N (length rows)
