-- Rows: sets of pipes as four words of 64 bits, their sum and their parity. Assumes nothing.
use Rattle.std.specs.Prelude.{◌≡◌, ℕ, zero, suc, ◌+◌, ◌-◌, ◌*◌, ◌/◌, ◌%◌, ◌^◌, ◌<◌, ◌≤◌, ◌⊎◌, Option, None, Some, Bool, true, false, cond, not, List, [], ◌∷◌, length, ◌==◌, bit_xor, slice_index}

-- a row: a set of pipes (an edge set, as a bit vector)
abbrev pub Row : Type 0
Row = List ℕ

-- bit i of the words, counted from 0: bit i mod 64 of word i div 64, the lowest bit first
unfoldable pub bit : Row → ℕ → Bool
bit row i = slice_index row (i / 64) / 2 ^ (i % 64) % 2 == 1

-- pipe j is in the row; pipes are numbered from 1, so pipe j is bit j - 1
abbrev pub holds : Row → ℕ → Bool
holds row zero = false
holds row (suc i) = bit row i

-- where a pipe from 1 to 256 stands in a row, its word and its bit in that word; no other pipe stands in one
abbrev pub SpotOf : ℕ → Option (ℕ × ℕ) → Type 0
SpotOf pipe None = (pipe ≡ 0) ⊎ (256 < pipe)
SpotOf pipe (Some spot) = (1 ≤ pipe) × (pipe ≤ 256) × (spot.0 ≡ (pipe - 1) / 64) × (spot.1 ≡ (pipe - 1) % 64)

-- four words of 64 bits, as every [u64; 4] is
pub record FourWords (row : Row) : Type 0 where
  pub four : length row ≡ 4
  pub words : (k : ℕ) → slice_index row k < 2 ^ 64

-- the empty set
abbrev pub empty : Row
empty = 0 ∷ (0 ∷ (0 ∷ (0 ∷ [])))

-- the word whose k lowest bits are f 0, .., f (k - 1), the lowest first
unfoldable pub word_of : ℕ → (ℕ → Bool) → ℕ
word_of zero f = 0
word_of (suc k) f = cond (f 0) 1 0 + 2 * word_of k (λ j. f (suc j))

-- the row with the bits f 0, .., f 255: pipe j + 1 is in it where f j is true
unfoldable pub row_of : (ℕ → Bool) → Row
row_of f = word_of 64 f ∷ (word_of 64 (λ j. f (64 + j)) ∷ (word_of 64 (λ j. f (128 + j)) ∷ (word_of 64 (λ j. f (192 + j)) ∷ [])))

-- one of the two and not both (addition over GF(2))
abbrev pub add2 : Bool → Bool → Bool
add2 true b = not b
add2 false b = b

-- the sum of two sets: the pipes that are in an odd number of the two (the symmetric difference)
abbrev pub sum : Row → Row → Row
sum [] ys = []
sum (x ∷ xs) [] = []
sum (x ∷ xs) (y ∷ ys) = bit_xor x y ∷ sum xs ys

-- how many of the pipes 1 to m are in both rows
unfoldable pub common : Row → Row → ℕ → ℕ
common x y zero = 0
common x y (suc m) = cond (holds x (suc m)) (cond (holds y (suc m)) 1 0) 0 + common x y m

-- two sets are odd against each other when they have an odd number of pipes in common (their inner product over GF(2))
abbrev pub odd : Row → Row → Bool
odd x y = common x y 256 % 2 == 1

-- What is proved of them.

-- a row is known by its pipes
abbrev pub KnownByPipes : Type 0
KnownByPipes = (x y : Row) → FourWords x → FourWords y → ((j : ℕ) → holds x j ≡ holds y j) → x ≡ y

-- the sum is a set's: by its pipes, commutative, associative, its own inverse, and the empty set alters nothing
pub record SumLaws : Type 0 where
  pub by_pipes : (x y : Row) → FourWords x → FourWords y → (j : ℕ) → holds (sum x y) j ≡ add2 (holds x j) (holds y j)
  pub stays_row : (x y : Row) → FourWords x → FourWords y → FourWords (sum x y)
  pub comm : (x y : Row) → FourWords x → FourWords y → sum x y ≡ sum y x
  pub assoc : (x y z : Row) → FourWords x → FourWords y → FourWords z → sum (sum x y) z ≡ sum x (sum y z)
  pub inverse : (x : Row) → FourWords x → sum x x ≡ empty
  pub neutral : (x : Row) → FourWords x → sum empty x ≡ x

-- parity does not see the order of the two sets, and is linear
pub record ParityLaws : Type 0 where
  pub symmetric : (x y : Row) → odd x y ≡ odd y x
  pub linear : (x y z : Row) → FourWords x → FourWords y → odd (sum x y) z ≡ add2 (odd x z) (odd y z)
  pub none : (x : Row) → odd empty x ≡ false
