-- Vectors over GF(2): selections and bases, rings with their tests, the exchange, and orders. What the theory of closed sets is an instance
-- of. Assumes nothing.
use Rattle.std.proofs.Common.{◌≡◌, ℕ, zero, suc, ◌<◌, Bool, true, false, cond, eqb, ◌⊎◌}
use Rattle.cycle_space.specs.Sums.{fold}
use Rattle.cycle_space.proofs.Folds.{Comm}
use Rattle.cycle_space.proofs.Counting.{Different}

-- the sum of those of B 0, .., B (n - 1) that s picks
abbrev pub picked : {M : Type 0} → M → (M → M → M) → ℕ → (ℕ → M) → (ℕ → Bool) → M
picked e op n B s = fold e op n (λ i. cond (s i) (B i) e)

-- a space over GF(2), by its members
pub record Space {M : Type 0} (e : M) (op : M → M → M) (In : M → Type 0) : Type 0 where
  pub group : Comm e op
  pub twice : (x : M) → op x x ≡ e
  pub has : In e
  pub sums : (x y : M) → In x → In y → In (op x y)

-- B 0, .., B (n - 1) are a basis of the space: members of it, and each member of it is the sum of exactly one selection
pub record Spans {M : Type 0} (e : M) (op : M → M → M) (In : M → Type 0) (n : ℕ) (B : ℕ → M) : Type 0 where
  pub members : (i : ℕ) → i < n → In (B i)
  pub spans : (x : M) → In x → (s : ℕ → Bool) × (picked e op n B s ≡ x)
  pub unique : (s t : ℕ → Bool) → picked e op n B s ≡ picked e op n B t → (i : ℕ) → i < n → s i ≡ t i

-- the rings C 0, .., C (k - 1) with the tests S 0, ..
pub record Rings {M V : Type 0} (In : M → Type 0) (leq : V → V → Bool) (w : M → V) (S : ℕ → M → Bool) (k : ℕ) (C : ℕ → M) : Type 0 where
  pub inside : (i : ℕ) → i < k → In (C i)
  pub own : (i : ℕ) → i < k → S i (C i) ≡ true
  pub earlier : (i j : ℕ) → j < i → i < k → S i (C j) ≡ false
  pub least : (i : ℕ) → i < k → (x : M) → In x → S i x ≡ true → leq (w (C i)) (w x) ≡ true

-- B with B (f i) replaced by C i, for each i < k
abbrev pub replaced : {M : Type 0} → (ℕ → M) → (ℕ → M) → (ℕ → ℕ) → ℕ → ℕ → M
replaced B C f zero j = B j
replaced B C f (suc k) j = cond (eqb j (f k)) (C k) (replaced B C f k j)

-- at k different places f 0, .. of the basis B stand members that weigh no less than C 0, .., and C 0, .. put there leave a basis
pub record Exchanged {M V : Type 0} (e : M) (op : M → M → M) (In : M → Type 0) (leq : V → V → Bool) (w : M → V) (k : ℕ) (C : ℕ → M) (n : ℕ) (B : ℕ → M) (f : ℕ → ℕ) : Type 0 where
  pub places : Different k n f
  pub heavier : (i : ℕ) → i < k → leq (w (C i)) (w (B (f i))) ≡ true
  pub basis : Spans e op In n (replaced B C f k)

-- a total preorder
pub record Order {V : Type 0} (leq : V → V → Bool) : Type 0 where
  pub total : (a b : V) → (leq a b ≡ true) ⊎ (leq b a ≡ true)
  pub trans : (a b c : V) → leq a b ≡ true → leq b c ≡ true → leq a c ≡ true

-- a commutative monoid with a total preorder that it keeps
pub record Joins {V : Type 0} (leq : V → V → Bool) (least : V) (join : V → V → V) : Type 0 where
  pub order : Order leq
  pub monoid : Comm least join
  pub mono : (a b c : V) → leq a b ≡ true → leq (join a c) (join b c) ≡ true
