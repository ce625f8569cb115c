-- Finite sums, and how many numbers pass a test. Assumes nothing.
use Rattle.std.specs.Prelude.{ℕ, zero, suc, ◌+◌, Bool, cond}

-- the sum of g 0, .., g (n - 1), where `op` adds and `e` is nothing
unfoldable pub fold : {M : Type 0} → M → (M → M → M) → ℕ → (ℕ → M) → M
fold e op zero g = e
fold e op (suc n) g = op (g n) (fold e op n g)

-- how many of the numbers below n pass the test
abbrev pub count : ℕ → (ℕ → Bool) → ℕ
count n x = fold 0 ◌+◌ n (λ i. cond (x i) 1 0)
