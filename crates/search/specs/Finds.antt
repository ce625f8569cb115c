-- The lightest odd closed set through one start, through some starts, and of all. Assumes nothing.
use Rattle.std.specs.Prelude.{◌≡◌, ℕ, ◌<◌, Bool, true, cond, Some, None, Option, ◌≢◌}
use Rattle.cycle_space.specs.Rows.{Row, bit, odd}
use Rattle.cycle_space.specs.Bases.{Closed}
use Rattle.search.specs.Tasks.{Task, Walk, odd_start, row_weight}
use Rattle.search.specs.declared.lightest.Candidate.{Candidate}

-- the same task from another start
abbrev pub at_start : {M : Type 0} → Task M → ℕ → Task M
at_start t s =
    record { none = t.none; join = t.join; within = t.within; shape = t.shape; weights = t.weights; support = t.support; start = s }

-- a pipe of the support is drawn from the node s
abbrev pub Start : {M : Type 0} → Task M → ℕ → Type 0
Start t s = (j : ℕ) × (j < t.shape.pipes) × (bit t.support j ≡ true) × (t.shape.first j ≡ s)

-- the lighter of two
abbrev pub choose : {M : Type 0} → (M → M → Bool) → Option (Candidate M) → Option (Candidate M) → Option (Candidate M)
choose within None b = b
choose within (Some x) None = Some x
choose within (Some x) (Some y) = cond (within x.weight y.weight) (Some x) (Some y)

-- a closed set, odd against the support, of at most its weight
pub record Good {M : Type 0} (t : Task M) (f : Candidate M) : Type 0 where
  pub closed : Closed t.shape f.row
  pub is_odd : odd f.row t.support ≡ true
  pub weighs : t.within (row_weight t f.row) f.weight ≡ true

-- no odd closed walk from the start is lighter
abbrev pub ClosedThrough : {M : Type 0} → Task M → Option (Candidate M) → Type 0
ClosedThrough {M} t (Some f) = Good t f × ((c : M) → Walk t (odd_start t) c → t.within f.weight c ≡ true)
ClosedThrough {M} t None = (c : M) → Walk t (odd_start t) c → ⊥

-- no odd closed walk from a start below k is lighter
abbrev pub Least : {M : Type 0} → Task M → ℕ → Option (Candidate M) → Type 0
Least {M} t k (Some f) =
    Good t f × ((s : ℕ) → s < k → Start t s → (c : M) → Walk (at_start t s) (odd_start (at_start t s)) c → t.within f.weight c ≡ true)
Least {M} t k None = (s : ℕ) → s < k → Start t s → (c : M) → Walk (at_start t s) (odd_start (at_start t s)) c → ⊥

-- no odd closed set is lighter, and where nothing is found there is none
abbrev pub Lightest : {M : Type 0} → Task M → Option (Candidate M) → Type 0
Lightest t (Some f) = Good t f × ((x : Row) → Closed t.shape x → odd x t.support ≡ true → t.within f.weight (row_weight t x) ≡ true)
Lightest t None = (x : Row) → Closed t.shape x → odd x t.support ≢ true
