-- What holds of the front during a search, and after it. Assumes nothing.
use Rattle.std.specs.Prelude.{◌≡◌, ℕ, ◌*◌, ◌<◌, true, not, ◌≢◌, List, length, Some, count_by, slice_index_or}
use Rattle.search.specs.declared.mark.Mark.{Mark}
use Rattle.measures.specs.declared.measure.Measure.{Ghosts}
use Rattle.search.specs.declared.front.Front.{Front}
use Rattle.search.specs.Tasks.{Task, task_of, Attained, Walk, arc, weight, even_start}
use Rattle.search.specs.Marks.{is_settled, reached, opened, settled, row_at}

-- the distance of the state k
abbrev pub at : {M : Type 0} → Task M → List M → ℕ → M
at t d k = slice_index_or d k t.none

-- the state across the pipe at the place j from u, if any, is reached, and no farther than by way of u
abbrev pub Eased : {M : Type 0} → Task M → List Mark → List M → ℕ → ℕ → Type 0
Eased t ms d u j = (v : ℕ) → arc t.shape t.support u j ≡ Some v → (reached ms v ≡ true) × (t.within (at t d v) (t.join (at t d u) (weight t j)) ≡ true)

-- what holds of the front at all times
pub record Kept {M : Type 0} (t : Task M) (ms : List Mark) (d : List M) : Type 0 where
  pub marks_sized : length ms ≡ 128
  pub start_reached : reached ms (even_start t) ≡ true
  pub start_zero : at t d (even_start t) ≡ t.none
  pub inside : (k : ℕ) → reached ms k ≡ true → k < 2 * t.shape.nodes
  pub attained : (k : ℕ) → reached ms k ≡ true → Attained t k (row_at ms k) (at t d k)

-- between two turns: the settled states are done
pub record Searching {M : Type 0} (t : Task M) (ms : List Mark) (d : List M) : Type 0 where
  pub kept : Kept t ms d
  pub order : (a b : ℕ) → settled ms a ≡ true → opened ms b ≡ true → t.within (at t d a) (at t d b) ≡ true
  pub eased : (k : ℕ) → settled ms k ≡ true → (j : ℕ) → j < t.shape.pipes → Eased t ms d k j

-- while u is being settled: its pipes before the place i are done
pub record Settling {M : Type 0} (t : Task M) (u i : ℕ) (ms : List Mark) (d : List M) : Type 0 where
  pub kept : Kept t ms d
  pub mine : settled ms u ≡ true
  pub before : (k : ℕ) → settled ms k ≡ true → t.within (at t d k) (at t d u) ≡ true
  pub after : (k : ℕ) → opened ms k ≡ true → t.within (at t d u) (at t d k) ≡ true
  pub eased : (k : ℕ) → settled ms k ≡ true → k ≢ u → (j : ℕ) → j < t.shape.pipes → Eased t ms d k j
  pub done : (j : ℕ) → j < i → Eased t ms d u j

-- the outcome of a search: every walk is to a reached state and at least as heavy as its distance, which a row attains
pub record Shortest {M : Type 0} (t : Task M) (ms : List Mark) (d : List M) : Type 0 where
  pub lower : (v : ℕ) (c : M) → Walk t v c → (reached ms v ≡ true) × (t.within (at t d v) c ≡ true)
  pub attained : (k : ℕ) → reached ms k ≡ true → Attained t k (row_at ms k) (at t d k)

-- the same of a front, with its task, its marks and its distances
module _ {M : Type 0} {m : Ghosts M} (f : Front M m) where
  abbrev pub IsSearching : Type 0
  IsSearching = Searching (task_of f) f.marks f.dist.now

  abbrev pub IsSettling : ℕ → ℕ → Type 0
  IsSettling u i = Settling (task_of f) u i f.marks f.dist.now

  abbrev pub HasShortest : Type 0
  HasShortest = Shortest (task_of f) f.marks f.dist.now

-- how many states are not settled
abbrev pub unsettled : List Mark → ℕ
unsettled ms = count_by (λ m. not (is_settled m)) ms
