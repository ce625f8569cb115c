-- Shapes of nets: pipes between nodes, runs of pipes, parts, closing pipes and the due number. Assumes nothing.
use Rattle.std.specs.Prelude.{◌≡◌, ℕ, suc, ◌+◌, ◌<◌, ◌≤◌, ◌⊎◌, ◌↔◌, List, length, slice_index}

-- the shape of a net: a multigraph. Nodes (vertices) are numbered from 1. Pipes (edges) stand at the places 0, .., pipes - 1, so that
-- pipe number j + 1 stands at the place j; it is drawn from `first j` to `second j`
pub record Shape : Type 0 where
  pub nodes : ℕ
  pub pipes : ℕ
  pub first : ℕ → ℕ
  pub second : ℕ → ℕ

-- v is a node
abbrev pub Node : Shape → ℕ → Type 0
Node N v = (1 ≤ v) × (v ≤ N.nodes)

-- both ends of every pipe are nodes
abbrev pub EndsAreNodes : Shape → Type 0
EndsAreNodes N = (j : ℕ) → j < N.pipes → Node N (N.first j) × Node N (N.second j)

-- the pipe at the place j leads from s to t, with or against its drawing
abbrev pub Crosses : Shape → ℕ → ℕ → ℕ → Type 0
Crosses N j s t = ((N.first j ≡ s) × (N.second j ≡ t)) ⊎ ((N.second j ≡ s) × (N.first j ≡ t))

-- a run (a walk) from s to t: pipes one after the other, all of them at places below k
pub data Run (N : Shape) (k : ℕ) : ℕ → ℕ → Type 0 where
  stay : {s t : ℕ} → s ≡ t → Run N k s t
  cross : {s t : ℕ} (j u : ℕ) → j < k → Crosses N j s u → Run N k u t → Run N k s t

-- two nodes are in one part (a connected component) when a run of pipes joins them
abbrev pub OnePart : Shape → ℕ → ℕ → Type 0
OnePart N s t = Run N N.pipes s t

-- there are k parts: k nodes, no two of them in one part, and every node in one part with one of them
pub record Parts (N : Shape) (k : ℕ) : Type 0 where
  pub of_each : List ℕ
  pub so_many : length of_each ≡ k
  pub nodes : (i : ℕ) → i < k → Node N (slice_index of_each i)
  pub apart : (i j : ℕ) → i < k → j < k → OnePart N (slice_index of_each i) (slice_index of_each j) → i ≡ j
  pub all : (v : ℕ) → Node N v → (i : ℕ) × (i < k) × OnePart N v (slice_index of_each i)

-- the due number (the cycle rank) is pipes - nodes + parts
abbrev pub Due : Shape → ℕ → Type 0
Due N d = (k : ℕ) × Parts N k × (d + N.nodes ≡ N.pipes + k)

-- a pipe is closing when its ends are joined by pipes of lower number
abbrev pub Closing : Shape → ℕ → Type 0
Closing N j = Run N j (N.first j) (N.second j)

-- exactly k of the numbers below n are such
pub data Exactly (Such : ℕ → Type 0) : ℕ → ℕ → Type 0 where
  none : {n k : ℕ} → n ≡ 0 → k ≡ 0 → Exactly Such n k
  one : {n k : ℕ} (m l : ℕ) → n ≡ suc m → k ≡ suc l → Such m → Exactly Such m l → Exactly Such n k
  other : {n k : ℕ} (m : ℕ) → n ≡ suc m → (Such m → ⊥) → Exactly Such m k → Exactly Such n k

-- What is proved of them.

-- to be in one part is an equivalence
pub record PartLaws : Type 0 where
  pub itself : (N : Shape) (v : ℕ) → OnePart N v v
  pub back : (N : Shape) (s t : ℕ) → OnePart N s t → OnePart N t s
  pub through : (N : Shape) (s u t : ℕ) → OnePart N s u → OnePart N u t → OnePart N s t

-- there is one number of parts, and only one
abbrev pub PartsAreCounted : Type 0
PartsAreCounted = (N : Shape) → EndsAreNodes N → (k : ℕ) × Parts N k × ((l : ℕ) → Parts N l → l ≡ k)

-- the due number is the number of closing pipes
abbrev pub DueIsClosing : Type 0
DueIsClosing = (N : Shape) → EndsAreNodes N → (d : ℕ) → Due N d ↔ Exactly (Closing N) N.pipes d
