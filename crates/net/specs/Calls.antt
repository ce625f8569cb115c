-- When a call is declined, what an accepted call makes of a net, and what a question answers. Assumes nothing.
use Rattle.std.specs.Prelude.{◌≡◌, ℕ, ◌+◌, ◌-◌, ◌*◌, ◌<◌, ◌≤◌, Bool, List, [], ◌∷◌, ◌++◌, length, replicate, Ok, Err, Result, slice_index_or, slice_set}
use Rattle.cycle_space.specs.Rows.{Row, empty}
use Rattle.cycle_space.specs.Shapes.{Node, Due}
use Rattle.cycle_space.specs.Supports.{Extended}
use Rattle.cycle_space.specs.Lightest.{LightestOdd}
use Rattle.cycle_space.specs.Moments.{shape, weights, weight, HasPipe, bare, add_node, add_pipe, drop_last, reweigh_pipe}
use Rattle.net.specs.Refusals.{NoneApplies, Smallest}
use Rattle.net.specs.Views.{view, rings, support}
use Rattle.net.specs.declared.net.Net.{Net}
use Rattle.cycle_space.specs.declared.ends.Ends.{Ends}
use Rattle.net.specs.declared.refusal.Refusal.{Refusal}
use Rattle.net.specs.declared.refusal.Refusal.TheVariants.{NodesFull, NoSuchNode, OneNode, PipesFull, NoSuchPipe, Complete, ScratchTooShort, NoSuchRing}
use Rattle.net.specs.declared.refusal.NoRow.{NoRow}

-- a call is accepted where no refusal applies, and then it does what is to be done; else the smallest number that applies is given, and
-- the net and its column are as they were
abbrev pub Replied : {M Reply : Type 0} → (Refusal → Type 0) → (Reply → Net M → Type 0) → Net M → Result Reply Refusal → Net M → Type 0
Replied Applies Done n (Ok k) n' = NoneApplies Applies × Done k n'
Replied Applies Done n (Err e) n' = Smallest Applies e × (n' ≡ n)

-- a question is answered where no refusal applies; else the smallest number that applies is given
abbrev pub Answered : {Reply : Type 0} → (Refusal → Type 0) → (Reply → Type 0) → Result Reply Refusal → Type 0
Answered Applies Right (Ok x) = NoneApplies Applies × Right x
Answered Applies Right (Err e) = Smallest Applies e

-- Open

-- no nodes, no pipes, no rings, places for 256 rows and 256 supports, all zero, and the column as it was brought
pub record Opened {M : Type 0} (column : List M) (n : Net M) : Type 0 where
  pub nothing : view n ≡ bare
  pub no_rings : rings n ≡ []
  pub rows_zero : n.tables.rows ≡ replicate 256 (record { words = empty })
  pub supports_zero : n.tables.supports ≡ replicate 256 (record { words = empty })
  pub as_brought : n.column.now ≡ column

-- Add-node

-- when a refusal applies to add-node
abbrev pub AddDeclined : {M : Type 0} → Net M → Refusal → Type 0
AddDeclined n e = (e ≡ NodesFull) × ((view n).nodes ≡ 64)

-- the node k is added; rings found and supports remain
pub record Added {M : Type 0} (n : Net M) (k : ℕ) (n' : Net M) : Type 0 where
  pub next_number : k ≡ (view n).nodes + 1
  pub one_more : view n' ≡ add_node (view n)
  pub rings_remain : rings n' ≡ rings n
  pub supports_remain : (i : ℕ) → support n' i ≡ support n i
  pub column_stays : n'.column.now ≡ n.column.now

abbrev pub AddsNode : {M : Type 0} → Net M → Result ℕ Refusal → Net M → Type 0
AddsNode n r n' = Replied (AddDeclined n) (Added n) n r n'

-- Lay

-- there is a place for one more pipe
abbrev pub Room : {M : Type 0} → Net M → Type 0
Room n = (length (view n).pipes < 256) × (length (view n).pipes < length n.column.now)

-- when a refusal applies to lay
pub data LayDeclined {M : Type 0} (n : Net M) (a b : ℕ) (e : Refusal) : Type 0 where
  end_is_no_node : e ≡ NoSuchNode → (Node (shape (view n)) a × Node (shape (view n)) b → ⊥) → LayDeclined n a b e
  ends_are_one : e ≡ OneNode → a ≡ b → LayDeclined n a b e
  no_room : e ≡ PipesFull → (Room n → ⊥) → LayDeclined n a b e

-- the pipe k is laid from a to b, its weight in the next place of the column; the rings are struck
pub record Laid {M : Type 0} (n : Net M) (a b : ℕ) (w : M) (k : ℕ) (n' : Net M) : Type 0 where
  pub next_number : k ≡ length (view n).pipes + 1
  pub one_more : view n' ≡ add_pipe (view n) a b w
  pub rings_struck : rings n' ≡ []
  pub next_place : n'.column.now ≡ slice_set n.column.now (length (view n).pipes) w

abbrev pub Lays : {M : Type 0} → Net M → ℕ → ℕ → M → Result ℕ Refusal → Net M → Type 0
Lays n a b w r n' = Replied (LayDeclined n a b) (Laid n a b w) n r n'

-- Lift

-- when a refusal applies to lift
abbrev pub LiftDeclined : {M : Type 0} → Net M → Refusal → Type 0
LiftDeclined n e = (e ≡ NoSuchPipe) × ((view n).pipes ≡ [])

-- the pipe k, of highest number, is taken away; the rings are struck
pub record Lifted {M : Type 0} (n : Net M) (k : ℕ) (n' : Net M) : Type 0 where
  pub highest_number : k ≡ length (view n).pipes
  pub one_less : view n' ≡ drop_last (view n)
  pub rings_struck : rings n' ≡ []
  pub column_stays : n'.column.now ≡ n.column.now

abbrev pub Lifts : {M : Type 0} → Net M → Result ℕ Refusal → Net M → Type 0
Lifts n r n' = Replied (LiftDeclined n) (Lifted n) n r n'

-- Reweigh, and questions about a pipe

-- when a refusal applies to a call that names the pipe j
abbrev pub PipeDeclined : {M : Type 0} → Net M → ℕ → Refusal → Type 0
PipeDeclined n j e = (e ≡ NoSuchPipe) × (HasPipe (view n) j → ⊥)

-- pipe j has the weight w; the rings are struck
pub record Reweighed {M : Type 0} (n : Net M) (j : ℕ) (w : M) (n' : Net M) : Type 0 where
  pub other_weight : view n' ≡ reweigh_pipe (view n) j w
  pub rings_struck : rings n' ≡ []
  pub its_place : n'.column.now ≡ slice_set n.column.now (j - 1) w

abbrev pub Reweighs : {M Reply : Type 0} → Net M → ℕ → M → Result Reply Refusal → Net M → Type 0
Reweighs n j w r n' = Replied (PipeDeclined n j) (λ _. Reweighed n j w) n r n'

-- the ends of pipe j
pub record EndsOf {M : Type 0} (n : Net M) (j : ℕ) (e : Ends) : Type 0 where
  pub first_end : e.first ≡ (shape (view n)).first (j - 1)
  pub second_end : e.second ≡ (shape (view n)).second (j - 1)

abbrev pub TellsEnds : {M : Type 0} → Net M → ℕ → Result Ends Refusal → Type 0
TellsEnds n j r = Answered (PipeDeclined n j) (EndsOf n j) r

-- the weight of pipe j; where there is such a pipe, what stands for a missing weight (here w itself) is not read
abbrev pub WeightOf : {M : Type 0} → Net M → ℕ → M → Type 0
WeightOf n j w = w ≡ slice_index_or (weights (view n)) (j - 1) w

abbrev pub TellsWeight : {M : Type 0} → Net M → ℕ → Result M Refusal → Type 0
TellsWeight n j r = Answered (PipeDeclined n j) (WeightOf n j) r

-- Next

-- when a refusal applies to next
pub data NextDeclined {M : Type 0} (n : Net M) (scratch : List M) (e : Refusal) : Type 0 where
  all_found : e ≡ Complete → Due (shape (view n)) (length (rings n)) → NextDeclined n scratch e
  scratch_short : e ≡ ScratchTooShort → length scratch < 2 * (view n).nodes → NextDeclined n scratch e

module _ {M : Type 0} (none : M) (join : M → M → M) (within : M → M → Bool) where
  -- ring number k is found: a lightest closed set odd against its support, which is added to every later support that is odd against the
  -- ring; no node, pipe, weight, earlier row or earlier support changes
  pub record FoundNext (n : Net M) (k : ℕ) (n' : Net M) : Type 0 where
    pub ring : Row
    pub next_number : k ≡ length (rings n) + 1
    pub lightest : LightestOdd none join within (shape (view n)) (weights (view n)) (support n k) ring
    pub one_more : rings n' ≡ rings n ++ (ring ∷ [])
    pub later_supports : Extended k (support n) ring (support n')
    pub net_stays : view n' ≡ view n
    pub column_stays : n'.column.now ≡ n.column.now

  -- next, with what the scratch holds before and after: a refusal leaves it, and what an accepted next leaves in it is free
  pub record FindsNext (n : Net M) (scratch : List M) (r : Result ℕ Refusal) (n' : Net M) (scratch' : List M) : Type 0 where
    pub replied : Replied (NextDeclined n scratch) (FoundNext n) n r n'
    pub declined_scratch : (e : Refusal) → r ≡ Err e → scratch' ≡ scratch
    pub as_long : length scratch' ≡ length scratch

-- Questions about a ring

-- ring i is found
abbrev pub HasRing : {M : Type 0} → Net M → ℕ → Type 0
HasRing n i = (1 ≤ i) × (i ≤ length (rings n))

-- when a refusal applies to a question about ring i
abbrev pub RingDeclined : {M : Type 0} → Net M → ℕ → Refusal → Type 0
RingDeclined n i e = (e ≡ NoSuchRing) × (HasRing n i → ⊥)

-- the row of ring i
abbrev pub ring_row : {M : Type 0} → Net M → ℕ → Row
ring_row n i = slice_index_or (rings n) (i - 1) empty

-- a question for a row: where it is declined, a row of zeros stands beside the refusal
abbrev pub TellsRow : {M : Type 0} → Net M → ℕ → Row → Result Row NoRow → Type 0
TellsRow n i row (Ok x) = NoneApplies (RingDeclined n i) × (x ≡ row)
TellsRow n i row (Err e) = Smallest (RingDeclined n i) e.refusal × (e.row ≡ empty)

-- the weight of ring i
abbrev pub TellsRingWeight : {M : Type 0} → M → (M → M → M) → Net M → ℕ → Result M Refusal → Type 0
TellsRingWeight none join n i r = Answered (RingDeclined n i) (λ w. w ≡ weight none join (view n) (ring_row n i)) r
