-- What is promised of every net after every list of calls, against any rival's basis. Assumes nothing.
use Rattle.std.specs.Prelude.{◌≡◌, ℕ, ◌+◌, ◌<◌, Bool, true, ◌↔◌, List, map, length, Ok, Err, Result, slice_index_or}
use Rattle.cycle_space.specs.Rows.{Row, empty}
use Rattle.cycle_space.specs.Shapes.{Due}
use Rattle.cycle_space.specs.Moments.{shape, weight}
use Rattle.cycle_space.specs.Bases.{Basis}
use Rattle.cycle_space.specs.Rivals.{Exchanges, joined_weight, how_many, SamePipes}
use Rattle.net.specs.Views.{view, rings}
use Rattle.net.specs.Calls.{Opened, FindsNext, ring_row, TellsRow}
use Rattle.net.specs.Histories.{Call, moment, found, Leads}
use Rattle.net.specs.declared.net.Net.{Net}
use Rattle.net.specs.declared.refusal.Refusal.{Refusal}
use Rattle.net.specs.declared.refusal.Refusal.TheVariants.{Complete}

-- the net answers these k rows for the rings 1 to k
pub record Answers {M : Type 0} (n : Net M) (k : ℕ) (rows : List Row) : Type 0 where
  pub so_many : length rows ≡ k
  pub each : (i : ℕ) → i < k → TellsRow n (i + 1) (ring_row n (i + 1)) (Ok (slice_index_or rows i empty))

module _ {M : Type 0} (none : M) (join : M → M → M) (within : M → M → Bool) where
  -- what holds of a net after the calls h, and of our rings in it
  pub record Stands (h : List (Call M)) (n : Net M) : Type 0 where
    -- the net is what the accepted calls have made, and our rings are the rows that it answers, as many as nexts were accepted since the
    -- latest call that struck rings
    pub net_as_called : view n ≡ moment h
    pub rings_as_answered : Answers n (found h) (rings n)
    -- different members of any basis can be exchanged for our rings, each for a ring that weighs at most as much, leaving a basis
    pub exchanges_with_any_basis : (rival : List Row) → Basis (shape (moment h)) rival → Exchanges none join within (moment h) (rings n) rival
    -- whatever scratch it gets, next is declined as complete exactly when our rings are a basis
    pub complete_exactly_when_basis : (scratch scratch' : List M) (r : Result ℕ Refusal) (n' : Net M) → FindsNext none join within n scratch r n' scratch'
        → (r ≡ Err Complete) ↔ Basis (shape (moment h)) (rings n)
    -- and then no basis has a lighter joined weight
    pub lightest_when_basis : Basis (shape (moment h)) (rings n) → (rival : List Row) → Basis (shape (moment h)) rival
        → within (joined_weight none join (moment h) (rings n)) (joined_weight none join (moment h) rival) ≡ true
    -- a second net of ours, worked likewise, with the same pipes in any order: when both are complete, then for each value both have
    -- equally many rings of at most that weight
    pub equally_many_at_most : (column : List M) (start' : Net M) → Opened column start'
        → (h' : List (Call M)) (n' : Net M) → Leads none join within start' h' n'
        → SamePipes (moment h) (moment h') → Due (shape (moment h)) (found h) → Due (shape (moment h')) (found h')
        → (v : M) → how_many within v (map (weight none join (moment h)) (rings n)) ≡ how_many within v (map (weight none join (moment h')) (rings n'))

  -- after every list of calls on a net, whatever was called and replied
  abbrev pub KeepsItsPromise : Net M → Type 0
  KeepsItsPromise start = (h : List (Call M)) (n : Net M) → Leads none join within start h n → Stands h n
