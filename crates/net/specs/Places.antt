-- Numbers from 1 on, and the places from 0 on where what they number stands. Assumes nothing.
use Rattle.std.specs.Prelude.{◌≡◌, ℕ, ◌+◌, ◌<◌, ◌≤◌, Option, None, Some}

-- the number is that of this place, one of the first `count`
pub record IsPlace (number count place : ℕ) : Type 0 where
  pub next : number ≡ place + 1
  pub within : place < count

-- the place of a number from 1 to `count`; no other number has one
abbrev pub PlaceOf : ℕ → ℕ → Option ℕ → Type 0
PlaceOf number count None = (1 ≤ number) × (number ≤ count) → ⊥
PlaceOf number count (Some place) = IsPlace number count place
