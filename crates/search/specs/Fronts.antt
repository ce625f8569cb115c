-- The choice of the nearest open state. Assumes nothing.
use Rattle.std.specs.Prelude.{◌≡◌, ℕ, ◌<◌, Bool, true, ◌⊎◌, List, Some, None, Option, slice_index_or}
use Rattle.search.specs.declared.mark.Mark.{Mark}
use Rattle.search.specs.Marks.{opened}

module _ {M : Type 0} (none : M) (within : M → M → Bool) where
  pub record Nearest (dist : List M) (marks : List Mark) (states u : ℕ) : Type 0 where
    pub inside : u < states
    pub opens : opened marks u ≡ true
    pub least : (k : ℕ) → k < states → opened marks k ≡ true → within (slice_index_or dist u none) (slice_index_or dist k none) ≡ true

  abbrev pub Picked : List M → List Mark → ℕ → Option ℕ → Type 0
  Picked dist marks states (Some u) = Nearest dist marks states u
  Picked dist marks states None = (k : ℕ) → k < states → opened marks k ≡ true → ⊥

  -- u is best or k, whichever is nearer
  abbrev pub Nearer : List M → Option ℕ → ℕ → ℕ → Type 0
  Nearer dist (Some b) k u = ((u ≡ b) ⊎ (u ≡ k)) × (within (slice_index_or dist u none) (slice_index_or dist b none) ≡ true) × (within (slice_index_or dist u none) (slice_index_or dist k none) ≡ true)
  Nearer dist None k u = u ≡ k

abbrev pub Inside : ℕ → Option ℕ → Type 0
Inside n (Some b) = b < n
Inside n None = Unit {0}
