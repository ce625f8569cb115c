-- The laws of a measure and of a strict measure, at all values. Assumes nothing.
use Rattle.std.specs.Prelude.{◌≡◌, Bool, true, false, ◌⊎◌}

-- a measure, but for `KeepsOrder`: a totally preordered commutative monoid, whose least value is the zero and whose greatest, its top, is the ceiling; `within a b` says that a is at most b
pub record Laws {M : Type 0} (zero ceiling : M) (join : M → M → M) (within : M → M → Bool) : Type 0 where
  pub assoc : (a b c : M) → join (join a b) c ≡ join a (join b c)
  pub comm : (a b : M) → join a b ≡ join b a
  pub neutral : (a : M) → join zero a ≡ a
  pub total : (a b : M) → (within a b ≡ true) ⊎ (within b a ≡ true)
  pub trans : (a b c : M) → within a b ≡ true → within b c ≡ true → within a c ≡ true
  pub least : (a : M) → within zero a ≡ true
  pub greatest : (a : M) → within a ceiling ≡ true

-- equivalent: each is at most the other
abbrev pub Level : {M : Type 0} → (M → M → Bool) → M → M → Type 0
Level within a b = (within a b ≡ true) × (within b a ≡ true)

-- strictly less: the first is at most the second, and the second not at most the first
abbrev pub Lighter : {M : Type 0} → (M → M → Bool) → M → M → Type 0
Lighter within a b = (within a b ≡ true) × (within b a ≡ false)

-- level with the ceiling: the ceiling is at most it
abbrev pub AtCeiling : {M : Type 0} → M → (M → M → Bool) → M → Type 0
AtCeiling ceiling within a = within ceiling a ≡ true

-- the join is monotone: joined to both sides, a third value keeps their order
abbrev pub KeepsOrder : {M : Type 0} → (M → M → M) → (M → M → Bool) → Type 0
KeepsOrder {M} join within = (a b c : M) → within a b ≡ true → within (join a c) (join b c) ≡ true

-- a measure is strict where its join is strictly monotone below the ceiling: joined to both sides, a third value keeps the lighter one lighter, as long as the heavier side stays off the ceiling
abbrev pub KeepsLighter : {M : Type 0} → M → (M → M → M) → (M → M → Bool) → Type 0
KeepsLighter {M} ceiling join within =
    (a b c : M) → Lighter within a b → (AtCeiling ceiling within (join b c) → ⊥) → Lighter within (join a c) (join b c)
