-- Pairs of measures: joined part by part, and weighed by the first part first. Assumes nothing.
use Rattle.std.specs.Prelude.{◌≡◌, Bool, not, ◌&&◌, ◌||◌}
use Rattle.measures.specs.Laws.{Level, Lighter, AtCeiling}
use Rattle.measures.specs.declared.pairs.Pair.{Pair}

-- the pair of two values
abbrev pub both : {X Y : Type 0} → X → Y → Pair X Y
both x y = record { first = x; second = y }

-- the join: the product of the two monoids
abbrev pub part_by_part : {X Y : Type 0} → (X → X → X) → (Y → Y → Y) → Pair X Y → Pair X Y → Pair X Y
part_by_part join₁ join₂ p q = both (join₁ p.first q.first) (join₂ p.second q.second)

-- at most, the lexicographic order but for the ceiling: both firsts are at the ceiling; or p's first is the lighter; or the firsts are level, and p's second is at most q's
abbrev pub not_heavier : {X Y : Type 0} → X → (X → X → Bool) → (Y → Y → Bool) → Pair X Y → Pair X Y → Bool
not_heavier ceiling within₁ within₂ p q =
    (within₁ ceiling p.first && within₁ ceiling q.first)
    || (not (within₁ q.first p.first)
    || (within₁ p.first q.first && within₂ p.second q.second))

-- the same as a rule: pairs whose firsts are both at the ceiling are level; otherwise the lighter first decides, and between level firsts the seconds
pub record FirstDecides {X Y : Type 0} (ceiling : X) (within₁ : X → X → Bool) (within₂ : Y → Y → Bool) : Type 0 where
  pub full : (p q : Pair X Y) → AtCeiling ceiling within₁ p.first → AtCeiling ceiling within₁ q.first → Level (not_heavier ceiling within₁ within₂) p q
  pub apart : (p q : Pair X Y) → Lighter within₁ p.first q.first → Lighter (not_heavier ceiling within₁ within₂) p q
  pub even : (p q : Pair X Y) → (AtCeiling ceiling within₁ p.first → ⊥) → Level within₁ p.first q.first → not_heavier ceiling within₁ within₂ p q ≡ within₂ p.second q.second
