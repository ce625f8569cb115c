-- Pairs keep the laws of a measure, their first part decides, and they keep the order where that part keeps the lighter one lighter. Assumes nothing.
use Rattle.std.specs.Prelude.{◌≡◌, Bool, true, false, not, ◌&&◌, ◌||◌, ◌⊎◌, ◌≢◌, refl}
use Rattle.std.proofs.Common.{sym, ap, ◌∙◌, inl, inr}
use Rattle.std.proofs.lemmas.Bool.{both_ways, and_parts, and_from, and_right, or_from, or_left, or_right, not_from_false, cases_Bool}
use Rattle.measures.specs.Laws.{Laws, AtCeiling, KeepsOrder, KeepsLighter}
use Rattle.measures.specs.declared.pairs.Pair.{Pair}
use Rattle.measures.specs.Pairs.{both, part_by_part, not_heavier, FirstDecides}

-- the three ways in which a pair is at most another
abbrev Way : {X Y : Type 0} → X → (X → X → Bool) → (Y → Y → Bool) → Pair X Y → Pair X Y → Type 0
Way ceiling within₁ within₂ p q =
    (AtCeiling ceiling within₁ p.first × AtCeiling ceiling within₁ q.first)
    ⊎ ((within₁ q.first p.first ≡ false)
    ⊎ ((within₁ p.first q.first ≡ true) × (within₂ p.second q.second ≡ true)))

split : (f g l m n : Bool) → ((f && g) || (not l || (m && n))) ≡ true → ((f ≡ true) × (g ≡ true)) ⊎ ((l ≡ false) ⊎ ((m ≡ true) × (n ≡ true)))
split true true l m n e = inl (refl, refl)
split true false false m n e = inr (inl refl)
split true false true m n e = inr (inr (and_parts m n e))
split false g false m n e = inr (inl refl)
split false g true m n e = inr (inr (and_parts m n e))

unsplit : (f g l m n : Bool) → ((f ≡ true) × (g ≡ true)) ⊎ ((l ≡ false) ⊎ ((m ≡ true) × (n ≡ true))) → ((f && g) || (not l || (m && n))) ≡ true
unsplit f g l m n (inl w) = or_left (f && g) _ (and_from f g w.0 w.1)
unsplit f g l m n (inr (inl w)) = or_right (f && g) _ (or_left (not l) _ (not_from_false l w))
unsplit f g l m n (inr (inr w)) = or_right (f && g) _ (or_right (not l) _ (and_from m n w.0 w.1))

heavy : (f g l m n : Bool) → g ≡ false → l ≡ true → m ≡ false → ((f && g) || (not l || (m && n))) ≡ false
heavy f g l m n low e d = or_from (f && g) _ (and_right f g low) (λ i. not (e i) || (d i && n))

evens : (f g l m n : Bool) → (f ≢ true) → l ≡ true → m ≡ true → ((f && g) || (not l || (m && n))) ≡ n
evens true g l m n h e d = absurd (h refl)
evens false g l m n h e d = λ i. not (e i) || (d i && n)

module _ {X Y : Type 0} (ceiling : X) (within₁ : X → X → Bool) (within₂ : Y → Y → Bool) (p q : Pair X Y) where
  way_of : not_heavier ceiling within₁ within₂ p q ≡ true → Way ceiling within₁ within₂ p q
  way_of = split (within₁ ceiling p.first) (within₁ ceiling q.first) (within₁ q.first p.first) (within₁ p.first q.first) (within₂ p.second q.second)

  by_way : Way ceiling within₁ within₂ p q → not_heavier ceiling within₁ within₂ p q ≡ true
  by_way = unsplit (within₁ ceiling p.first) (within₁ ceiling q.first) (within₁ q.first p.first) (within₁ p.first q.first) (within₂ p.second q.second)

module _ {X : Type 0} {zero₁ ceiling₁ : X} {join₁ : X → X → X} {within₁ : X → X → Bool} (laws₁ : Laws zero₁ ceiling₁ join₁ within₁) {Y : Type 0} {zero₂ ceiling₂ : Y} {join₂ : Y → Y → Y} {within₂ : Y → Y → Bool} (laws₂ : Laws zero₂ ceiling₂ join₂ within₂) where
  not_lighter : {x y : X} → within₁ x y ≡ false → within₁ y x ≡ true
  not_lighter {x} {y} h = elim (laws₁.total x y) [ inl t ↦ absurd (both_ways _ h t) | inr t ↦ t ]

  total_ways : (a b : Pair X Y) → Way ceiling₁ within₁ within₂ a b ⊎ Way ceiling₁ within₁ within₂ b a
  total_ways a b = elim (cases_Bool (within₁ a.first b.first)) [
    | inr h ↦ inr (inr (inl h))
    | inl h ↦ elim (cases_Bool (within₁ b.first a.first)) [
      | inr k ↦ inl (inr (inl k))
      | inl k ↦ elim (laws₂.total a.second b.second) [ inl s ↦ inl (inr (inr (h, s))) | inr s ↦ inr (inr (inr (k, s))) ]
    ]
  ]

  -- where c's first is not the heavier
  trans_ways : (a b c : Pair X Y) → within₁ c.first a.first ≡ true → Way ceiling₁ within₁ within₂ a b → Way ceiling₁ within₁ within₂ b c → Way ceiling₁ within₁ within₂ a c
  trans_ways a b c h (inl p) (inl q) = inl (p.0, q.1)
  trans_ways a b c h (inl p) (inr (inl q)) = absurd (both_ways _ q (laws₁.trans _ _ _ (laws₁.greatest c.first) p.1))
  trans_ways a b c h (inl p) (inr (inr q)) = inl (p.0, laws₁.trans _ _ _ p.1 q.0)
  trans_ways a b c h (inr p) (inl q) = inl (laws₁.trans _ _ _ q.1 h, q.1)
  trans_ways a b c h (inr (inl p)) (inr (inl q)) = absurd (both_ways _ p (laws₁.trans _ _ _ (not_lighter q) h))
  trans_ways a b c h (inr (inl p)) (inr (inr q)) = absurd (both_ways _ p (laws₁.trans _ _ _ q.0 h))
  trans_ways a b c h (inr (inr p)) (inr (inl q)) = absurd (both_ways _ q (laws₁.trans _ _ _ h p.0))
  trans_ways a b c h (inr (inr p)) (inr (inr q)) = inr (inr (laws₁.trans _ _ _ p.0 q.0, laws₂.trans _ _ _ p.1 q.1))

  pub pair_laws : Laws (both zero₁ zero₂) (both ceiling₁ ceiling₂) (part_by_part join₁ join₂) (not_heavier ceiling₁ within₁ within₂)
  pair_laws = record {
    assoc = λ a b c i. both (laws₁.assoc a.first b.first c.first i) (laws₂.assoc a.second b.second c.second i);
    comm = λ a b i. both (laws₁.comm a.first b.first i) (laws₂.comm a.second b.second i);
    neutral = λ a i. both (laws₁.neutral a.first i) (laws₂.neutral a.second i);
    total = λ a b. elim (total_ways a b) [ inl w ↦ inl (by_way ceiling₁ within₁ within₂ _ _ w) | inr w ↦ inr (by_way ceiling₁ within₁ within₂ _ _ w) ];
    trans = λ a b c p q. elim (cases_Bool (within₁ c.first a.first)) [
      | inl h ↦ by_way ceiling₁ within₁ within₂ _ _ (trans_ways a b c h (way_of ceiling₁ within₁ within₂ _ _ p) (way_of ceiling₁ within₁ within₂ _ _ q))
      | inr h ↦ by_way ceiling₁ within₁ within₂ _ _ (inr (inl h))
    ];
    least = λ a. by_way ceiling₁ within₁ within₂ _ _ (inr (inr (laws₁.least a.first, laws₂.least a.second)));
    greatest = λ a. by_way ceiling₁ within₁ within₂ _ _ (inr (inr (laws₁.greatest a.first, laws₂.greatest a.second)));
  }

  lower : {x y : X} → within₁ y x ≡ false → within₁ ceiling₁ x ≡ false
  lower {x} {y} h = elim (cases_Bool (within₁ ceiling₁ x)) [ inl t ↦ absurd (both_ways _ h (laws₁.trans _ _ _ (laws₁.greatest y) t)) | inr k ↦ k ]

  pub pair_decides : FirstDecides ceiling₁ within₁ within₂
  pair_decides = record {
    full = λ p q a b. (by_way ceiling₁ within₁ within₂ _ _ (inl (a, b)), by_way ceiling₁ within₁ within₂ _ _ (inl (b, a)));
    apart = λ p q l. (by_way ceiling₁ within₁ within₂ _ _ (inr (inl l.1)), heavy _ _ _ _ _ (lower l.1) l.0 l.1);
    even = λ p q h l. evens _ _ _ _ _ h l.1 l.0;
  }

  module _ (keeps₁ : KeepsOrder join₁ within₁) (strict₁ : KeepsLighter ceiling₁ join₁ within₁) (keeps₂ : KeepsOrder join₂ within₂) where
    grows : (x r : X) → within₁ x (join₁ x r) ≡ true
    grows x r = ap (λ y. within₁ y (join₁ x r)) (sym (laws₁.neutral x)) ∙ ap (within₁ (join₁ zero₁ x)) (laws₁.comm x r) ∙ keeps₁ zero₁ r x (laws₁.least r)

    full_grows : (x r : X) → within₁ ceiling₁ x ≡ true → within₁ ceiling₁ (join₁ x r) ≡ true
    full_grows x r h = laws₁.trans _ _ _ h (grows x r)

    keeps_ways : (a b c : Pair X Y) → Way ceiling₁ within₁ within₂ a b → Way ceiling₁ within₁ within₂ (part_by_part join₁ join₂ a c) (part_by_part join₁ join₂ b c)
    keeps_ways a b c (inl w) = inl (full_grows _ c.first w.0, full_grows _ c.first w.1)
    keeps_ways a b c (inr (inl w)) = elim (cases_Bool (within₁ ceiling₁ (join₁ b.first c.first))) [
      | inr f ↦ inr (inl (strict₁ _ _ c.first (not_lighter w, w) (both_ways _ f)).1)
      | inl f ↦ elim (cases_Bool (within₁ (join₁ b.first c.first) (join₁ a.first c.first))) [
        | inl k ↦ inl (laws₁.trans _ _ _ f k, f)
        | inr k ↦ inr (inl k)
      ]
    ]
    keeps_ways a b c (inr (inr w)) = inr (inr (keeps₁ _ _ c.first w.0, keeps₂ _ _ c.second w.1))

    pub pair_keeps : KeepsOrder (part_by_part join₁ join₂) (not_heavier ceiling₁ within₁ within₂)
    pair_keeps a b c h = by_way ceiling₁ within₁ within₂ _ _ (keeps_ways a b c (way_of ceiling₁ within₁ within₂ _ _ h))
