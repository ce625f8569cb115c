-- What a search uses of a measure. Assumes nothing.
use Rattle.std.proofs.Common.{◌≡◌, Bool, true, false, subst, ⊎_elim}
use borrow.Author.Tests.{both_ways}
use Rattle.measures.specs.Laws.{Laws, KeepsOrder}
use Rattle.cycle_space.proofs.Folds.{Comm}
use Rattle.search.specs.Tasks.{Task}

module _ {M : Type 0} {none ceiling : M} {join : M → M → M} {within : M → M → Bool} (laws : Laws none ceiling join within) where
  pub self : (a : M) → within a a ≡ true
  self a = ⊎_elim (λ h. h) (λ h. h) (laws.total a a)

  pub heavier : (a b : M) → within a b ≡ false → within b a ≡ true
  heavier a b h = ⊎_elim (λ k. absurd (both_ways (within a b) h k)) (λ k. k) (laws.total a b)

-- the measure of a task is one
pub record Lawful {M : Type 0} (t : Task M) : Type 0 where
  pub ceiling : M
  pub base : Laws t.none ceiling t.join t.within
  pub order : KeepsOrder t.join t.within

module _ {M : Type 0} {t : Task M} (laws : Lawful t) where
  pub monoid : Comm t.none t.join
  monoid = record { left = laws.base.neutral; assoc = laws.base.assoc; comm = laws.base.comm }

  -- what is joined to a value makes it no lighter
  pub grows : (a c : M) → t.within a (t.join a c) ≡ true
  grows a c =
      subst (λ x. t.within x (t.join a c) ≡ true) (laws.base.neutral a)
      (subst (λ y. t.within (t.join t.none a) y ≡ true) (laws.base.comm c a) (laws.order t.none c a (laws.base.least c)))
