-- Values that are coded can be told apart. Assumes nothing.
use Rattle.std.proofs.Common.{◌≡◌, refl, ap, ap₂}
use native.Mathlib.Decide.{ℕ_discrete}
use base.Stored.{Gv, gnil, gnum, gcons, Coded}

codes_told : (a b : Gv) → Dec (a ≡ b)
codes_told gnil gnil = yes refl
codes_told gnil (gnum n) = no (λ e. cc)
codes_told gnil (gcons a b) = no (λ e. cc)
codes_told (gnum n) gnil = no (λ e. cc)
codes_told (gnum n) (gnum m) = elim (ℕ_discrete n m) [ yes e ↦ yes (ap gnum e) | no e ↦ no (λ q. e cc) ]
codes_told (gnum n) (gcons a b) = no (λ e. cc)
codes_told (gcons a b) gnil = no (λ e. cc)
codes_told (gcons a b) (gnum n) = no (λ e. cc)
codes_told (gcons a b) (gcons c d) = go (codes_told a c) (codes_told b d)
  where
    go : Dec (a ≡ c) → Dec (b ≡ d) → Dec (gcons a b ≡ gcons c d)
    go (yes p) (yes q) = yes (ap₂ gcons p q)
    go (yes p) (no q) = no (λ e. q cc)
    go (no p) q = no (λ e. p cc)

pub told : {A : Type 0} → Coded A → (a b : A) → Dec (a ≡ b)
told c a b = elim (codes_told (c.code a) (c.code b)) [ yes e ↦ yes (c.inj a b e) | no e ↦ no (λ q. e (ap c.code q)) ]
