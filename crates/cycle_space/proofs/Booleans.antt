-- Cases on two numbers by a test, and truth values with their addition and product over GF(2). Assumes nothing.
use Rattle.std.proofs.Common.{◌≡◌, ℕ, Bool, true, false, ◌&&◌, eqb, sym, subst, refl, inl, inr, arith, eq-eqb}
use Rattle.std.proofs.lemmas.Bool.Decides.{eqb_tells}
use Rattle.cycle_space.specs.Rows.{add2}

pub by_eqb : (P : Bool → Type 0) (a b : ℕ) → (a ≡ b → P true) → ((a ≡ b → ⊥) → P false) → P (eqb a b)
by_eqb P a b y n = elim (eqb_tells a b) [ inl p ↦ subst P (sym p.0) (y p.1) | inr p ↦ subst P (sym p.0) (n p.1) ]

pub eqb_same : (a : ℕ) → eqb a a ≡ true
eqb_same a = eq-eqb a a refl

-- false unless absurd
pub not_so : (b : Bool) → (b ≡ true → ⊥) → b ≡ false
not_so b h = grind arith

pub add2_same : (b : Bool) → add2 b b ≡ false
add2_same b = grind arith

pub add2_false : (b : Bool) → add2 b false ≡ b
add2_false b = grind arith

pub add2_comm : (a b : Bool) → add2 a b ≡ add2 b a
add2_comm a b = grind arith

pub add2_assoc : (a b c : Bool) → add2 (add2 a b) c ≡ add2 a (add2 b c)
add2_assoc a b c = grind arith

pub and_comm : (a b : Bool) → (a && b) ≡ (b && a)
and_comm a b = grind arith

-- the product of a sum
pub add2_and : (a b c : Bool) → (add2 a b && c) ≡ add2 (a && c) (b && c)
add2_and a b c = grind arith

-- the middle one goes
pub add2_cut : (a b c : Bool) → add2 (add2 a b) (add2 b c) ≡ add2 a c
add2_cut a b c = grind arith
