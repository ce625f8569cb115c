-- The exchange: rings take the places of members of a basis that weigh no less. Assumes nothing.
use Rattle.std.proofs.Common.{◌≡◌, ℕ, zero, suc, ◌<◌, ◌≤◌, Bool, true, ◌⊎◌, sym, refl, ap, ◌∙◌, subst, ap₂, inl, inr, arith}
use mathlib.Core.Path.{fun_ext}
use borrow.Author.Tests.{both_ways}
use Rattle.std.proofs.lemmas.Bool.Decides.{nat_tests}
use Rattle.cycle_space.specs.Rows.{add2}
use Rattle.cycle_space.proofs.Linear.{Space, Spans, Rings, replaced, Exchanged}
use Rattle.cycle_space.proofs.Bases.{put, swapped, found}

-- below k, f with j put at k is f
pub kept : {M : Type 0} (f : ℕ → M) (k : ℕ) (j : M) (i : ℕ) → i < k → put f k j i ≡ f i
kept f k j i h = grind (arith, nat_tests)

pub put_at : {M : Type 0} (f : ℕ → M) (k : ℕ) (j : M) → put f k j k ≡ j
put_at f k j = grind (arith, nat_tests)

module _ {M : Type 0} (B C : ℕ → M) where
  replaced_same : (f h : ℕ → ℕ) (k : ℕ) → ((i : ℕ) → i < k → f i ≡ h i) → (j : ℕ) → replaced B C f k j ≡ replaced B C h k j
  replaced_same f h zero eq j = refl
  replaced_same f h (suc k) eq j = let r = replaced_same f h k in grind arith

  -- what stands at the place j: a ring, or the old member
  pub origin : (f : ℕ → ℕ) (k j : ℕ)
      → ((i : ℕ) × (i < k) × (f i ≡ j) × (replaced B C f k j ≡ C i)) ⊎ (((i : ℕ) → i < k → f i ≡ j → ⊥) × (replaced B C f k j ≡ B j))
  origin f zero j = inr ((λ i l _. absurd (omega arith)), refl)
  origin f (suc k) j = let r = origin f k j in grind (arith, nat_tests)

module _ {M V : Type 0} {e : M} {op : M → M → M} {In : M → Type 0} (sp : Space e op In)
    {leq : V → V → Bool} {w : M → V} {S : ℕ → M → Bool} (adds : (i : ℕ) (x y : M) → S i (op x y) ≡ add2 (S i x) (S i y))
    {K : ℕ} {C : ℕ → M} (rings : Rings In leq w S K C) {n : ℕ} {B : ℕ → M} (b : Spans e op In n B) where
  -- the ring C k goes to the place j, where a member of the old basis still stands
  placed : (k : ℕ) → k < K → (f : ℕ → ℕ) → Exchanged e op In leq w k C n B f → (j : ℕ) → j < n → ((i : ℕ) → i < k → f i ≡ j → ⊥)
      → leq (w (C k)) (w (B j)) ≡ true → Spans e op In n (put (replaced B C f k) j (C k))
      → Exchanged e op In leq w (suc k) C n B (put f k j)
  placed k lt f ex j jn fresh heavy nb = record {
    places = record {
      within = λ i l. let old = ex.places.within i in grind (arith, nat_tests);
      apart = λ i l il ll. let old = ex.places.apart i l in let one = fresh i in let two = fresh l in grind (arith, nat_tests);
    };
    heavier = λ i l. let old = ex.heavier i in grind (arith, nat_tests);
    basis = subst (Spans e op In n)
        (ap₂ (λ (a : ℕ) (r : ℕ → M). put r a (C k)) (sym (put_at f k j)) (fun_ext (λ l. sym (replaced_same B C (put f k j) f k (λ i il. kept f k j i il) l))))
        nb;
  }

  exchange_to : (k : ℕ) → k ≤ K → (f : ℕ → ℕ) × Exchanged e op In leq w k C n B f
  exchange_to zero lt = (
    (λ _. 0),
    record {
      places = record { within = λ i l. absurd (omega arith); apart = λ i j l _ _. absurd (omega arith) };
      heavier = λ i l. absurd (omega arith);
      basis = b;
    },
  )
  exchange_to (suc k) lt = go (exchange_to k (omega arith))
    where
      go : (f : ℕ → ℕ) × Exchanged e op In leq w k C n B f → (f : ℕ → ℕ) × Exchanged e op In leq w (suc k) C n B f
      go p =
          let f = p.0 in
          let ex = p.1 in
          let now : ℕ → M = replaced B C f k in
          let st = ex.basis.spans (C k) (rings.inside k lt) in
          let r = found sp (S k) (adds k) n now st.0 (ap (S k) st.1 ∙ rings.own k lt) in
          let j = r.0 in
          elim (origin B C f k j) [
            | inl o ↦ absurd (both_ways (S k (now j)) (ap (S k) o.3 ∙ rings.earlier k o.0 o.1 lt) r.3)
            | inr o ↦ (
              put f k j,
              placed k lt f ex j r.1 o.0
                  (rings.least k lt (B j) (b.members j r.1) (ap (S k) (sym o.1) ∙ r.3))
                  (swapped sp n now j (C k) st.0 r.1 st.1 r.2 (rings.inside k lt) ex.basis),
            )
          ]

  pub exchange : (f : ℕ → ℕ) × Exchanged e op In leq w K C n B f
  exchange = exchange_to K (omega arith)
