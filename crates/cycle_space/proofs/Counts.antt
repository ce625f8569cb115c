-- Sums over different places, the size of bases, and what is counted and joined over them. Assumes nothing.
use Rattle.std.proofs.Common.{◌≡◌, ℕ, zero, suc, ◌<◌, ◌≤◌, Bool, true, false, cond, ◌&&◌, eqb, sym, refl, ap, ◌∙◌, subst, ap₂, inl, inr, arith}
use borrow.Author.Tests.{both_ways}
use Rattle.std.proofs.lemmas.Bool.Decides.{nat_tests}
use Rattle.cycle_space.specs.Sums.{fold, count}
use Rattle.cycle_space.specs.Rows.{add2}
use Rattle.cycle_space.proofs.Booleans.{eqb_same}
use Rattle.cycle_space.proofs.Folds.{Comm, numbers, right, fold_same, fold_none, fold_lone, fold_out, fold_rel}
use Rattle.cycle_space.proofs.Counting.{Different, hit, fresh, hits, hit_fresh, fewer, no_more, count_less, count_full, count_left}
use Rattle.cycle_space.proofs.Linear.{picked, Space, Spans, replaced, Exchanged, Order, Joins}
use Rattle.cycle_space.proofs.Bases.{picked_add, picked_and}
use Rattle.cycle_space.proofs.Exchanges.{origin}

module _ {M : Type 0} {e : M} {op : M → M → M} (g : Comm e op) where
  -- the sum over all places is the sum over the places f 0, .. and the sum over the others
  fold_hit : (n : ℕ) (u : ℕ → M) (f : ℕ → ℕ) (k : ℕ) → Different k n f
      → fold e op n u ≡ op (fold e op k (λ i. u (f i))) (fold e op n (λ j. cond (hit f k j) e (u j)))
  unfolding fold
  fold_hit n u f zero d = sym (g.left (fold e op n u))
  fold_hit n u f (suc k) d =
      let v : ℕ → M = λ j. cond (hit f k j) e (u j) in
      let new = fresh f k (f k) (λ i l q. let r = d.apart i k (omega arith) (omega arith) q in omega arith) in
      let ih = fold_hit n u f k (fewer d) in
      let out = fold_out g n (f k) v (d.within k (omega arith)) in
      let left = fold_same g n (λ j. cond (eqb j (f k)) e (v j)) (λ j. cond (hit f (suc k) j) e (u j)) (λ j _. grind (arith, nat_tests)) in
      grind (arith, g.assoc, g.comm)

-- a sum in another order
pub permuted : {M : Type 0} {e : M} {op : M → M → M} (g : Comm e op) (n : ℕ) (f : ℕ → ℕ) → Different n n f → (u : ℕ → M)
    → fold e op n u ≡ fold e op n (λ i. u (f i))
permuted {e = e} {op = op} g n f d u =
    fold_hit g n u f n d
    ∙ ap (op (fold e op n (λ i. u (f i))))
    (fold_none g n (λ j. cond (hit f n j) e (u j)) (λ j l. ap (λ b. cond b e (u j)) (count_full n (hit f n) (hits n f n d) j l)))
    ∙ right g (fold e op n (λ i. u (f i)))

-- the selection of the places f i with t i
abbrev spread : (ℕ → ℕ) → (ℕ → Bool) → ℕ → ℕ → Bool
spread f t zero l = false
spread f t (suc k) l = add2 (t k && eqb l (f k)) (spread f t k l)

spread_fresh : (f : ℕ → ℕ) (t : ℕ → Bool) (k l : ℕ) → ((i : ℕ) → i < k → f i ≡ l → ⊥) → spread f t k l ≡ false
spread_fresh f t zero l h = refl
spread_fresh f t (suc k) l h = let r = spread_fresh f t k l in let ne = h k in grind (arith, nat_tests)

module _ {M : Type 0} {e : M} {op : M → M → M} {In : M → Type 0} (sp : Space e op In) where
  one_picked : (n : ℕ) (B : ℕ → M) (i : ℕ) → i < n → picked e op n B (λ l. eqb l i) ≡ B i
  one_picked n B i h =
      fold_same sp.group n (λ l. cond (eqb l i) (B l) e) (λ l. cond (eqb l i) (B i) e)
      (λ l _. grind (arith, nat_tests))
      ∙ fold_lone sp.group n i (B i) h

  spread_sum : (n : ℕ) (B : ℕ → M) (f : ℕ → ℕ) (t : ℕ → Bool) (k : ℕ) → ((i : ℕ) → i < k → f i < n)
      → picked e op n B (spread f t k) ≡ picked e op k (λ i. B (f i)) t
  unfolding fold
  spread_sum n B f t zero h = fold_none sp.group n (λ _. e) (λ _ _. refl)
  spread_sum n B f t (suc k) h =
      picked_add sp n B (λ l. t k && eqb l (f k)) (spread f t k)
      ∙ ap₂ op (picked_and sp n B (λ l. eqb l (f k)) (t k) ∙ ap (λ x. cond (t k) x e) (one_picked n B (f k) (h k (omega arith))))
      (spread_sum n B f t k (λ i l. h i (omega arith)))

  module _ {V : Type 0} {leq : V → V → Bool} {w : M → V} {d : ℕ} {C : ℕ → M} (c : Spans e op In d C) {n : ℕ} {B : ℕ → M} {f : ℕ → ℕ}
      (ex : Exchanged e op In leq w d C n B f) where
    stands : (i : ℕ) → i < d → replaced B C f d (f i) ≡ C i
    stands i l = elim (origin B C f d (f i)) [
      | inl o ↦ o.3 ∙ ap C (ex.places.apart o.0 i o.1 l o.2)
      | inr o ↦ absurd (o.0 i l refl)
    ]

    not_less : d < n → ⊥
    not_less lt =
        let r = count_left n (hit f d) (let e = hits n f d ex.places in omega arith) in
        let j = r.0 in
        let unhit = hit_fresh f d j r.2 in
        let st = c.spans (replaced B C f d j) (ex.basis.members j r.1) in
        let t = st.0 in
        let total : picked e op n (replaced B C f d) (spread f t d) ≡ picked e op d C t =
        spread_sum n (replaced B C f d) f t d ex.places.within
        ∙ fold_same sp.group d (λ i. cond (t i) (replaced B C f d (f i)) e) (λ i. cond (t i) (C i) e) (λ i l. ap (λ x. cond (t i) x e) (stands i l)) in
        let same = ex.basis.unique (λ l. eqb l j) (spread f t d) (one_picked n (replaced B C f d) j r.1 ∙ sym st.1 ∙ sym total) j r.1 in
        both_ways true (sym (eqb_same j) ∙ same ∙ spread_fresh f t d j unhit) refl

    pub same_size : n ≡ d
    same_size = let up = no_more ex.places in let down = not_less in grind arith

-- at equally many places, heavier members: counts and joined weights
module _ {V : Type 0} {leq : V → V → Bool} (o : Order leq) where
  pub more_light : (n : ℕ) (a b : ℕ → V) (f : ℕ → ℕ) → Different n n f → ((i : ℕ) → i < n → leq (a i) (b (f i)) ≡ true) → (v : V)
      → count n (λ i. leq (b i) v) ≤ count n (λ i. leq (a i) v)
  more_light n a b f d h v =
      subst (λ x. x ≤ count n (λ i. leq (a i) v)) (sym (permuted numbers n f d (λ i. cond (leq (b i) v) 1 0)))
      (count_less n (λ i. leq (b (f i)) v) (λ i. leq (a i) v) (λ i l p. o.trans (a i) (b (f i)) v (h i l) p))

module _ {V : Type 0} {leq : V → V → Bool} {least : V} {join : V → V → V} (js : Joins leq least join) where
  refl_leq : (a : V) → leq a a ≡ true
  refl_leq a = elim (js.order.total a a) [ inl p ↦ p | inr p ↦ p ]

  mono2 : (a b c d : V) → leq a b ≡ true → leq c d ≡ true → leq (join a c) (join b d) ≡ true
  mono2 a b c d p q =
      js.order.trans (join a c) (join b c) (join b d) (js.mono a b c p)
      (ap₂ leq (js.monoid.comm b c) (js.monoid.comm b d) ∙ js.mono c d b q)

  pub lighter : (n : ℕ) (a b : ℕ → V) (f : ℕ → ℕ) → Different n n f → ((i : ℕ) → i < n → leq (a i) (b (f i)) ≡ true)
      → leq (fold least join n a) (fold least join n b) ≡ true
  lighter n a b f d h =
      ap (leq (fold least join n a)) (permuted js.monoid n f d b)
      ∙ fold_rel js.monoid (λ x y. leq x y ≡ true) (refl_leq least) mono2 n a (λ i. b (f i)) h
