-- Selections and bases over GF(2): a basis stays one where a picked member gives way to the sum. Assumes nothing.
use Rattle.std.proofs.Common.{◌≡◌, ℕ, zero, suc, ◌<◌, Bool, true, false, cond, ◌&&◌, eqb, sym, refl, ap, ◌∙◌, ap₂, arith}
use mathlib.Core.Path.{fun_ext}
use borrow.Author.Tests.{both_ways}
use Rattle.std.proofs.lemmas.Bool.Decides.{nat_tests}
use Rattle.cycle_space.specs.Sums.{fold}
use Rattle.cycle_space.specs.Rows.{add2}
use Rattle.cycle_space.proofs.Booleans.{by_eqb, not_so, add2_same}
use Rattle.cycle_space.proofs.Folds.{right, fold_same, fold_two, fold_none, fold_lone}
use Rattle.cycle_space.proofs.Linear.{picked, Space, Spans}

-- B with c at the place i
abbrev pub put : {M : Type 0} → (ℕ → M) → ℕ → M → ℕ → M
put B i c j = cond (eqb j i) c (B j)

-- the selection t, where the member at i has given way to the sum that s picks
abbrev turn : (ℕ → Bool) → ℕ → (ℕ → Bool) → ℕ → Bool
turn s i t j = add2 (t i && s j) (put t i false j)

turn_turn : (s t : ℕ → Bool) (i : ℕ) → s i ≡ true → (j : ℕ) → turn s i (turn s i t) j ≡ t j
turn_turn s t i h j = grind (arith, nat_tests)

module _ {M : Type 0} {e : M} {op : M → M → M} {In : M → Type 0} (sp : Space e op In) where
  pub picked_add : (n : ℕ) (B : ℕ → M) (s t : ℕ → Bool) → picked e op n B (λ i. add2 (s i) (t i)) ≡ op (picked e op n B s) (picked e op n B t)
  picked_add n B s t =
      fold_same sp.group n (λ i. cond (add2 (s i) (t i)) (B i) e) (λ i. op (cond (s i) (B i) e) (cond (t i) (B i) e)) (λ i _. grind (arith, sp.twice, sp.group.left, right sp.group))
      ∙ fold_two sp.group n (λ i. cond (s i) (B i) e) (λ i. cond (t i) (B i) e)

  pub picked_and : (n : ℕ) (B : ℕ → M) (s : ℕ → Bool) (b : Bool) → picked e op n B (λ j. b && s j) ≡ cond b (picked e op n B s) e
  picked_and n B s true = refl
  picked_and n B s false = fold_none sp.group n (λ _. e) (λ _ _. refl)

  picked_put : (n : ℕ) (B : ℕ → M) (i : ℕ) (c : M) (t : ℕ → Bool) → i < n
      → picked e op n (put B i c) t ≡ op (cond (t i) c e) (picked e op n B (put t i false))
  picked_put n B i c t h =
      fold_same sp.group n (λ j. cond (t j) (put B i c j) e) (λ j. op (cond (eqb j i) (cond (t i) c e) e) (cond (put t i false j) (B j) e))
      (λ j _. grind (arith, nat_tests, sp.group.left, right sp.group))
      ∙ fold_two sp.group n (λ j. cond (eqb j i) (cond (t i) c e) e) (λ j. cond (put t i false j) (B j) e)
      ∙ ap (λ x. op x (picked e op n B (put t i false))) (fold_lone sp.group n i (cond (t i) c e) h)

  turned : (n : ℕ) (B : ℕ → M) (i : ℕ) (c : M) (s t : ℕ → Bool) → i < n → picked e op n B s ≡ c
      → picked e op n (put B i c) t ≡ picked e op n B (turn s i t)
  turned n B i c s t h q =
      picked_put n B i c t h
      ∙ ap (λ x. op x (picked e op n B (put t i false))) (ap (λ x. cond (t i) x e) (sym q) ∙ sym (picked_and n B s (t i)))
      ∙ sym (picked_add n B (λ j. t i && s j) (put t i false))

  pub swapped : (n : ℕ) (B : ℕ → M) (i : ℕ) (c : M) (s : ℕ → Bool) → i < n → picked e op n B s ≡ c → s i ≡ true → In c
      → Spans e op In n B → Spans e op In n (put B i c)
  swapped n B i c s h q si c_in b = record {
    members = λ j l. by_eqb (λ t. In (cond t c (B j))) j i (λ _. c_in) (λ _. b.members j l);
    spans = λ x x_in.
        let st = b.spans x x_in in
        (turn s i st.0, turned n B i c s (turn s i st.0) h q ∙ ap (picked e op n B) (fun_ext (turn_turn s st.0 i si)) ∙ st.1);
    unique = λ t u eq j l.
        let same = b.unique (turn s i t) (turn s i u) (sym (turned n B i c s t h q) ∙ eq ∙ turned n B i c s u h q) in
        sym (turn_turn s t i si j)
        ∙ ap₂ (λ x y. add2 (x && s j) (cond (eqb j i) false y)) (same i h) (same j l)
        ∙ turn_turn s u i si j;
  }

  module _ (φ : M → Bool) (adds : (x y : M) → φ (op x y) ≡ add2 (φ x) (φ y)) where
    pub at_none : φ e ≡ false
    at_none = ap φ (sym (sp.group.left e)) ∙ adds e e ∙ add2_same (φ e)

    pub found : (n : ℕ) (B : ℕ → M) (s : ℕ → Bool) → φ (picked e op n B s) ≡ true → (i : ℕ) × (i < n) × (s i ≡ true) × (φ (B i) ≡ true)
    unfolding fold
    found zero B s h = absurd (both_ways (φ e) at_none h)
    found (suc n) B s h =
        let ih = found n B s in
        let here = adds (B n) (picked e op n B s) in
        let past = sp.group.left (picked e op n B s) in
        grind arith

    pub even : (n : ℕ) (B : ℕ → M) (s : ℕ → Bool) → ((i : ℕ) → i < n → φ (B i) ≡ false) → φ (picked e op n B s) ≡ false
    even n B s h = not_so (φ (picked e op n B s)) (λ p. let r = found n B s p in both_ways (φ (B r.0)) (h r.0 r.1) r.3)
