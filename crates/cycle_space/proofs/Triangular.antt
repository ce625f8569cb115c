-- Rings whose supports separate the space are a basis of it, and rings that a support misses are none. Assumes nothing.
use Rattle.std.proofs.Common.{◌≡◌, ℕ, zero, suc, ◌<◌, ◌≤◌, Bool, true, false, cond, sym, ap, ◌∙◌, ap₂, arith}
use borrow.Author.Tests.{both_ways}
use Rattle.std.proofs.lemmas.Bool.{cond_both}
use Rattle.cycle_space.specs.Sums.{fold}
use Rattle.cycle_space.specs.Rows.{add2}
use Rattle.cycle_space.proofs.Booleans.{by_eqb}
use Rattle.cycle_space.proofs.Folds.{fold_same}
use Rattle.cycle_space.proofs.Linear.{picked, Space, Spans, Rings}
use Rattle.cycle_space.proofs.Bases.{put, picked_add, even, at_none}
use Rattle.cycle_space.proofs.Exchanges.{kept, put_at}

module _ {M : Type 0} {e : M} {op : M → M → M} {In : M → Type 0} (sp : Space e op In) where
  cancels : (c x : M) → op c (op c x) ≡ x
  cancels c x = sym (sp.group.assoc c c x) ∙ ap (λ y. op y x) (sp.twice c) ∙ sp.group.left x

  -- a support that is even against a list, and odd against a member of the space
  pub missed : (φ : M → Bool) → ((x y : M) → φ (op x y) ≡ add2 (φ x) (φ y)) → (k : ℕ) (C : ℕ → M) → ((i : ℕ) → i < k → φ (C i) ≡ false)
      → (x : M) → In x → φ x ≡ true → Spans e op In k C → ⊥
  missed φ adds k C evens x x_in h b =
      let st = b.spans x x_in in
      both_ways (φ x) (ap φ (sym st.1) ∙ even sp φ adds k C st.0 evens) h

  module _ {V : Type 0} {leq : V → V → Bool} {w : M → V} {S : ℕ → M → Bool} (adds : (i : ℕ) (x y : M) → S i (op x y) ≡ add2 (S i x) (S i y))
      {d : ℕ} {C : ℕ → M} (rings : Rings In leq w S d C) where
    -- none is picked where nothing is the sum
    none_picked : (k : ℕ) → k ≤ d → (v : ℕ → Bool) → picked e op k C v ≡ e → (i : ℕ) → i < k → v i ≡ false
    unfolding fold
    none_picked zero l v h i il = absurd (omega arith)
    none_picked (suc k) l v h i il =
        by_eqb (λ _. v i ≡ false) i k (λ q. ap v q ∙ here) (λ ne. none_picked k (omega arith) v rest i (omega arith))
      where
        here : v k ≡ false
        here =
            let own = rings.own k l in
            let others = even sp (S k) (adds k) k C v (λ j jl. rings.earlier k j jl l) in
            let sum = adds k (cond (v k) (C k) e) (picked e op k C v) in
            let none = at_none sp (S k) (adds k) in
            grind arith

        rest : picked e op k C v ≡ e
        rest = let now = here in let left = sp.group.left (picked e op k C v) in grind arith

    -- with the ring k added where x is odd against its support
    cleared : (k : ℕ) → k < d → (x : M) → ((i : ℕ) → suc k ≤ i → i < d → S i x ≡ false) → (i : ℕ) → k ≤ i → i < d → S i (op (cond (S k x) (C k) e) x) ≡ false
    cleared k l x h i kl il =
        let sum = adds i (cond (S k x) (C k) e) x in
        let own = rings.own k l in
        let earlier = rings.earlier i k in
        let none = at_none sp (S k) (adds k) in
        let none_i = at_none sp (S i) (adds i) in
        let even = h i in
        grind arith

    module _ (separated : (x : M) → In x → ((i : ℕ) → i < d → S i x ≡ false) → x ≡ e) where
      -- what is even against the supports from k on is the sum of some of the first k rings
      reach : (k : ℕ) → k ≤ d → (x : M) → In x → ((i : ℕ) → k ≤ i → i < d → S i x ≡ false) → (s : ℕ → Bool) × (picked e op k C s ≡ x)
      unfolding fold
      reach zero l x x_in h = ((λ _. false), sym (separated x x_in (λ i il. h i (omega arith) il)))
      reach (suc k) l x x_in h =
          let c : M = cond (S k x) (C k) e in
          let r = reach k (omega arith) (op c x) (sp.sums c x (cond_both (S k x) (C k) e In (λ _. rings.inside k l) (λ _. sp.has)) x_in) (cleared k l x h) in
          let s = r.0 in (
            put s k (S k x),
            ap₂ (λ b y. op (cond b (C k) e) y) (put_at s k (S k x))
                (fold_same sp.group k (λ i. cond (put s k (S k x) i) (C i) e) (λ i. cond (s i) (C i) e) (λ i il. ap (λ b. cond b (C i) e) (kept s k (S k x) i il)) ∙ r.1)
                ∙ cancels c x,
          )

      pub ring_basis : Spans e op In d C
      ring_basis = record {
        members = rings.inside;
        spans = λ x x_in. reach d (omega arith) x x_in (λ i dl il. absurd (omega arith));
        unique = λ s t eq i il.
            let same = none_picked d (omega arith) (λ j. add2 (s j) (t j))
            (picked_add sp d C s t ∙ ap (λ x. op x (picked e op d C t)) eq ∙ sp.twice (picked e op d C t)) i il in
            grind arith;
      }
