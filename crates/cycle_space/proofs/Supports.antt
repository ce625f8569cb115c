-- Rings with their supports: the supports separate the closed sets, and one that has no ring yet misses a closed set. Assumes nothing.
use Rattle.std.proofs.Common.{◌≡◌, ℕ, zero, suc, ◌<◌, Bool, true, false, ◌&&◌, sym, refl, ap, ◌∙◌, subst, ap₂, arith}
use mathlib.Core.Path.{fun_ext}
use native.Mathlib.Decide.{dec_lt}
use borrow.Author.Tests.{both_ways}
use Rattle.cycle_space.specs.Rows.{Row, bit, row_of, odd}
use Rattle.cycle_space.specs.Shapes.{Shape}
use Rattle.cycle_space.specs.Labels.{closes}
use Rattle.cycle_space.specs.Bases.{Closed}
use Rattle.cycle_space.specs.Supports.{rank, before, Sound}
use Rattle.cycle_space.proofs.Booleans.{not_so}
use Rattle.cycle_space.proofs.Folds.{dot_add}
use Rattle.cycle_space.proofs.Bits.{row_of_bits}
use Rattle.cycle_space.proofs.Labels.{closing_decided}
use Rattle.cycle_space.proofs.Counting.{count_before, count_same_place, count_find}
use Rattle.cycle_space.proofs.Linear.{Spans, Rings}
use Rattle.cycle_space.proofs.Triangular.{missed, ring_basis}
use Rattle.cycle_space.proofs.Closings.{separation, fundamental}
use Rattle.cycle_space.proofs.Spaces.{none, xors, Cycle, odd_sets, odd_bits, odd_one, space, of_row, to_row, bits_back}

module _ (N : Shape) (k : ℕ) (ring support : ℕ → Row) (s : Sound N k ring support) where
  -- no closing pipe is in a closed set that is even against all supports
  none_closing : (x : ℕ → Bool) → Cycle N x → ((i : ℕ) → i < rank N → odd_sets (bit (support i)) x ≡ false)
      → (b j : ℕ) → before N j < b → j < N.pipes → closes N j ≡ true → x j ≡ false
  none_closing x c h zero j lt l cj = absurd (omega arith)
  none_closing x c h (suc b) j lt l cj =
      sym (ap (λ t. t && x j) (s.own j l cj))
      ∙ sym (odd_one (bit (support (before N j))) x j (let few = s.few_pipes in omega arith)
      (λ i si xi.
      let low = s.lower (before N j) i (count_before (closes N) N.pipes j l cj) si in
      let less = none_closing x c h b i in
      let out = c.bounded i in
      let one = count_same_place (closes N) i j low.0 cj in
      grind arith))
      ∙ h (before N j) (count_before (closes N) N.pipes j l cj)

  -- the empty set alone is even against all supports
  pub separated : (x : ℕ → Bool) → Cycle N x → ((i : ℕ) → i < rank N → odd_sets (bit (support i)) x ≡ false) → x ≡ none
  separated x c h = fun_ext (λ j. elim (dec_lt j N.pipes) [
    | yes l ↦ separation N x c.closed (λ i li xi ci. both_ways (x i) (none_closing x c h (suc (before N i)) i (omega arith) li ((closing_decided N i).1 ci)) xi) j l
    | no l ↦ c.bounded j (omega arith)
  ])

  -- as long as a ring is missing, a closed set is odd against the next support
  pub some_odd : k < rank N → (x : ℕ → Bool) × Cycle N x × (odd_sets (bit (support k)) x ≡ true)
  some_odd lt =
      let at = count_find (closes N) N.pipes k lt in
      let j = at.0 in
      let f = fundamental N j at.1 ((closing_decided N j).0 at.2) in
      let x = f.0 in
      let few = s.few_pipes in
      let lj = at.1 in (
        x,
        record { closed = f.1; bounded = λ i le. not_so (x i) (λ xi. let le2 = f.3 i xi in omega arith) },
        odd_one (bit (support k)) x j (omega arith) (λ i si xi. f.4 i xi ((closing_decided N i).0 (s.lower k i lt si).0))
            ∙ ap₂ ◌&&◌ (subst (λ c. bit (support c) j ≡ true) at.3 (s.own j at.1 at.2)) f.2,
      )

  -- and the rings are no basis
  pub not_yet : k < rank N → Spans none xors (Cycle N) k (λ i. bit (ring i)) → ⊥
  not_yet lt b =
      let o = some_odd lt in
      missed (space N) (odd_sets (bit (support k))) (dot_add 256 (bit (support k))) k (λ i. bit (ring i))
      (λ i l. sym (odd_bits (ring i) (support k)) ∙ s.later_even i k l l lt) o.0 o.1 o.2 b

  -- rings that are least against their supports
  pub sound_rings : {V : Type 0} (leq : V → V → Bool) (w : Row → V)
      → ((i : ℕ) → i < k → (x : Row) → Closed N x → odd x (support i) ≡ true → leq (w (ring i)) (w x) ≡ true)
      → Rings (Cycle N) leq (λ x. w (row_of x)) (λ i. odd_sets (bit (support i))) k (λ i. bit (ring i))
  sound_rings leq w least = record {
    inside = λ i l. of_row N (ring i) (s.closed i l);
    own = λ i l. sym (odd_bits (ring i) (support i)) ∙ s.own_odd i l;
    earlier = λ i j ji l. sym (odd_bits (ring j) (support i)) ∙ s.later_even j i (omega arith) ji (let n = s.not_over in omega arith);
    least = λ i l x c o.
        ap (λ r. leq (w r) (w (row_of x))) (row_of_bits (ring i) (s.closed i l).of_pipes.words)
        ∙ least i l (row_of x) (to_row N s.few_pipes x c)
        (odd_bits (row_of x) (support i) ∙ ap (odd_sets (bit (support i))) (bits_back N s.few_pipes x c) ∙ o);
  }

  -- where no ring is missing, the rings are a basis
  pub full : k ≡ rank N → Spans none xors (Cycle N) k (λ i. bit (ring i))
  full e =
      ring_basis (space N) (λ i. dot_add 256 (bit (support i))) (sound_rings {V = Bool} (λ _ _. true) (λ _. true) (λ _ _ _ _ _. refl))
      (λ x c h. separated x c (λ i l. h i (omega arith)))

  -- the same, as a row
  pub due_ring : k < rank N → (x : Row) × Closed N x × (odd x (support k) ≡ true)
  due_ring lt =
      let o = some_odd lt in
      let x : Row = row_of o.0 in (
        x,
        to_row N s.few_pipes o.0 o.1,
        odd_bits x (support k) ∙ ap (odd_sets (bit (support k))) (bits_back N s.few_pipes o.0 o.1) ∙ o.2,
      )
