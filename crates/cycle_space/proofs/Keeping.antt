-- How rings and supports stay sound: before the first ring, with another number of nodes, with one more ring. Assumes nothing.
use Rattle.std.proofs.Common.{◌≡◌, ℕ, zero, suc, ◌%◌, ◌<◌, ◌≤◌, Bool, true, false, ◌&&◌, eqb, ltb, ◌⊎◌, length, sym, refl, ap, ◌∙◌, subst, ap₂, inl, inr, arith}
use native.Mathlib.Decide.{dec_lt}
use Rattle.std.proofs.lemmas.Bool.{cases_Bool}
use Rattle.std.proofs.lemmas.Bool.Decides.{nat_tests}
use Rattle.cycle_space.specs.Sums.{count}
use Rattle.cycle_space.specs.Rows.{Row, bit, holds, empty, FourWords, row_of, add2, sum, odd}
use Rattle.cycle_space.specs.Shapes.{Shape, Closing, Exactly}
use Rattle.cycle_space.specs.Labels.{closes}
use Rattle.cycle_space.specs.Bases.{OfPipes, touching, Closed}
use Rattle.cycle_space.specs.Supports.{rank, before, alone, Sound, Extended, AloneHolds}
use Rattle.cycle_space.proofs.Booleans.{by_eqb, not_so}
use Rattle.cycle_space.proofs.Bits.{known_by_bits, row_of_words, row_bits, empty_bit, empty_row, sum_bit, sum_holds, sum_row}
use Rattle.cycle_space.proofs.Singles.{single_bit}
use Rattle.cycle_space.proofs.Parities.{parity_laws}
use Rattle.cycle_space.proofs.Labels.{closing_decided}
use Rattle.cycle_space.proofs.Counting.{count_before, count_same_place, exactly_count, count_exactly}

-- Closing pipes alone

pub alone_words : (N : Shape) (i : ℕ) → FourWords (alone N i)
unfolding alone
alone_words N i = row_of_words (λ j. ltb j N.pipes && (closes N j && eqb (before N j) i))

pub alone_bit : (N : Shape) → N.pipes ≤ 256 → (i j : ℕ) → bit (alone N i) j ≡ (ltb j N.pipes && (closes N j && eqb (before N j) i))
unfolding alone
alone_bit N few i j = row_bits (λ j. ltb j N.pipes && (closes N j && eqb (before N j) i)) (λ j l. grind (arith, nat_tests)) j

-- what is in such a row
alone_in : (N : Shape) → N.pipes ≤ 256 → (i j : ℕ) → bit (alone N i) j ≡ true → (j < N.pipes) × (closes N j ≡ true) × (before N j ≡ i)
alone_in N few i j h =
    let t = sym (alone_bit N few i j) ∙ h in
    grind (arith, nat_tests)

in_alone : (N : Shape) → N.pipes ≤ 256 → (i j : ℕ) → j < N.pipes → closes N j ≡ true → before N j ≡ i → bit (alone N i) j ≡ true
in_alone N few i j l c e = let t = alone_bit N few i j in grind (arith, nat_tests)

pub alone_holds : AloneHolds
alone_holds N few i j = (
  λ h. let a = alone_in N few i j h in
      (a.0, (closing_decided N j).0 a.1, subst (Exactly (Closing N) j) a.2 (exactly_count (closes N) (closing_decided N) j)),
  λ p. in_alone N few i j p.0 ((closing_decided N j).1 p.1) (sym (count_exactly (closes N) (closing_decided N) j i p.2)),
)

-- the row of a closing pipe, and no row past the last of them
pub alone_single : (N : Shape) → N.pipes ≤ 256 → (j : ℕ) → j < N.pipes → closes N j ≡ true → row_of (λ l. eqb (suc l) (suc j)) ≡ alone N (before N j)
alone_single N few j lj cj =
    known_by_bits (row_of f) (alone N (before N j)) (row_of_words f) (alone_words N (before N j))
    (λ l _.
    let here = in_alone N few (before N j) j lj cj refl in
    let other = alone_in N few (before N j) l in
    let one = count_same_place (closes N) l j in
    single_bit j l (omega arith) ∙ grind (arith, nat_tests))
  where
    f : ℕ → Bool
    f l = eqb (suc l) (suc j)

pub alone_past : (N : Shape) → N.pipes ≤ 256 → (i : ℕ) → rank N ≤ i → alone N i ≡ empty
alone_past N few i h =
    known_by_bits (alone N i) empty (alone_words N i) empty_row
    (λ l _. let r = alone_in N few i l in let low = count_before (closes N) N.pipes l in let e = empty_bit l in grind arith)

pub sound_alone : (N : Shape) (ring : ℕ → Row) → N.pipes ≤ 256 → Sound N 0 ring (alone N)
sound_alone N ring few = record {
  few_pipes = few;
  not_over = omega arith;
  of_pipes = λ i _. record { words = alone_words N i; others = others i };
  own = λ j l c. in_alone N few (before N j) j l c refl;
  lower = λ i j _ h. let a = alone_in N few i j h in (a.1, (let e = a.2 in omega arith));
  closed = λ i l. absurd (omega arith);
  own_odd = λ i l. absurd (omega arith);
  later_even = λ i j l. absurd (omega arith);
}
  where
    others : (i j : ℕ) → N.pipes < j → holds (alone N i) j ≡ false
    others i zero l = refl
    others i (suc j) l = not_so (bit (alone N i) j) (λ h. let a = (alone_in N few i j h).0 in omega arith)

-- Another number of nodes

-- which pipes are closing, is seen from their ends
pub closes_same : (N N' : Shape) → N.first ≡ N'.first → N.second ≡ N'.second → closes N ≡ closes N'
closes_same N N' p q = ap₂ (λ f g. closes (record { nodes = 0; pipes = 0; first = f; second = g })) p q

pub alone_same : (N N' : Shape) → N.pipes ≡ N'.pipes → N.first ≡ N'.first → N.second ≡ N'.second → (i : ℕ) → alone N i ≡ alone N' i
unfolding alone
alone_same N N' e p q i = ap₂ (λ (m : ℕ) (f : ℕ → Bool). row_of (λ j. ltb j m && (f j && eqb (count j f) i))) e (closes_same N N' p q)

touching_same : (N N' : Shape) → N.first ≡ N'.first → N.second ≡ N'.second → (r : Row) (v k : ℕ) → touching N r v k ≡ touching N' r v k
unfolding touching
touching_same N N' p q r v k = ap₂ (λ f g. touching (record { nodes = 0; pipes = 0; first = f; second = g }) r v k) p q

-- a closed set does not see how many nodes there are
pub closed_same : (N N' : Shape) → N.pipes ≡ N'.pipes → N.first ≡ N'.first → N.second ≡ N'.second → (r : Row) → Closed N r → Closed N' r
closed_same N N' e p q r c = record {
  of_pipes = subst (λ m. OfPipes m r) e c.of_pipes;
  even = λ v. ap (λ n. n % 2) (sym (ap (touching N r v) e ∙ touching_same N N' p q r v N'.pipes)) ∙ c.even v;
}

pub sound_nodes : (m : ℕ) (N : Shape) (k : ℕ) (ring support : ℕ → Row) → Sound N k ring support
    → Sound (record { nodes = m; pipes = N.pipes; first = N.first; second = N.second }) k ring support
sound_nodes m N k ring support s = record {
  few_pipes = s.few_pipes;
  not_over = s.not_over;
  of_pipes = s.of_pipes;
  own = s.own;
  lower = s.lower;
  closed = λ i l. closed_same N (record { nodes = m; pipes = N.pipes; first = N.first; second = N.second }) refl refl refl (ring i) (s.closed i l);
  own_odd = s.own_odd;
  later_even = s.later_even;
}

-- One more ring

odd_sum : (x s t : Row) → FourWords s → FourWords t → odd x (sum s t) ≡ add2 (odd x s) (odd x t)
odd_sum x s t ws wt =
    parity_laws.symmetric x (sum s t) ∙ parity_laws.linear s t x ws wt ∙ ap₂ add2 (parity_laws.symmetric s x) (parity_laws.symmetric t x)

module _ (N : Shape) (k : ℕ) (ring support : ℕ → Row) (s : Sound N k ring support) (c : Row) (cc : Closed N c) (co : odd c (support k) ≡ true) (kr : k < rank N)
    (ring' : ℕ → Row) (old : (i : ℕ) → i < k → ring' i ≡ ring i) (new : ring' k ≡ c) (support' : ℕ → Row) (x : Extended k support c support') where
  four : (i : ℕ) → i < rank N → FourWords (support i)
  four i l = (s.of_pipes i l).words

  long : (i : ℕ) → i < rank N → length (support i) ≡ length (support k)
  long i l = (four i l).four ∙ sym (four k kr).four

  of_pipes' : (i : ℕ) → i < rank N → OfPipes N.pipes (support' i)
  of_pipes' i l = elim (dec_lt k i) [
    | yes m ↦ elim (cases_Bool (odd c (support i))) [
      | inl o ↦ subst (OfPipes N.pipes) (sym (x.odd_turn i m o)) (record {
        words = sum_row (support i) (support k) (four i l) (four k kr);
        others = λ j h. sum_holds (support i) (support k) (long i l) j ∙ ap₂ add2 ((s.of_pipes i l).others j h) ((s.of_pipes k kr).others j h);
      })
      | inr o ↦ subst (OfPipes N.pipes) (sym (x.even_stay i m o)) (s.of_pipes i l)
    ]
    | no m ↦ subst (OfPipes N.pipes) (sym (x.earlier_stay i (omega arith))) (s.of_pipes i l)
  ]

  -- the bits of a support: the old ones, or those of the new ring's support added
  new_bit : (i j : ℕ) → i < rank N → (bit (support' i) j ≡ bit (support i) j) ⊎ ((k < i) × (bit (support' i) j ≡ add2 (bit (support i) j) (bit (support k) j)))
  new_bit i j l =
      let stay = x.earlier_stay i in
      let even = x.even_stay i in
      let turn = x.odd_turn i in
      let both = sum_bit (support i) (support k) (long i l) j in
      grind arith

  own' : (j : ℕ) → j < N.pipes → closes N j ≡ true → before N j < rank N → bit (support' (before N j)) j ≡ true
  own' j l cj r = let b = new_bit (before N j) j r in let old = s.own j l cj in let low = s.lower k j kr in grind arith

  lower' : (i j : ℕ) → i < rank N → bit (support' i) j ≡ true → (closes N j ≡ true) × (before N j ≤ i)
  lower' i j l h = let b = new_bit i j l in let one = s.lower i j l in let two = s.lower k j kr in grind arith

  later_even' : (i j : ℕ) → i < suc k → i < j → j < rank N → odd (ring' i) (support' j) ≡ false
  later_even' i j l ij jr =
      let stay = x.earlier_stay j in
      let even = x.even_stay j in
      let turn = x.odd_turn j in
      let before = old i in
      let one = λ (ik : i < k). s.later_even i j ik ij jr in
      let two = λ (ik : i < k). s.later_even i k ik ik kr in
      let at_new = odd_sum c (support j) (support k) (four j jr) (four k kr) in
      let at_old = odd_sum (ring i) (support j) (support k) (four j jr) (four k kr) in
      grind arith

  pub sound_next : Sound N (suc k) ring' support'
  sound_next = record {
    few_pipes = s.few_pipes;
    not_over = kr;
    of_pipes = of_pipes';
    own = λ j l cj. own' j l cj (count_before (closes N) N.pipes j l cj);
    lower = lower';
    closed = λ i l. by_eqb (λ _. Closed N (ring' i)) i k
        (λ q. subst (Closed N) (sym (ap ring' q ∙ new)) cc) (λ ne. subst (Closed N) (sym (old i (omega arith))) (s.closed i (omega arith)));
    own_odd = λ i l. let before = old i in let stay = x.earlier_stay i in let was = s.own_odd i in grind arith;
    later_even = later_even';
  }
