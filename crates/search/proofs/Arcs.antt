-- Where a pipe leads to from a state: to the node across, with its parity turned by a pipe of the support. Assumes nothing.
use Rattle.std.proofs.Common.{◌≡◌, ℕ, ◌+◌, ◌-◌, ◌*◌, ◌%◌, ◌<◌, ◌≤◌, Bool, true, false, cond, not, eqb, ◌⊎◌, Some, sym, ap, ◌∙◌, inl, inr, ⊎_elim, arith, eq-eqb, eqb-true}
use borrow.Author.Tests.{both_ways}
use Rattle.std.proofs.lemmas.Bool.{cases_Bool, cond-true, cond-false}
use Rattle.cycle_space.specs.Rows.{Row, bit, add2}
use Rattle.cycle_space.specs.Shapes.{Crosses}
use Rattle.cycle_space.proofs.Booleans.{by_eqb, add2_comm}
use Rattle.search.specs.Tasks.{Task, Sound, state, node, is_odd, arrival, arc}

module _ (s : Row) (b u j : ℕ) (from_one : 1 ≤ b) where
  arrival_node : node (arrival s b u j) ≡ b
  arrival_node = go (bit s j)
    where
      go : (c : Bool) → node (cond c (state b (1 - u % 2)) (state b (u % 2))) ≡ b
      go true = omega arith
      go false = omega arith

  pub arrival_inside : (n : ℕ) → b ≤ n → arrival s b u j < 2 * n
  arrival_inside n h = go (bit s j)
    where
      go : (c : Bool) → cond c (state b (1 - u % 2)) (state b (u % 2)) < 2 * n
      go true = omega arith
      go false = omega arith

  arrival_odd : is_odd (arrival s b u j) ≡ add2 (is_odd u) (bit s j)
  arrival_odd = go (bit s j) ∙ add2_comm (bit s j) (is_odd u)
    where
      go : (c : Bool) → is_odd (cond c (state b (1 - u % 2)) (state b (u % 2))) ≡ add2 c (is_odd u)
      go true = by_eqb (λ p. is_odd (state b (1 - u % 2)) ≡ not p) (u % 2) 1
          (λ q. ap (λ n. eqb n 1) (let z : (2 * (b - 1) + (1 - u % 2)) % 2 ≡ 0 = omega arith in z))
          (λ q. ap (λ n. eqb n 1) (let z : (2 * (b - 1) + (1 - u % 2)) % 2 ≡ 1 = omega arith in z))
      go false = ap (λ n. eqb n 1) (let z : (2 * (b - 1) + u % 2) % 2 ≡ u % 2 = omega arith in z)

module _ {M : Type 0} (t : Task M) (sound : Sound t) (u j : ℕ) (here : j < t.shape.pipes) where
  arc_ways : (v : ℕ) → arc t.shape t.support u j ≡ Some v
      → ((t.shape.first j ≡ node u) × (v ≡ arrival t.support (t.shape.second j) u j))
      ⊎ ((t.shape.second j ≡ node u) × (v ≡ arrival t.support (t.shape.first j) u j))
  arc_ways v leads = ⊎_elim
      (λ b.
      let e = sym (cond-true (eqb (t.shape.first j) (node u)) _ _ b) ∙ leads in
      inl (eqb-true _ _ b, cc))
      (λ b.
      let e = sym (cond-false (eqb (t.shape.first j) (node u)) _ _ b) ∙ leads in
      ⊎_elim
      (λ b'. let e' = sym (cond-true (eqb (t.shape.second j) (node u)) _ _ b') ∙ e in inr (eqb-true _ _ b', cc))
      (λ b'. let e' = sym (cond-false (eqb (t.shape.second j) (node u)) _ _ b') ∙ e in let z : ◌≡◌ {A = ℕ} 0 1 = cc in absurd (omega arith))
      (cases_Bool (eqb (t.shape.second j) (node u))))
      (cases_Bool (eqb (t.shape.first j) (node u)))

  -- what a crossing says of the states
  pub arc_crosses : (v : ℕ) → arc t.shape t.support u j ≡ Some v → Crosses t.shape j (node u) (node v) × (is_odd v ≡ add2 (is_odd u) (bit t.support j))
  arc_crosses v leads = ⊎_elim
      (λ w.
      let one = (sound.net.ends_in j here).1.0 in (
        inl (w.0, sym (ap node w.1 ∙ arrival_node t.support (t.shape.second j) u j one)),
        ap is_odd w.1 ∙ arrival_odd t.support (t.shape.second j) u j one,
      ))
      (λ w.
      let one = (sound.net.ends_in j here).0.0 in (
        inr (w.0, sym (ap node w.1 ∙ arrival_node t.support (t.shape.first j) u j one)),
        ap is_odd w.1 ∙ arrival_odd t.support (t.shape.first j) u j one,
      ))
      (arc_ways v leads)

  -- a pipe at the state's node can be crossed
  pub arc_across : (b : ℕ) → Crosses t.shape j (node u) b → (v : ℕ) × (arc t.shape t.support u j ≡ Some v) × (node v ≡ b) × (is_odd v ≡ add2 (is_odd u) (bit t.support j))
  arc_across b c = ⊎_elim
      (λ at_first.
      let one = (sound.net.ends_in j here).1.0 in
      let to : t.shape.second j ≡ b = ⊎_elim (λ w. w.1) (λ w. w.0 ∙ sym (eqb-true _ _ at_first) ∙ w.1) c in (
        arrival t.support (t.shape.second j) u j,
        cond-true (eqb (t.shape.first j) (node u)) _ _ at_first,
        arrival_node t.support (t.shape.second j) u j one ∙ to,
        arrival_odd t.support (t.shape.second j) u j one,
      ))
      (λ not_first.
      let one = (sound.net.ends_in j here).0.0 in
      let at_second : (t.shape.second j ≡ node u) × (t.shape.first j ≡ b) = ⊎_elim (λ w. absurd (both_ways _ not_first (eq-eqb _ _ w.0))) (λ w. w) c in (
        arrival t.support (t.shape.first j) u j,
        cond-false (eqb (t.shape.first j) (node u)) _ _ not_first ∙ cond-true (eqb (t.shape.second j) (node u)) _ _ (eq-eqb _ _ at_second.0),
        arrival_node t.support (t.shape.first j) u j one ∙ at_second.1,
        arrival_odd t.support (t.shape.first j) u j one,
      ))
      (cases_Bool (eqb (t.shape.first j) (node u)))
