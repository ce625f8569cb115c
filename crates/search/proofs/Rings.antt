-- A closed set that is odd against the support holds a closed walk of odd parity from a node that a pipe of the support is drawn from.
-- Assumes nothing.
use Rattle.std.proofs.Common.{◌≡◌, ℕ, ◌+◌, ◌-◌, ◌*◌, ◌%◌, Bool, true, false, eqb, List, [], ◌∷◌, sym, refl, ap, ◌∙◌, subst, ap₂, inl, arith, ne_eqb, eqb-true}
use Rattle.cycle_space.specs.Rows.{Row, bit, add2, odd}
use Rattle.cycle_space.specs.Bases.{Closed}
use Rattle.cycle_space.proofs.Booleans.{add2_false, add2_assoc}
use Rattle.cycle_space.proofs.Counting.{flip}
use Rattle.cycle_space.proofs.Trails.{Walk as Path, Every, Distinct, Inside, parity, touching_parity, odd_ring}
use Rattle.search.specs.Tasks.{Task, Bounded, Sound, Walk, stay, cross, weight, row_weight, node, is_odd, even_start, odd_start}
use Rattle.search.specs.Finds.{at_start, Start}
use Rattle.search.proofs.Measuring.{Lawful, grows}
use Rattle.search.proofs.Sets.{odd_pipes, heft_of, row_heft, heft_out}
use Rattle.search.proofs.Arcs.{arc_across}

-- the weight c with the weights of a list of pipes joined to it
abbrev total : {M : Type 0} → Task M → M → List ℕ → M
total t c [] = c
total t c (j ∷ ps) = total t (t.join c (weight t j)) ps

-- a walk over states, gone on over a list of pipes
record Followed {M : Type 0} (t : Task M) (u : ℕ) (c : M) (ps : List ℕ) (b : ℕ) : Type 0 where
  target : ℕ
  walk : Walk t target (total t c ps)
  there : node target ≡ b
  turned : is_odd target ≡ add2 (is_odd u) (parity (bit t.support) ps)

module _ {M : Type 0} (t : Task M) (sound : Sound t) (x : ℕ → Bool) where
  follow : (ps : List ℕ) (u b : ℕ) (c : M) → Walk t u c → Path t.shape ps (node u) b → Every (Inside t.shape x) ps → Followed t u c ps b
  follow [] u b c w p e = record { target = u; walk = w; there = p; turned = sym (add2_false (is_odd u)) }
  follow (j ∷ ps) u b c w p e =
      let a = arc_across t sound u j e.0.0 p.0 p.1 in
      let v = a.0 in
      let f = follow ps v b (t.join c (weight t j)) (cross j v w e.0.0 a.1) (subst (λ n. Path t.shape ps n b) (sym a.2) p.2) e.1 in
      record {
        target = f.target;
        walk = f.walk;
        there = f.there;
        turned = f.turned ∙ ap (λ d. add2 d (parity (bit t.support) ps)) a.3 ∙ add2_assoc (is_odd u) (bit t.support j) (parity (bit t.support) ps);
      }

-- without one of its pipes the set has the others still
left_inside : {M : Type 0} (t : Task M) (x : ℕ → Bool) (j : ℕ) (ps : List ℕ) → Every (Inside t.shape x) ps → Every (λ i. i ≡ j → ⊥) ps → Every (Inside t.shape (flip x j)) ps
left_inside t x j [] e d = tt
left_inside t x j (i ∷ ps) e d =
    ((e.0.0, ap₂ add2 e.0.1 (ne_eqb i j d.0)), left_inside t x j ps e.1 d.1)

module _ {M : Type 0} (t : Task M) (laws : Lawful t) (net : Bounded t) where
  -- different pipes of a set weigh at most what the set weighs
  total_light : (ps : List ℕ) (x : ℕ → Bool) (c : M) → Every (Inside t.shape x) ps → Distinct ps → t.within (total t c ps) (t.join c (heft_of laws x)) ≡ true
  total_light [] x c e d = grows laws c (heft_of laws x)
  total_light (j ∷ ps) x c e d =
      let weighed = net.weighed in
      let here = e.0.0 in
      subst (λ y. t.within (total t (t.join c (weight t j)) ps) y ≡ true)
      (laws.base.assoc c (weight t j) (heft_of laws (flip x j)) ∙ ap (t.join c) (sym (heft_out laws x j (omega arith) e.0.1)))
      (total_light ps (flip x j) (t.join c (weight t j)) (left_inside t x j ps e.1 d.0) d.1)

-- a closed walk of odd parity, from a start, of at most the weight w
pub record Round {M : Type 0} (t : Task M) (w : M) : Type 0 where
  pub from : ℕ
  pub cost : M
  pub start : Start t from
  pub walk : Walk (at_start t from) (odd_start (at_start t from)) cost
  pub light : t.within cost w ≡ true

module _ {M : Type 0} (t : Task M) (laws : Lawful t) (net : Bounded t) where
  -- round the pipe e and then the pipes ps, back to where e is drawn from
  round_by : (x : Row) (e : ℕ) (ps : List ℕ) → bit t.support e ≡ true → Path t.shape ps (t.shape.second e) (t.shape.first e)
      → Every (Inside t.shape (bit x)) (e ∷ ps) → Distinct (e ∷ ps) → parity (bit t.support) (e ∷ ps) ≡ true → Round t (row_weight t x)
  round_by x e ps chosen path inside distinct turns =
      let here = inside.0.0 in
      let s : ℕ = t.shape.first e in
      let in_net = (net.ends_in e here).0 in
      let one = in_net.0 in
      let t' : Task M = at_start t s in
      let sound : Sound t' = record {
        net = record { few_nodes = net.few_nodes; few_pipes = net.few_pipes; weighed = net.weighed; ends_in = net.ends_in };
        start_in = in_net;
      } in
      let home : s ≡ node (even_start t') = omega arith in
      let f = follow t' sound (bit x) (e ∷ ps) (even_start t') s t.none stay (subst (λ n. Path t.shape (e ∷ ps) n s) home (t.shape.second e, inl (refl, refl), path)) inside in
      let even : is_odd (even_start t') ≡ false = ap (λ n. eqb n 1) (let z : (2 * (s - 1) + 0) % 2 ≡ 0 = omega arith in z) in
      let last = eqb-true (f.target % 2) 1 (f.turned ∙ ap₂ add2 even turns) in
      let back = f.there in
      let is : f.target ≡ odd_start t' = omega arith in
      record {
        from = s;
        cost = total t t.none (e ∷ ps);
        start = (e, here, chosen, refl);
        walk = subst (λ n. Walk t' n (total t t.none (e ∷ ps))) is f.walk;
        light = subst (λ y. t.within (total t t.none (e ∷ ps)) y ≡ true) (laws.base.neutral (heft_of laws (bit x)) ∙ sym (row_heft laws x))
            (total_light t laws net (e ∷ ps) (bit x) t.none inside distinct);
      }

  pub round_of : (x : Row) → Closed t.shape x → odd x t.support ≡ true → Round t (row_weight t x)
  round_of x closed o =
      let r = odd_ring t.shape (bit t.support) (bit x)
      (λ w. sym (touching_parity t.shape x w t.shape.pipes) ∙ ap (λ n. eqb n 1) (closed.even w))
      (sym (odd_pipes t.shape x t.support net.few_pipes closed.of_pipes) ∙ o) in
      round_by x r.0 r.1 r.2 r.3 r.4 r.5 r.6
