-- The parts of a shape: one for each node that is its own label, and there is no other number of them. Assumes nothing.
use Rattle.std.proofs.Common.{◌≡◌, ℕ, suc, ◌-◌, ◌<◌, ◌≤◌, Bool, true, eqb, get_or, sym, ap, ◌∙◌, subst, arith, eq-eqb}
use Rattle.std.proofs.lemmas.List.FromFn.{length-map-range_with_len}
use Rattle.std.proofs.lemmas.Bool.Decides.{nat_tests}
use Rattle.cycle_space.specs.Shapes.{Shape, Node, EndsAreNodes, OnePart, Parts, PartsAreCounted}
use Rattle.cycle_space.specs.Labels.{label}
use Rattle.cycle_space.specs.Sums.{count}
use Rattle.cycle_space.proofs.Runs.{run_then, run_back}
use Rattle.cycle_space.proofs.Labels.{label_run, to_label, label_le, label_label, label_pos}
use Rattle.cycle_space.proofs.Counting.{Different, no_more, choose, count_before, count_same_place, count_find, listed, listed_at}

-- Parts

module _ (N : Shape) (g : EndsAreNodes N) where
  abbrev top : ℕ → ℕ
  top v = label N N.pipes v

  abbrev own : ℕ → Bool
  own v = eqb (label N N.pipes (suc v)) (suc v)

  -- the nodes that are their own label are one of each part
  pub parts_by_labels : Parts N (count N.nodes (λ v. eqb (label N N.pipes (suc v)) (suc v)))
  parts_by_labels = record {
    of_each = listed k node;
    so_many = length-map-range_with_len node 0 k;
    nodes = λ i l. let r = places.1 i l in subst (Node N) (sym (at i l)) (omega (arith, r.0), omega (arith, r.0));
    apart = λ i j il jl p.
        let same = label_run N N.pipes (get_or (listed k node) i 0) (get_or (listed k node) j 0) p in
        let r = places.1 i il in
        let s = places.1 j jl in
        let e = at i il in
        let f = at j jl in
        grind (arith, nat_tests);
    all = λ v h.
        let j : ℕ = top v - 1 in
        let low = label_le N N.pipes v in
        let pos = label_pos N g N.pipes (omega arith) v h.0 in
        let fix = label_label N N.pipes v in
        let up : suc j ≡ top v = omega arith in
        let hi = h.1 in
        let in_own : own j ≡ true = eq-eqb (top (suc j)) (suc j) (ap top up ∙ fix ∙ sym up) in
        let l = count_before own N.nodes j (omega arith) in_own in
        let r = places.1 (count j own) l in
        let one = count_same_place own (places.0 (count j own)) j r.1 in_own r.2 in
        (count j own, l, subst (OnePart N v) (sym up ∙ ap suc (sym one) ∙ sym (at (count j own) l)) (to_label N N.pipes v));
  }
    where
      k : ℕ
      k = count N.nodes own

      -- the node at the place i has i such nodes before it
      places : (f : ℕ → ℕ) × ((i : ℕ) → i < k → (f i < N.nodes) × (own (f i) ≡ true) × (count (f i) own ≡ i))
      places = choose k (λ i j. (j < N.nodes) × (own j ≡ true) × (count j own ≡ i)) (λ i l. let r = count_find own N.nodes i l in (r.0, (r.1, r.2, r.3)))

      node : ℕ → ℕ
      node i = suc (places.0 i)

      at : (i : ℕ) → i < k → get_or (listed k node) i 0 ≡ node i
      at i l = listed_at k node 0 i l

parts_le : (N : Shape) (k l : ℕ) → Parts N k → Parts N l → k ≤ l
parts_le N k l p q =
    let m : ℕ = N.pipes in
    let u : ℕ → ℕ = λ i. get_or p.of_each i 0 in
    let v : ℕ → ℕ = λ i. get_or q.of_each i 0 in
    let c = choose k (λ i j. (j < l) × OnePart N (u i) (v j)) (λ i h. let r = q.all (u i) (p.nodes i h) in (r.0, (r.1, r.2))) in
    let f = c.0 in
    let d : Different k l f = record {
      within = λ i h. (c.1 i h).0;
      apart = λ i j il jl e. p.apart i j il jl
          (run_then N m (u i) (v (f i)) (u j) (c.1 i il).1
          (run_back N m (u j) (v (f i)) (subst (λ a. OnePart N (u j) (v a)) (sym e) (c.1 j jl).1)));
    } in
    no_more d

pub parts_unique : (N : Shape) (k l : ℕ) → Parts N k → Parts N l → k ≡ l
parts_unique N k l p q = let up = parts_le N k l p q in let down = parts_le N l k q p in omega arith

pub parts_are_counted : PartsAreCounted
parts_are_counted N g =
    let n : ℕ = count N.nodes (λ v. eqb (label N N.pipes (suc v)) (suc v)) in
    (n, parts_by_labels N g, λ l q. parts_unique N l n q (parts_by_labels N g))
