-- How the labels that the program keeps follow those of the shape. Assumes nothing.
use Rattle.std.proofs.Common.{◌≡◌, ℕ, zero, suc, ◌+◌, ◌<◌, ◌≤◌, Bool, true, false, cond, length, get_or, drop, eqb, refl, ap, ◌∙◌, ap₂, sym, arith, eq-eqb, ne_eqb}
use borrow.Rule.Slice.PartMut.{mid_of}
use mathlib.Core.List.{map-id}
use Rattle.std.proofs.lemmas.List.{get_or-take, length-take, length-take-le, length-drop}
use Rattle.std.proofs.lemmas.Grind.{get_or_after_one}
use Rattle.std.proofs.lemmas.List.FromFn.{sum_by-map-range_with_len_more}
use Rattle.cycle_space.specs.Shapes.{Shape}
use Rattle.cycle_space.specs.Labels.{label, relabel}
use Rattle.cycle_space.specs.Sums.{fold, count}
use Rattle.net.specs.Labelled.{labelled, own_labels}
use Rattle.net.specs.declared.labels.Labels.{Labels}

-- what becomes of a label, where `high` is the greater and `low` the smaller of two
abbrev pub lowered : ℕ → ℕ → ℕ → ℕ
lowered high low l = cond (eqb l high) low l

pub lowered_high : (high low l : ℕ) → l ≡ high → lowered high low l ≡ low
lowered_high high low l e = ap (λ b. cond b low l) (eq-eqb l high e)

pub lowered_other : (high low l : ℕ) → (l ≡ high → ⊥) → lowered high low l ≡ l
lowered_other high low l e = ap (λ b. cond b low l) (ne_eqb l high e)

-- one pipe more
pub label_next : (N : Shape) (j : ℕ) (l l' : Labels) (a b : ℕ) → N.first j ≡ a → N.second j ≡ b → a < 65 → b < 65
    → ((v : ℕ) → v < 65 → labelled l v ≡ label N j v)
    → ((v : ℕ) → v < 65 → labelled l' v ≡ relabel (labelled l a) (labelled l b) (labelled l v))
    → (v : ℕ) → v < 65 → labelled l' v ≡ label N (suc j) v
label_next N j l l' a b fa fb la lb old new v h =
    new v h
    ∙ ap₂ (λ p q. relabel p q (labelled l v)) (old a la ∙ ap (label N j) (sym fa)) (old b lb ∙ ap (label N j) (sym fb))
    ∙ ap (relabel (label N j (N.first j)) (label N j (N.second j))) (old v h)

-- the labels of the nodes, from that of the first on
pub node_label : (l : Labels) (k i : ℕ) → i < length (mid_of 1 k l.of) → get_or (mid_of 1 k l.of) i 0 ≡ labelled l (i + 1)
node_label l k i h =
    let few = length-take k (drop 1 l.of) in
    get_or-take k (drop 1 l.of) i 0 (omega arith) ∙ get_or_after_one l.of i 0 ∙ ap (labelled l) (let q : 1 + i ≡ i + 1 = omega arith in q)

-- past the labels of n nodes, n are read
pub labels_read : (l : Labels) (k i n : ℕ) → length l.of ≡ 65 → n < 65 → k ≡ n → length (mid_of 1 k l.of) ≤ i → i ≤ length (mid_of 1 k l.of) → i ≡ n
labels_read l k i n long few same over within =
    let rest = length-drop 1 l.of in
    omega (arith, length-take-le k (drop 1 l.of) (omega arith))

-- one node more
pub own_more : (l : Labels) (n : ℕ) → own_labels l (n + 1) ≡ own_labels l n + cond (eqb (labelled l (n + 1)) (n + 1)) 1 0
own_more l n = simp map-id at (sum_by-map-range_with_len_more (λ v. cond (eqb (labelled l v) v) 1 0) (λ v. v) 1 n (n + 1) (omega arith))

pub own_few : (l : Labels) (n : ℕ) → own_labels l n ≤ n
own_few l zero = omega arith
own_few l (suc n) =
    let last : own_labels l (suc n) ≡ own_labels l (n + 1) = ap (own_labels l) (let q : suc n ≡ n + 1 = omega arith in q) in
    omega (arith, at_most_one (eqb (labelled l (n + 1)) (n + 1)), own_few l n, own_more l n)
  where
    at_most_one : (b : Bool) → cond b 1 0 ≤ 1
    at_most_one true = omega arith
    at_most_one false = omega arith

-- the nodes that are their own label, counted
pub own_counted : (N : Shape) (k : ℕ) (l : Labels) → ((v : ℕ) → v < 65 → labelled l v ≡ label N k v) → (n : ℕ) → n < 65
    → own_labels l n ≡ count n (λ v. eqb (label N k (suc v)) (suc v))
unfolding fold
own_counted N k l e zero h = refl
own_counted N k l e (suc n) h =
    let next : suc n ≡ n + 1 = omega arith in
    let below : own_labels l n ≡ count n (λ v. eqb (label N k (suc v)) (suc v)) = own_counted N k l e n (omega arith) in
    ap (own_labels l) next ∙ own_more l n ∙ ap (λ v. own_labels l n + cond (eqb (labelled l v) v) 1 0) (sym next)
    ∙ ap₂ (λ (r x : ℕ). r + cond (eqb x (suc n)) 1 0) below (e (suc n) h) ∙ omega arith
