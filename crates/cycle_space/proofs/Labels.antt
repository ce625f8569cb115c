-- Labels: after the first k pipes two nodes have one label exactly where a run of those pipes joins them. Assumes nothing.
use Rattle.std.proofs.Common.{◌≡◌, ℕ, zero, suc, ◌<◌, ◌≤◌, min, max, true, cond, ◌↔◌, sym, refl, ap, subst, inl, inr, arith, eq-eqb, eqb-true}
use Rattle.std.proofs.lemmas.Bool.{cases_lt}
use Rattle.std.proofs.lemmas.Bool.Decides.{nat_tests}
use Rattle.cycle_space.specs.Shapes.{Shape, EndsAreNodes, Crosses, Run, stay, cross, Closing}
use Rattle.cycle_space.specs.Labels.{label, closes, LabelsTellParts}
use Rattle.cycle_space.proofs.Booleans.{by_eqb}
use Rattle.cycle_space.proofs.Runs.{run_then, run_back, run_up}

-- A run keeps the label

label_pipe : (N : Shape) (k j : ℕ) → j < k → label N k (N.first j) ≡ label N k (N.second j)
label_pipe N zero j l = absurd (omega arith)
label_pipe N (suc k) j l = let r = label_pipe N k j in grind (arith, nat_tests)

pub label_run : (N : Shape) (k s t : ℕ) → Run N k s t → label N k s ≡ label N k t
label_run N k s t (stay e) = ap (label N k) e
label_run N k s t (cross j u l c r) = let p = label_pipe N k j l in let q = label_run N k u t r in grind arith

-- A run leads from a node to its label

-- from v by its label, the end s, pipe k and the end t to the label of t
over : (N : Shape) (k v s t : ℕ) → ((u : ℕ) → Run N k u (label N k u)) → label N k v ≡ label N k s → Crosses N k s t → Run N (suc k) v (label N k t)
over N k v s t to e c =
    let up : (a b : ℕ) → Run N k a b → Run N (suc k) a b = run_up N k (suc k) (omega arith) in
    run_then N (suc k) v (label N k s) (label N k t) (up v (label N k s) (subst (Run N k v) e (to v)))
    (run_then N (suc k) (label N k s) s (label N k t) (run_back N (suc k) s (label N k s) (up s (label N k s) (to s)))
    (cross k t (omega arith) c (up t (label N k t) (to t))))

pub to_label : (N : Shape) (k v : ℕ) → Run N k v (label N k v)
to_label N zero v = stay refl
to_label N (suc k) v =
    let to : (u : ℕ) → Run N k u (label N k u) = λ u. to_label N k u in
    let p : ℕ = label N k (N.first k) in
    let q : ℕ = label N k (N.second k) in
    by_eqb (λ t. Run N (suc k) v (cond t (min p q) (label N k v))) (label N k v) (max p q)
    (λ e. elim (cases_lt p q) [
      | inl h ↦ subst (Run N (suc k) v) (omega arith) (over N k v (N.second k) (N.first k) to (omega arith) (inr (refl, refl)))
      | inr h ↦ subst (Run N (suc k) v) (omega arith) (over N k v (N.first k) (N.second k) to (omega arith) (inl (refl, refl)))
    ])
    (λ _. run_up N k (suc k) (omega arith) v (label N k v) (to v))

-- What a label is

pub label_le : (N : Shape) (k v : ℕ) → label N k v ≤ v
label_le N zero v = omega arith
label_le N (suc k) v = let h = label_le N k v in grind (arith, nat_tests)

pub label_label : (N : Shape) (k v : ℕ) → label N k (label N k v) ≡ label N k v
label_label N k v = sym (label_run N k v (label N k v) (to_label N k v))

pub same_label : (N : Shape) (k u v : ℕ) → label N k u ≡ label N k v → Run N k u v
same_label N k u v e =
    run_then N k u (label N k u) v (to_label N k u) (subst (λ l. Run N k l v) (sym e) (run_back N k v (label N k v) (to_label N k v)))

-- a node's label is no 0
pub label_pos : (N : Shape) → EndsAreNodes N → (k : ℕ) → k ≤ N.pipes → (v : ℕ) → 1 ≤ v → 1 ≤ label N k v
label_pos N g zero l v h = h
label_pos N g (suc k) l v h =
    let p = label_pos N g k (omega arith) (N.first k) (g k l).0.0 in
    let q = label_pos N g k (omega arith) (N.second k) (g k l).1.0 in
    let r = label_pos N g k (omega arith) v h in
    grind (arith, nat_tests)

pub labels_tell_parts : LabelsTellParts
labels_tell_parts N k = (λ u v. (same_label N k u v, label_run N k u v), label_le N k, label_label N k)

-- Closing pipes

pub closing_decided : (N : Shape) (j : ℕ) → (closes N j ≡ true) ↔ Closing N j
closing_decided N j = (
  λ e. same_label N j (N.first j) (N.second j) (eqb-true (label N j (N.first j)) (label N j (N.second j)) e),
  λ c. eq-eqb (label N j (N.first j)) (label N j (N.second j)) (label_run N j (N.first j) (N.second j) c),
)
