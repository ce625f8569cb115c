-- The due number: there is one, and it is the number of closing pipes. Assumes nothing.
use Rattle.std.proofs.Common.{◌≡◌, ℕ, zero, suc, ◌+◌, ◌≤◌, max, Bool, eqb, sym, subst, arith}
use borrow.Author.Tests.{eqb-false}
use Rattle.std.proofs.lemmas.Bool.{cond_both}
use Rattle.std.proofs.lemmas.Bool.Decides.{nat_tests}
use Rattle.cycle_space.specs.Shapes.{Shape, EndsAreNodes, Parts, Due, Closing, Exactly, DueIsClosing}
use Rattle.cycle_space.specs.Labels.{label, closes}
use Rattle.cycle_space.specs.Supports.{rank}
use Rattle.cycle_space.specs.Sums.{fold, count}
use Rattle.cycle_space.proofs.Booleans.{eqb_same}
use Rattle.cycle_space.proofs.Labels.{label_le, label_label, closing_decided}
use Rattle.cycle_space.proofs.Counting.{flip, count_same, count_le, count_all, count_out, count_front, exactly_count, count_exactly}
use Rattle.cycle_space.proofs.Parts.{parts_by_labels, parts_unique}

-- the node v is its own label after the first k pipes
abbrev root : Shape → ℕ → ℕ → Bool
root N k v = eqb (label N k v) v

-- over the first k pipes, with 0 as one more root
due_after : (N : Shape) → EndsAreNodes N → (k : ℕ) → k ≤ N.pipes → count k (closes N) + suc N.nodes ≡ k + count (suc N.nodes) (root N k)
unfolding fold
due_after N g zero l = let e = count_all (suc N.nodes) (root N zero) (λ v _. eqb_same v) in omega arith
due_after N g (suc k) l =
    let ih = due_after N g k (omega arith) in
    let p : ℕ = label N k (N.first k) in
    let q : ℕ = label N k (N.second k) in
    cond_both (closes N k) 1 0 (λ c. c + count k (closes N) + suc N.nodes ≡ suc k + count (suc N.nodes) (root N (suc k)))
    -- a closing pipe changes no label
    (λ e. let s = count_same (suc N.nodes) (root N (suc k)) (root N k) (λ v _. grind (arith, nat_tests)) in omega arith)
    -- any other leaves one root less: the higher of two labels is no longer one
    (λ e.
    let ne = eqb-false p q e in
    let lp = label_label N k (N.first k) in
    let lq = label_label N k (N.second k) in
    let s = count_same (suc N.nodes) (root N (suc k)) (flip (root N k) (max p q)) (λ v _. grind (arith, nat_tests)) in
    let p_le = label_le N k (N.first k) in
    let q_le = label_le N k (N.second k) in
    let ends = g k l in
    let o = count_out (suc N.nodes) (root N k) (max p q) (omega (arith, ends.0.1, ends.1.1)) (grind (arith, nat_tests)) in
    omega arith)

pub due_by_labels : (N : Shape) → EndsAreNodes N
    → rank N + N.nodes ≡ N.pipes + count N.nodes (λ v. eqb (label N N.pipes (suc v)) (suc v))
due_by_labels N g =
    let c = due_after N g N.pipes (omega arith) in
    let front = count_front N.nodes (root N N.pipes) in
    let zeroth = label_le N N.pipes 0 in
    grind (arith, nat_tests)

pub due_rank : (N : Shape) → EndsAreNodes N → Due N (rank N)
due_rank N g = (count N.nodes (λ v. eqb (label N N.pipes (suc v)) (suc v)), parts_by_labels N g, due_by_labels N g)

pub due_unique : (N : Shape) (d e : ℕ) → Due N d → Due N e → d ≡ e
due_unique N d e p q = let same = parts_unique N p.0 q.0 p.1 q.1 in let l = p.2 in let r = q.2 in omega arith

pub due_is_closing : DueIsClosing
due_is_closing N g d = (
  λ p. subst (Exactly (Closing N) N.pipes) (due_unique N (rank N) d (due_rank N g) p) (exactly_count (closes N) (closing_decided N) N.pipes),
  λ x. subst (Due N) (sym (count_exactly (closes N) (closing_decided N) N.pipes d x)) (due_rank N g),
)

-- there are no more parts than nodes, and with the pipes no fewer
pub parts_few : (N : Shape) → EndsAreNodes N → (k : ℕ) → Parts N k → k ≤ N.nodes
parts_few N g k p =
    let same = parts_unique N k (count N.nodes (λ v. eqb (label N N.pipes (suc v)) (suc v))) p (parts_by_labels N g) in
    let few = count_le N.nodes (λ v. eqb (label N N.pipes (suc v)) (suc v)) in
    omega arith

pub parts_enough : (N : Shape) → EndsAreNodes N → (k : ℕ) → Parts N k → N.nodes ≤ N.pipes + k
parts_enough N g k p =
    let same = parts_unique N k (count N.nodes (λ v. eqb (label N N.pipes (suc v)) (suc v))) p (parts_by_labels N g) in
    let due = due_by_labels N g in
    omega arith
