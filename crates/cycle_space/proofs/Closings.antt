-- Closing pipes: a closed set without one is empty, and each has a closed set of its own. Assumes nothing.
use Rattle.std.proofs.Common.{◌≡◌, ℕ, zero, suc, ◌+◌, ◌<◌, ◌≤◌, Bool, true, false, eqb, sym, refl, ap, ◌∙◌, subst, ap₂, inl, inr, arith, eqb-true}
use borrow.Author.Tests.{both_ways}
use Rattle.std.proofs.lemmas.Bool.{cases_Bool}
use Rattle.std.proofs.lemmas.Bool.Decides.{nat_tests}
use Rattle.cycle_space.specs.Rows.{add2}
use Rattle.cycle_space.specs.Shapes.{Shape, Run, stay, cross, Closing}
use Rattle.cycle_space.specs.Labels.{closes}
use Rattle.cycle_space.proofs.Booleans.{by_eqb, not_so, eqb_same, add2_same}
use Rattle.cycle_space.proofs.Labels.{closing_decided}
use Rattle.cycle_space.proofs.Counting.{flip}
use Rattle.cycle_space.proofs.Trails.{ends, boundary, Even, Inside, bd_add, bd_one, bd_none, bd_flip, ends_same, ends_cross, every_map, flip_in, trail, opened, walk_run}

-- Separation

-- the highest pipe of a closed set is closing
highest : (N : Shape) (x : ℕ → Bool) → Even N x → (k : ℕ) → k < N.pipes → x k ≡ true → ((i : ℕ) → k < i → i < N.pipes → x i ≡ false) → Closing N k
highest N x h k l e above =
    let t = trail N (flip x k) (N.first k) (N.second k) (opened N x h k l) in
    walk_run N k t.0 (N.first k) (N.second k) t.1
    (every_map (Inside N (flip x k)) (λ j. j < k) (λ j p. let r = flip_in x k j e p.1 in let hi = above j in let lj = p.0 in grind arith) t.0 t.2)

down : (N : Shape) (x : ℕ → Bool) → Even N x → ((j : ℕ) → j < N.pipes → x j ≡ true → Closing N j → ⊥)
    → (d k : ℕ) → N.pipes ≤ k + d → (i : ℕ) → k ≤ i → i < N.pipes → x i ≡ false
down N x h none zero k e i l m = absurd (omega arith)
down N x h none (suc d) k e i l m =
    let above : (i : ℕ) → k < i → i < N.pipes → x i ≡ false = λ i p. down N x h none d (suc k) (omega arith) i p in
    by_eqb (λ _. x i ≡ false) k i
    (λ q. not_so (x i) (λ xi. none i m xi (highest N x h i m xi (λ u p. above u (omega arith)))))
    (λ n. above i (omega arith) m)

-- a closed set without closing pipes is empty
pub separation : (N : Shape) (x : ℕ → Bool) → Even N x → ((j : ℕ) → j < N.pipes → x j ≡ true → Closing N j → ⊥)
    → (j : ℕ) → j < N.pipes → x j ≡ false
separation N x h none j l = down N x h none N.pipes 0 (omega arith) j (omega arith) l

-- Fundamental sets

-- a set of pipes below k that are not closing, with s and t as its only odd nodes
abbrev Tree : Shape → ℕ → ℕ → ℕ → Type 0
Tree N k s t = (x : ℕ → Bool) × ((j : ℕ) → x j ≡ true → (j < k) × (closes N j ≡ false)) × ((w : ℕ) → boundary N x w ≡ ends s t w)

tree_up : (N : Shape) (k s t : ℕ) → Tree N k s t → Tree N (suc k) s t
tree_up N k s t x = (x.0, λ j e. let r = x.1 j e in (omega arith, r.1), x.2)

tree_then : (N : Shape) (k s u t : ℕ) → Tree N k s u → Tree N k u t → Tree N k s t
tree_then N k s u t x y = (
  λ i. add2 (x.0 i) (y.0 i),
  λ j e. let p = x.1 j in let q = y.1 j in grind arith,
  λ w. let both = bd_add N x.0 y.0 w in let p = x.2 w in let q = y.2 w in grind arith,
)

tree_run : (N : Shape) (k : ℕ) → ((j : ℕ) → j < k → Tree N k (N.first j) (N.second j)) → (s t : ℕ) → Run N k s t → Tree N k s t
tree_run N k f s t (stay e) = (λ _. false, λ j q. absurd (both_ways false refl q), λ v. bd_none N v ∙ sym (ends_same s t e v))
tree_run N k f s t (cross j u l c r) =
    let x = f j l in
    tree_then N k s u t (x.0, x.1, λ v. x.2 v ∙ ends_cross N j s u c v) (tree_run N k f u t r)

tree_at : (N : Shape) (k : ℕ) → k < N.pipes → ((j : ℕ) → j < k → Tree N k (N.first j) (N.second j)) → Tree N (suc k) (N.first k) (N.second k)
tree_at N k l f = elim (cases_Bool (closes N k)) [
  | inl e ↦ tree_up N k (N.first k) (N.second k) (tree_run N k f (N.first k) (N.second k) ((closing_decided N k).0 e))
  | inr e ↦ (λ i. eqb i k, λ j h. let q = eqb-true j k h in (omega arith, ap (closes N) q ∙ e), bd_one N k l)
]

trees : (N : Shape) (k : ℕ) → k ≤ N.pipes → (j : ℕ) → j < k → Tree N k (N.first j) (N.second j)
trees N zero l j h = absurd (omega arith)
trees N (suc k) l j h =
    let f : (j : ℕ) → j < k → Tree N k (N.first j) (N.second j) = λ j m. trees N k (omega arith) j m in
    by_eqb (λ _. Tree N (suc k) (N.first j) (N.second j)) k j
    (λ q. subst (λ i. Tree N (suc k) (N.first i) (N.second i)) q (tree_at N k l f))
    (λ n. tree_up N k (N.first j) (N.second j) (f j (omega arith)))

-- a closing pipe is in a closed set without a higher pipe and without another closing pipe
pub fundamental : (N : Shape) (i : ℕ) → i < N.pipes → Closing N i
    → (x : ℕ → Bool) × Even N x × (x i ≡ true) × ((j : ℕ) → x j ≡ true → j ≤ i) × ((j : ℕ) → x j ≡ true → Closing N j → j ≡ i)
fundamental N i l c =
    let t = trees N (suc i) l i (omega arith) in
    let own : t.0 i ≡ false = not_so (t.0 i) (λ e. both_ways (closes N i) (t.1 i e).1 ((closing_decided N i).1 c)) in (
      flip t.0 i,
      λ w. bd_flip N t.0 i l w ∙ ap (λ b. add2 b (ends (N.first i) (N.second i) w)) (t.2 w) ∙ add2_same (ends (N.first i) (N.second i) w),
      ap₂ add2 own (eqb_same i),
      (λ j e. let r = t.1 j in grind (arith, nat_tests)),
      (λ j e cj. let r = t.1 j in let c = (closing_decided N j).1 cj in grind (arith, nat_tests)),
    )
