-- How many of the numbers below n pass a test, and choices for the numbers below k. Assumes nothing.
use Rattle.std.proofs.Common.{◌≡◌, ℕ, zero, suc, ◌+◌, ◌<◌, ◌≤◌, Bool, true, false, cond, eqb, ◌↔◌, List, map, get_or, sym, refl, ap, ◌∙◌, subst, arith}
use native.Mathlib.Decide.{dec_lt}
use borrow.Author.Tests.{both_ways}
use Rattle.std.specs.List.{range_with_len}
use Rattle.std.proofs.lemmas.List.FromFn.{get_or-map-range_with_len}
use Rattle.std.proofs.lemmas.Bool.{cond_both}
use Rattle.std.proofs.lemmas.Bool.Decides.{nat_tests}
use Rattle.cycle_space.specs.Sums.{fold, count}
use Rattle.cycle_space.specs.Rows.{add2}
use Rattle.cycle_space.specs.Shapes.{Exactly, none, one, other}
use Rattle.cycle_space.proofs.Booleans.{by_eqb}
use Rattle.cycle_space.proofs.Folds.{numbers, fold_same, fold_none, fold_front}

pub count_same : (n : ℕ) (u v : ℕ → Bool) → ((i : ℕ) → i < n → u i ≡ v i) → count n u ≡ count n v
count_same n u v h = fold_same numbers n (λ i. cond (u i) 1 0) (λ i. cond (v i) 1 0) (λ i l. ap (λ b. cond b 1 0) (h i l))

pub count_le : (n : ℕ) (x : ℕ → Bool) → count n x ≤ n
unfolding fold
count_le zero x = omega arith
count_le (suc n) x = let r = count_le n x in grind arith

pub count_all : (n : ℕ) (x : ℕ → Bool) → ((i : ℕ) → i < n → x i ≡ true) → count n x ≡ n
unfolding fold
count_all zero x h = refl
count_all (suc n) x h = let r = count_all n x in grind arith

pub count_front : (n : ℕ) (x : ℕ → Bool) → count (suc n) x ≡ cond (x 0) 1 0 + count n (λ i. x (suc i))
count_front n x = fold_front numbers n (λ i. cond (x i) 1 0)

-- the test x with its answer at j turned
abbrev pub flip : (ℕ → Bool) → ℕ → ℕ → Bool
flip x j i = add2 (x i) (eqb i j)

pub count_out : (n : ℕ) (u : ℕ → Bool) (i : ℕ) → i < n → u i ≡ true → suc (count n (flip u i)) ≡ count n u
unfolding fold
count_out zero u i h e = absurd (omega arith)
count_out (suc n) u i h e =
    let r = count_out n u i in
    let same : ((j : ℕ) → j < n → j ≡ i → ⊥) → count n (flip u i) ≡ count n u = λ h. count_same n (flip u i) u (λ j l. let k = h j l in grind (arith, nat_tests)) in
    grind (arith, nat_tests)

-- a test that passes wherever the other does counts no less
pub count_less : (n : ℕ) (u v : ℕ → Bool) → ((i : ℕ) → i < n → u i ≡ true → v i ≡ true) → count n u ≤ count n v
unfolding fold
count_less zero u v h = omega arith
count_less (suc n) u v h = let r = count_less n u v in let here = h n in grind arith

-- The numbers that pass, in their order

pub count_up : (x : ℕ → Bool) (j l : ℕ) → j ≤ l → count j x ≤ count l x
unfolding fold
count_up x j zero h = grind arith
count_up x j (suc l) h = let r = count_up x j l in by_eqb (λ _. count j x ≤ count (suc l) x) j (suc l) (λ q. grind arith) (λ ne. grind arith)

-- one that passes has fewer before it
pub count_before : (x : ℕ → Bool) (n j : ℕ) → j < n → x j ≡ true → count j x < count n x
unfolding fold
count_before x n j l h = let up = count_up x (suc j) n l in grind arith

-- two that pass, with equally many before them, are one
pub count_same_place : (x : ℕ → Bool) (j l : ℕ) → x j ≡ true → x l ≡ true → count j x ≡ count l x → j ≡ l
count_same_place x j l hj hl e = let less = count_before x l j in let more = count_before x j l in grind arith

-- the one that has i before it
pub count_find : (x : ℕ → Bool) (m i : ℕ) → i < count m x → (j : ℕ) × (j < m) × (x j ≡ true) × (count j x ≡ i)
unfolding fold
count_find x zero i h = absurd (omega arith)
count_find x (suc m) i h = elim (dec_lt i (count m x)) [
  | yes lt ↦ let r = count_find x m i lt in (r.0, omega arith, r.2, r.3)
  | no ge ↦ (m, omega arith, grind arith, grind arith)
]

-- Different numbers

-- f 0, .., f (k - 1) are different numbers below n
pub record Different (k n : ℕ) (f : ℕ → ℕ) : Type 0 where
  pub within : (i : ℕ) → i < k → f i < n
  pub apart : (i j : ℕ) → i < k → j < k → f i ≡ f j → i ≡ j

-- without the last
pub fewer : {k n : ℕ} {f : ℕ → ℕ} → Different (suc k) n f → Different k n f
fewer d = record { within = λ i l. d.within i (omega arith); apart = λ i j il jl q. d.apart i j (omega arith) (omega arith) q }

-- j is one of f 0, .., f (k - 1)
abbrev pub hit : (ℕ → ℕ) → ℕ → ℕ → Bool
hit f zero j = false
hit f (suc k) j = cond (eqb j (f k)) true (hit f k j)

pub fresh : (f : ℕ → ℕ) (k j : ℕ) → ((i : ℕ) → i < k → f i ≡ j → ⊥) → hit f k j ≡ false
fresh f zero j h = refl
fresh f (suc k) j h = let r = fresh f k j in grind (arith, nat_tests)

pub hits : (n : ℕ) (f : ℕ → ℕ) (k : ℕ) → Different k n f → count n (hit f k) ≡ k
hits n f zero d = fold_none numbers n (λ j. cond (hit f zero j) 1 0) (λ _ _. refl)
hits n f (suc k) d =
    let new = fresh f k (f k) (λ i l q. let e = d.apart i k (omega arith) (omega arith) q in omega arith) in
    let out = count_out n (hit f (suc k)) (f k) (d.within k (omega arith)) (grind (arith, nat_tests)) in
    let rest = count_same n (flip (hit f (suc k)) (f k)) (hit f k) (λ j _. grind (arith, nat_tests)) in
    let ih = hits n f k (fewer d) in
    omega arith

-- there are no more of them than n
pub no_more : {k n : ℕ} {f : ℕ → ℕ} → Different k n f → k ≤ n
no_more {k} {n} {f} d = let e = hits n f k d in let l = count_le n (hit f k) in omega arith

-- a choice for each number below k, as a function
pub choose : (k : ℕ) (P : ℕ → ℕ → Type 0) → ((i : ℕ) → i < k → (j : ℕ) × P i j) → (f : ℕ → ℕ) × ((i : ℕ) → i < k → P i (f i))
choose zero P g = ((λ _. 0), λ i l. absurd (omega arith))
choose (suc k) P g =
    let r = choose k P (λ i l. g i (omega arith)) in
    let t = g k (omega arith) in (
      (λ j. cond (eqb j k) t.0 (r.0 j)),
      λ i l. by_eqb (λ b. P i (cond b t.0 (r.0 i))) i k (λ q. subst (λ a. P a t.0) (sym q) t.1) (λ ne. r.1 i (omega arith)),
    )

-- their list
abbrev pub listed : {A : Type 0} → ℕ → (ℕ → A) → List A
listed n s = map s (range_with_len 0 n)

pub listed_at : {A : Type 0} (n : ℕ) (s : ℕ → A) (d : A) (i : ℕ) → i < n → get_or (listed n s) i d ≡ s i
listed_at n s d i l = get_or-map-range_with_len s 0 n i i d l (omega arith)

-- Where the test decides a predicate, exactly so many numbers are such

module _ {Such : ℕ → Type 0} (x : ℕ → Bool) (decides : (i : ℕ) → (x i ≡ true) ↔ Such i) where
  pub exactly_count : (n : ℕ) → Exactly Such n (count n x)
  unfolding fold
  exactly_count zero = none refl refl
  exactly_count (suc n) =
      let r = exactly_count n in
      cond_both (x n) 1 0 (λ c. Exactly Such (suc n) (c + count n x)) (λ e. one n (count n x) refl (omega arith) ((decides n).0 e) r)
      (λ e. other n refl (λ s. both_ways (x n) e ((decides n).1 s)) (subst (Exactly Such n) (omega arith) r))

  pub count_exactly : (n k : ℕ) → Exactly Such n k → k ≡ count n x
  unfolding fold
  count_exactly n k (none e q) = q ∙ ap (λ m. count m x) (sym e)
  count_exactly n k (one m l e q s r) =
      let ih = count_exactly m l r in let at = (decides m).1 s in grind arith
  count_exactly n k (other m e isnt r) =
      let ih = count_exactly m k r in let at = (decides m).0 in grind arith

-- All of them, and one that is left

pub count_full : (n : ℕ) (x : ℕ → Bool) → count n x ≡ n → (j : ℕ) → j < n → x j ≡ true
unfolding fold
count_full zero x q j l = absurd (omega arith)
count_full (suc n) x q j l = let few = count_le n x in let r = count_full n x in grind arith

pub count_left : (n : ℕ) (x : ℕ → Bool) → count n x < n → (j : ℕ) × (j < n) × (x j ≡ false)
unfolding fold
count_left zero x q = absurd (omega arith)
count_left (suc n) x q = let r = count_left n x in grind arith

-- what is not hit is none of them
pub hit_fresh : (f : ℕ → ℕ) (k j : ℕ) → hit f k j ≡ false → (i : ℕ) → i < k → f i ≡ j → ⊥
hit_fresh f zero j h i l q = omega arith
hit_fresh f (suc k) j h i l q = let r = hit_fresh f k j in grind (arith, nat_tests)
