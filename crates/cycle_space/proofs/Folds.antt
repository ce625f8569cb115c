-- Finite sums in a commutative monoid. Assumes nothing.
use Rattle.std.proofs.Common.{◌≡◌, ℕ, zero, suc, ◌+◌, ◌<◌, Bool, true, false, cond, ◌&&◌, eqb, sym, refl, ap, ◌∙◌, add-suc, arith}
use Rattle.std.proofs.lemmas.Bool.Decides.{nat_tests}
use Rattle.cycle_space.specs.Sums.{fold}
use Rattle.cycle_space.specs.Rows.{add2}
use Rattle.cycle_space.proofs.Booleans.{add2_assoc, add2_comm}

-- a commutative monoid
pub record Comm {M : Type 0} (e : M) (op : M → M → M) : Type 0 where
  pub left : (x : M) → op e x ≡ x
  pub assoc : (x y z : M) → op (op x y) z ≡ op x (op y z)
  pub comm : (x y : M) → op x y ≡ op y x

-- GF(2)
pub bits : Comm false add2
bits = record { left = λ x. refl; assoc = add2_assoc; comm = add2_comm }

pub numbers : Comm 0 ◌+◌
numbers = record { left = λ x. omega arith; assoc = λ x y z. omega arith; comm = λ x y. omega arith }

module _ {M : Type 0} {e : M} {op : M → M → M} (g : Comm e op) where
  pub right : (x : M) → op x e ≡ x
  right x = g.comm x e ∙ g.left x

  pub swap4 : (a b c d : M) → op (op a b) (op c d) ≡ op (op a c) (op b d)
  swap4 a b c d = grind (arith, g.assoc, g.comm)

  pub fold_same : (n : ℕ) (u v : ℕ → M) → ((i : ℕ) → i < n → u i ≡ v i) → fold e op n u ≡ fold e op n v
  unfolding fold
  fold_same zero u v h = refl
  fold_same (suc n) u v h = let r = fold_same n u v in grind arith

  pub fold_two : (n : ℕ) (u v : ℕ → M) → fold e op n (λ i. op (u i) (v i)) ≡ op (fold e op n u) (fold e op n v)
  unfolding fold
  fold_two zero u v = sym (g.left e)
  fold_two (suc n) u v = let r = fold_two n u v in grind (arith, swap4)

  pub fold_none : (n : ℕ) (u : ℕ → M) → ((i : ℕ) → i < n → u i ≡ e) → fold e op n u ≡ e
  unfolding fold
  fold_none zero u h = refl
  fold_none (suc n) u h = let r = fold_none n u in grind (arith, g.left)

  -- the first value taken out
  pub fold_front : (n : ℕ) (u : ℕ → M) → fold e op (suc n) u ≡ op (u 0) (fold e op n (λ i. u (suc i)))
  unfolding fold
  fold_front zero u = refl
  fold_front (suc n) u = let r = fold_front n u in grind (arith, g.assoc, g.comm)

  -- cut in two after the first a values
  pub fold_add : (a b : ℕ) (u : ℕ → M) → fold e op (a + b) u ≡ op (fold e op b (λ j. u (a + j))) (fold e op a u)
  unfolding fold
  fold_add a zero u = grind (arith, g.left)
  fold_add a (suc b) u = rw (add-suc a b) (let r = fold_add a b u in grind (arith, g.assoc))

  -- one value alone
  pub fold_lone : (n i : ℕ) (x : M) → i < n → fold e op n (λ j. cond (eqb j i) x e) ≡ x
  unfolding fold
  fold_lone zero i x h = absurd (omega arith)
  fold_lone (suc n) i x h =
      let r = fold_lone n i x in let none = fold_none n (λ j. cond (eqb j i) x e) in grind (arith, nat_tests, right, g.left)

  -- the value at i taken out
  pub fold_out : (n i : ℕ) (u : ℕ → M) → i < n → fold e op n u ≡ op (u i) (fold e op n (λ j. cond (eqb j i) e (u j)))
  fold_out n i u h =
      fold_same n u (λ j. op (cond (eqb j i) (u i) e) (cond (eqb j i) e (u j))) (λ j l. grind (arith, nat_tests, right, g.left))
      ∙ fold_two n (λ j. cond (eqb j i) (u i) e) (λ j. cond (eqb j i) e (u j))
      ∙ ap (λ x. op x (fold e op n (λ j. cond (eqb j i) e (u j)))) (fold_lone n i (u i) h)

  -- sums of related values are related
  pub fold_rel : (R : M → M → Type 0) → R e e → ((a b c d : M) → R a b → R c d → R (op a c) (op b d))
      → (n : ℕ) (u v : ℕ → M) → ((i : ℕ) → i < n → R (u i) (v i)) → R (fold e op n u) (fold e op n v)
  unfolding fold
  fold_rel R z s zero u v h = z
  fold_rel R z s (suc n) u v h =
      s (u n) (v n) (fold e op n u) (fold e op n v) (h n (omega arith)) (fold_rel R z s n u v (λ i l. h i (omega arith)))

-- Sums over GF(2)

-- the one value at i
pub sum_lone : (n i : ℕ) (c : ℕ → Bool) → i < n → fold false add2 n (λ j. eqb j i && c j) ≡ c i
sum_lone n i c h =
    fold_same bits n (λ j. eqb j i && c j) (λ j. cond (eqb j i) (c i) false) (λ j _. grind (arith, nat_tests))
    ∙ fold_lone bits n i (c i) h

-- products with one s add up
pub dot_add : (n : ℕ) (s x y : ℕ → Bool)
    → fold false add2 n (λ j. s j && add2 (x j) (y j)) ≡ add2 (fold false add2 n (λ j. s j && x j)) (fold false add2 n (λ j. s j && y j))
dot_add n s x y =
    fold_same bits n (λ j. s j && add2 (x j) (y j)) (λ j. add2 (s j && x j) (s j && y j)) (λ j _. grind arith)
    ∙ fold_two bits n (λ j. s j && x j) (λ j. s j && y j)

-- a sum that is true has a value that is true
pub sum_find : (n : ℕ) (u : ℕ → Bool) → fold false add2 n u ≡ true → (i : ℕ) × (i < n) × (u i ≡ true)
unfolding fold
sum_find zero u h = grind arith
sum_find (suc n) u h = let r = sum_find n u in grind arith
