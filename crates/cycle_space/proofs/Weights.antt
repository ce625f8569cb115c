-- The weight of a set of pipes, as a sum over the places. Assumes nothing.
use Rattle.std.proofs.Common.{◌≡◌, ℕ, suc, ◌+◌, Bool, cond, List, [], ◌∷◌, length, get_or, sym, refl, ap, ◌∙◌, ap₂, arith}
use mathlib.Core.Path.{fun_ext}
use Rattle.cycle_space.specs.Sums.{fold}
use Rattle.cycle_space.specs.Rows.{Row, bit}
use Rattle.cycle_space.specs.Moments.{Moment, weights, weight_from, weight}
use Rattle.cycle_space.proofs.Folds.{Comm, fold_same, fold_front}

-- the joined weights at the places that are in the set
abbrev pub heft : {M : Type 0} → M → (M → M → M) → List M → (ℕ → Bool) → M
heft zero' join ws x = fold zero' join (length ws) (λ j. cond (x j) (get_or ws j zero') zero')

module _ {M : Type 0} {zero' : M} {join : M → M → M} (g : Comm zero' join) where
  -- where the first of the weights is that at the place s
  pub weight_from_fold : (r : Row) (s : ℕ) (ws : List M) → weight_from zero' join r (suc s) ws ≡ heft zero' join ws (λ j. bit r (s + j))
  unfolding fold
  weight_from_fold r s [] = refl
  weight_from_fold r s (w ∷ ws) =
      (let split : cond (bit r s) (join w rest) rest ≡ join (cond (bit r s) w zero') rest = grind (arith, g.left) in split)
      ∙ ap₂ join (ap (λ i. cond (bit r i) w zero') (let q : s ≡ s + 0 = omega arith in q))
      (weight_from_fold r (suc s) ws
      ∙ fold_same g (length ws) (λ j. cond (bit r (suc s + j)) (get_or ws j zero') zero') (λ j. cond (bit r (s + suc j)) (get_or ws j zero') zero')
      (λ j _. ap (λ i. cond (bit r i) (get_or ws j zero') zero') (omega arith)))
      ∙ sym (fold_front g (length ws) (λ j. cond (bit r (s + j)) (get_or (w ∷ ws) j zero') zero'))
    where
      rest : M
      rest = weight_from zero' join r (suc (suc s)) ws

  pub weight_heft : (n : Moment M) (r : Row) → weight zero' join n r ≡ heft zero' join (weights n) (bit r)
  weight_heft n r = weight_from_fold r 0 (weights n) ∙ ap (heft zero' join (weights n)) (fun_ext (λ j. ap (bit r) (omega arith)))
