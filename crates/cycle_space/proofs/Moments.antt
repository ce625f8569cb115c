-- Nets at a moment, as they are changed. Assumes nothing.
use Rattle.std.proofs.Common.{◌≡◌, ℕ, zero, suc, ◌-◌, List, [], ◌∷◌, ◌++◌, map, length, set, refl, ap, ap₂, arith}
use Rattle.std.proofs.lemmas.List.{length-append, take_at}
use Rattle.cycle_space.specs.Moments.{Pipe, drawn, reweighed, MomentLaws}

module _ {M : Type 0} where
  -- what a reweighing does not look at
  ends_stay : (f : Pipe M → ℕ) → ((p : Pipe M) (w : M) → f (record { first = p.first; second = p.second; weight = w }) ≡ f p)
      → (ps : List (Pipe M)) (j : ℕ) (w : M) → map f (reweighed ps j w) ≡ map f ps
  ends_stay f h [] j w = refl
  ends_stay f h (p ∷ ps) zero w = ap (λ x. x ∷ map f ps) (h p w)
  ends_stay f h (p ∷ ps) (suc j) w = ap (λ xs. f p ∷ xs) (ends_stay f h ps j w)

  weight_set : (ps : List (Pipe M)) (j : ℕ) (w : M) → map (λ p. p.weight) (reweighed ps j w) ≡ set (map (λ p. p.weight) ps) j w
  weight_set [] j w = refl
  weight_set (p ∷ ps) zero w = refl
  weight_set (p ∷ ps) (suc j) w = ap (λ xs. p.weight ∷ xs) (weight_set ps j w)

pub moment_laws : {M : Type 0} → MomentLaws M
moment_laws = record {
  lift_undoes_lay = λ n a b w.
      let p : Pipe _ = record { first = a; second = b; weight = w } in
      ap (λ ps. record { nodes = n.nodes; pipes = ps }) (take_at n.pipes (p ∷ []) (length (n.pipes ++ (p ∷ [])) - 1) (let l = length-append n.pipes (p ∷ []) in omega arith));
  reweigh_keeps_ends = λ n j w.
      ap₂ (λ (xs ys : List ℕ). drawn n.nodes xs ys) (ends_stay (λ p. p.first) (λ p v. refl) n.pipes (j - 1) w) (ends_stay (λ p. p.second) (λ p v. refl) n.pipes (j - 1) w);
  reweigh_sets_weight = λ n j w. weight_set n.pipes (j - 1) w;
}
