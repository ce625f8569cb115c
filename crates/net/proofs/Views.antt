-- The pipes that are seen, by the table of ends and the column, and what a write makes of them. Assumes nothing.
use Rattle.std.proofs.Common.{◌≡◌, ℕ, zero, suc, ◌+◌, ◌-◌, ◌<◌, ◌≤◌, List, [], ◌∷◌, ◌++◌, map, length, take, set, sym, refl, ap, ◌∙◌, ap₂, arith}
use Rattle.std.proofs.lemmas.List.{take_more_set, take-take, length-take-le}
use Rattle.cycle_space.specs.Moments.{Pipe, Moment, add_pipe, drop_last, reweighed, reweigh_pipe}
use Rattle.net.specs.Views.{pipes_of}
use Rattle.cycle_space.specs.declared.ends.Ends.{Ends}

abbrev pub pipe : {M : Type 0} → Ends → M → Pipe M
pipe e w = record { first = e.first; second = e.second; weight = w }

-- as many ends as weights: what is seen of each
module _ {M : Type 0} where
  pub ends_seen : (g : Pipe M → ℕ) (f : Ends → ℕ) → ((e : Ends) (w : M) → g (pipe e w) ≡ f e) → (es : List Ends) (ws : List M) → length es ≡ length ws → map g (pipes_of es ws) ≡ map f es
  ends_seen g f h [] ws l = refl
  ends_seen g f h (e ∷ es) [] l = absurd (omega arith)
  ends_seen g f h (e ∷ es) (w ∷ ws) l = ap₂ (λ (x : ℕ) (xs : List ℕ). x ∷ xs) (h e w) (ends_seen g f h es ws (omega arith))

  pub weighed : (es : List Ends) (ws : List M) → length es ≡ length ws → map (λ p. p.weight) (pipes_of es ws) ≡ ws
  weighed [] [] l = refl
  weighed [] (w ∷ ws) l = absurd (omega arith)
  weighed (e ∷ es) [] l = absurd (omega arith)
  weighed (e ∷ es) (w ∷ ws) l = ap (λ xs. w ∷ xs) (weighed es ws (omega arith))

  pub pipes_length : (es : List Ends) (ws : List M) → length es ≡ length ws → length (pipes_of es ws) ≡ length es
  pipes_length [] ws l = refl
  pipes_length (e ∷ es) [] l = absurd (omega arith)
  pipes_length (e ∷ es) (w ∷ ws) l = ap suc (pipes_length es ws (omega arith))

  pipes_push : (es : List Ends) (ws : List M) (e : Ends) (w : M) → length es ≡ length ws → pipes_of (es ++ (e ∷ [])) (ws ++ (w ∷ [])) ≡ pipes_of es ws ++ (pipe e w ∷ [])
  pipes_push [] [] e w l = refl
  pipes_push [] (v ∷ ws) e w l = absurd (omega arith)
  pipes_push (d ∷ es) [] e w l = absurd (omega arith)
  pipes_push (d ∷ es) (v ∷ ws) e w l = ap (λ ps. pipe d v ∷ ps) (pipes_push es ws e w (omega arith))

  pipes_take : (k : ℕ) (es : List Ends) (ws : List M) → pipes_of (take k es) (take k ws) ≡ take k (pipes_of es ws)
  pipes_take zero es ws = refl
  pipes_take (suc k) [] ws = refl
  pipes_take (suc k) (e ∷ es) [] = refl
  pipes_take (suc k) (e ∷ es) (w ∷ ws) = ap (λ ps. pipe e w ∷ ps) (pipes_take k es ws)

  pipes_reweighed : (es : List Ends) (ws : List M) (j : ℕ) (w : M) → pipes_of es (set ws j w) ≡ reweighed (pipes_of es ws) j w
  pipes_reweighed [] ws j w = refl
  pipes_reweighed (e ∷ es) [] j w = refl
  pipes_reweighed (e ∷ es) (v ∷ ws) zero w = refl
  pipes_reweighed (e ∷ es) (v ∷ ws) (suc j) w = ap (λ ps. pipe e v ∷ ps) (pipes_reweighed es ws j w)

take_set : {A : Type 0} (k : ℕ) (xs : List A) (j : ℕ) (x : A) → take k (set xs j x) ≡ set (take k xs) j x
take_set zero xs j x = refl
take_set (suc k) [] j x = refl
take_set (suc k) (y ∷ ys) zero x = refl
take_set (suc k) (y ∷ ys) (suc j) x = ap (λ zs. y ∷ zs) (take_set k ys j x)

module _ {M : Type 0} (nodes pipes : ℕ) (ends : List Ends) (column : List M) where
  abbrev pub seen : Moment M
  seen = record { nodes = nodes; pipes = pipes_of (take pipes ends) (take pipes column) }

module _ {M : Type 0} (nodes pipes : ℕ) (ends : List Ends) (column : List M) (le : pipes ≤ length ends) (lc : pipes ≤ length column) where
  pub as_many : length (take pipes ends) ≡ length (take pipes column)
  as_many = length-take-le pipes ends le ∙ sym (length-take-le pipes column lc)

  pub seen_length : length (seen nodes pipes ends column).pipes ≡ pipes
  seen_length = pipes_length (take pipes ends) (take pipes column) as_many ∙ length-take-le pipes ends le

  pub seen_laid : (e : Ends) (w : M) → pipes < length ends → pipes < length column
      → seen nodes (pipes + 1) (set ends pipes e) (set column pipes w) ≡ add_pipe (seen nodes pipes ends column) e.first e.second w
  seen_laid e w me mc =
      ap (λ ps. record { nodes = nodes; pipes = ps })
      (ap₂ pipes_of (take_more_set ends pipes e me) (take_more_set column pipes w mc) ∙ pipes_push (take pipes ends) (take pipes column) e w as_many)

  pub seen_lifted : seen nodes (pipes - 1) ends column ≡ drop_last (seen nodes pipes ends column)
  seen_lifted =
      ap (λ ps. record { nodes = nodes; pipes = ps })
      (pipes_take (pipes - 1) ends column
      ∙ sym (take-take (pipes - 1) pipes (pipes_of ends column) (omega arith))
      ∙ ap₂ (λ k ps. take (k - 1) ps) (sym seen_length) (sym (pipes_take pipes ends column)))

  pub seen_reweighed : (j : ℕ) (w : M) → seen nodes pipes ends (set column j w) ≡ reweigh_pipe (seen nodes pipes ends column) (j + 1) w
  seen_reweighed j w =
      ap (λ ps. record { nodes = nodes; pipes = ps })
      (ap (pipes_of (take pipes ends)) (take_set pipes column j w) ∙ pipes_reweighed (take pipes ends) (take pipes column) j w
      ∙ ap (λ i. reweighed (pipes_of (take pipes ends) (take pipes column)) i w) (omega arith))
