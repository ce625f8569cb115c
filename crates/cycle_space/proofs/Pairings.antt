-- Two lists with the same pipes are paired, pipe for pipe. Assumes nothing.
use Rattle.std.proofs.Common.{◌≡◌, ℕ, zero, suc, ◌+◌, ◌-◌, ◌<◌, Bool, true, false, cond, ◌&&◌, ◌||◌, eqb, ltb, ◌↔◌, List, [], ◌∷◌, length, get_or, sym, refl, ap, subst, inl, inr, arith}
use Rattle.std.specs.List.{count_by, remove}
use Rattle.std.proofs.lemmas.Bool.{and_parts, cases_Bool, cond_both}
use Rattle.std.proofs.lemmas.Bool.Decides.{nat_tests}
use Rattle.std.proofs.lemmas.List.Edits.{length-remove, get_or-remove_below, get_or-remove_above}
use Rattle.std.proofs.lemmas.List.Sums.{sum_by-cons, sum_by-remove}
use Rattle.std.proofs.Math.Bool.{decide, decide_iff}
use Rattle.cycle_space.specs.Moments.{Pipe}
use Rattle.cycle_space.specs.Rivals.{Links, Between, none, one, other}
use Rattle.cycle_space.proofs.Booleans.{by_eqb, not_so}

-- q links the nodes that p links, and weighs the same
pub record Match {M : Type 0} (p q : Pipe M) : Type 0 where
  pub links : Links p.first p.second q
  pub weighs : q.weight ≡ p.weight

pub match_back : {M : Type 0} (p q : Pipe M) → Match p q → Match q p
match_back p q m = record { links = let l = m.links in grind arith; weighs = sym m.weighs }

-- places where one more, the first, goes to i; and back
abbrev rise : ℕ → (ℕ → ℕ) → ℕ → ℕ
rise i f zero = i
rise i f (suc k) = cond (ltb (f k) i) (f k) (suc (f k))

abbrev fall : ℕ → (ℕ → ℕ) → ℕ → ℕ
fall i g m = cond (eqb m i) 0 (suc (g (cond (ltb m i) m (m - 1))))

fall_rise : (i : ℕ) (f g : ℕ → ℕ) → ((k : ℕ) → g (f k) ≡ k) → (k : ℕ) → fall i g (rise i f k) ≡ k
fall_rise i f g back zero = grind (arith, nat_tests)
fall_rise i f g back (suc k) = let e = back k in grind (arith, nat_tests)

rise_fall : (i : ℕ) (f g : ℕ → ℕ) → ((k : ℕ) → f (g k) ≡ k) → (m : ℕ) → rise i f (fall i g m) ≡ m
rise_fall i f g forth m =
    by_eqb (λ t. rise i f (cond t 0 (suc (g (cond (ltb m i) m (m - 1))))) ≡ m) m i sym
    (λ ne. let e = forth (cond (ltb m i) m (m - 1)) in grind (arith, nat_tests))

module _ {M : Type 0} (d : Pipe M) where
  -- the pipe i of the first list goes with the pipe to i of the second
  pub record Paired (ps qs : List (Pipe M)) : Type 0 where
    pub to : ℕ → ℕ
    pub from : ℕ → ℕ
    pub back : (i : ℕ) → from (to i) ≡ i
    pub forth : (i : ℕ) → to (from i) ≡ i
    pub long : length ps ≡ length qs
    pub to_in : (i : ℕ) → i < length ps → to i < length ps
    pub from_in : (i : ℕ) → i < length ps → from i < length ps
    pub fits : (i : ℕ) → i < length ps → Match (get_or ps i d) (get_or qs (to i) d)

  unfoldable pub paired_back : {ps qs : List (Pipe M)} → Paired ps qs → Paired qs ps
  paired_back {ps} {qs} p = record {
    to = p.from;
    from = p.to;
    back = p.forth;
    forth = p.back;
    long = sym p.long;
    to_in = λ i l. let e = p.long in let r = p.from_in i (omega arith) in omega arith;
    from_in = λ i l. let e = p.long in let r = p.to_in i (omega arith) in omega arith;
    fits = λ i l.
        let e = p.long in
        match_back (get_or ps (p.from i) d) (get_or qs i d)
        (subst (λ j. Match (get_or ps (p.from i) d) (get_or qs j d)) (p.forth i) (p.fits (p.from i) (p.from_in i (omega arith))));
  }

  paired_none : Paired [] []
  paired_none = record {
    to = λ i. i;
    from = λ i. i;
    back = λ i. refl;
    forth = λ i. refl;
    long = refl;
    to_in = λ i l. l;
    from_in = λ i l. l;
    fits = λ i l. absurd (omega arith);
  }

  -- one pipe more, which goes with the pipe i
  paired_at : (a : Pipe M) (ps qs : List (Pipe M)) (i : ℕ) → i < length qs → Match a (get_or qs i d) → Paired ps (remove qs i) → Paired (a ∷ ps) qs
  paired_at a ps qs i l m p = record {
    to = rise i p.to;
    from = fall i p.from;
    back = fall_rise i p.to p.from p.back;
    forth = rise_fall i p.to p.from p.forth;
    long = omega (arith, size, p.long);
    to_in = to_in;
    from_in = λ k h. let r = p.from_in (cond (ltb k i) k (k - 1)) in let e = p.long in let s = size in grind (arith, nat_tests);
    fits = fits;
  }
    where
      size : length (remove qs i) + 1 ≡ length qs
      size = length-remove qs i l

      to_in : (k : ℕ) → k < suc (length ps) → rise i p.to k < suc (length ps)
      to_in zero h = omega (arith, size, p.long)
      to_in (suc k) h = let r = p.to_in k in grind (arith, nat_tests)

      fits : (k : ℕ) → k < suc (length ps) → Match (get_or (a ∷ ps) k d) (get_or qs (rise i p.to k) d)
      fits zero h = m
      fits (suc k) h = subst (Match (get_or ps k d)) there (p.fits k (omega arith))
        where
          there : get_or (remove qs i) (p.to k) d ≡ get_or qs (rise i p.to (suc k)) d
          there =
              let low = get_or-remove_below qs i d (p.to k) in
              let high = get_or-remove_above qs i d (p.to k) in
              grind (arith, nat_tests)

  module _ (same : (a b : M) → Dec (a ≡ b)) where
    abbrev Such : ℕ → ℕ → M → Pipe M → Type 0
    Such u v w p = Links u v p × (p.weight ≡ w)

    abbrev such : ℕ → ℕ → M → Pipe M → Bool
    such u v w p = ((eqb p.first u && eqb p.second v) || (eqb p.first v && eqb p.second u)) && decide (same p.weight w)

    told : (u v : ℕ) (w : M) (p : Pipe M) → (such u v w p ≡ true) ↔ Such u v w p
    told u v w p = (
      λ e. let weighs = decide (same p.weight w) in
          let links : Links u v p = grind (arith, nat_tests) in
          (links, (decide_iff (same p.weight w)).0 (and_parts ((eqb p.first u && eqb p.second v) || (eqb p.first v && eqb p.second u)) (decide (same p.weight w)) e).1),
      λ s. let links = s.0 in let weighs = (decide_iff (same p.weight w)).1 s.1 in grind (arith, nat_tests),
    )

    abbrev many : ℕ → ℕ → M → List (Pipe M) → ℕ
    many u v w ps = count_by (such u v w) ps

    many_cons : (u v : ℕ) (w : M) (p : Pipe M) (ps : List (Pipe M)) → many u v w (p ∷ ps) ≡ cond (such u v w p) 1 0 + many u v w ps
    many_cons u v w p ps = sum_by-cons (λ p. cond (such u v w p) 1 0) p ps

    between_many : (u v : ℕ) (w : M) (ps : List (Pipe M)) → Between u v w ps (many u v w ps)
    between_many u v w [] = none
    between_many u v w (p ∷ ps) =
        let b = between_many u v w ps in
        subst (Between u v w (p ∷ ps)) (sym (many_cons u v w p ps))
        (cond_both (such u v w p) 1 0 (λ k. Between u v w (p ∷ ps) (k + many u v w ps))
        (λ e. let s = (told u v w p).0 e in subst (Between u v w (p ∷ ps)) (omega arith) (one s.0 s.1 b))
        (λ e. subst (Between u v w (p ∷ ps)) (omega arith) (other (λ f g. let t = (told u v w p).1 (f, g) in grind arith) b)))

    many_between : (u v : ℕ) (w : M) {ps : List (Pipe M)} {k : ℕ} → Between u v w ps k → k ≡ many u v w ps
    many_between u v w none = refl
    many_between u v w (one {p = p} {ps = ps} {k = k} e f b) =
        let r = many_between u v w b in let c = many_cons u v w p ps in let t = (told u v w p).1 (e, f) in grind arith
    many_between u v w (other {p = p} {ps = ps} {k = k} h b) =
        let r = many_between u v w b in
        let c = many_cons u v w p ps in
        let t : such u v w p ≡ false = not_so (such u v w p) (λ e. let s = (told u v w p).0 e in h s.0 s.1) in
        grind arith

    such_match : (u v : ℕ) (w : M) (p q : Pipe M) → Match p q → such u v w p ≡ such u v w q
    such_match u v w p q m = let links = m.links in let weighs = ap (λ x. decide (same x w)) m.weighs in grind (arith, nat_tests)

    find : (u v : ℕ) (w : M) (ps : List (Pipe M)) → 0 < many u v w ps → (i : ℕ) × (i < length ps) × Such u v w (get_or ps i d)
    find u v w [] h = absurd (omega arith)
    find u v w (p ∷ ps) h = elim (cases_Bool (such u v w p)) [
      | inl e ↦ (0, omega arith, (told u v w p).0 e)
      | inr e ↦ let c = many_cons u v w p ps in let r = find u v w ps (grind arith) in (suc r.0, omega (arith, r.1), r.2)
    ]

    pairing : (ps qs : List (Pipe M)) → ((u v : ℕ) (w : M) → many u v w ps ≡ many u v w qs) → Paired ps qs
    pairing [] [] h = paired_none
    pairing [] (q ∷ qs) h =
        let e = h q.first q.second q.weight in
        let c = many_cons q.first q.second q.weight q qs in
        let own = (told q.first q.second q.weight q).1 (inl (refl, refl), refl) in
        absurd (grind arith)
    pairing (p ∷ ps) qs h =
        let e = h p.first p.second p.weight in
        let c = many_cons p.first p.second p.weight p ps in
        let own = (told p.first p.second p.weight p).1 (inl (refl, refl), refl) in
        let f = find p.first p.second p.weight qs (grind arith) in
        let m : Match p (get_or qs f.0 d) = record { links = f.2.0; weighs = f.2.1 } in
        paired_at p ps qs f.0 f.1 m
        (pairing ps (remove qs f.0)
        (λ u v w.
        let a = h u v w in
        let b = sum_by-remove (λ p. cond (such u v w p) 1 0) qs f.0 d f.1 in
        let c = many_cons u v w p ps in
        let t = such_match u v w p (get_or qs f.0 d) m in
        grind arith))

    pub paired : (ps qs : List (Pipe M)) → ((u v : ℕ) (w : M) (k : ℕ) → Between u v w ps k ↔ Between u v w qs k) → Paired ps qs
    paired ps qs h = pairing ps qs (λ u v w. many_between u v w ((h u v w (many u v w ps)).0 (between_many u v w ps)))
