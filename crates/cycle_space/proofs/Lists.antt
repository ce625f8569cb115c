-- Rings and rivals as lists of rows: full lists are bases, the exchange, the joined weight, the counts. Assumes nothing.
use Rattle.std.proofs.Common.{◌≡◌, ℕ, zero, suc, ◌+◌, ◌<◌, Bool, true, cond, List, [], ◌∷◌, map, length, get_or, sym, refl, ap, ◌∙◌, subst, ap₂, inl, inr, arith}
use mathlib.Core.Path.{fun_ext}
use Rattle.std.proofs.lemmas.List.FromFn.{length-map-range_with_len}
use Rattle.std.proofs.lemmas.Bool.Decides.{nat_tests}
use Rattle.std.proofs.lemmas.List.{length-set, get_or-set_same, get_or-set_other}
use Rattle.cycle_space.specs.Sums.{fold, count}
use Rattle.cycle_space.specs.Rows.{Row, bit, row_of, empty, odd}
use Rattle.cycle_space.specs.Shapes.{Shape}
use Rattle.cycle_space.specs.Moments.{Moment, shape, weight}
use Rattle.cycle_space.specs.Bases.{Closed, Basis}
use Rattle.cycle_space.specs.Supports.{rank, Sound}
use Rattle.cycle_space.specs.Rivals.{joined_weight, exchanged, Exchanges, how_many}
use Rattle.cycle_space.proofs.Folds.{numbers, fold_front, dot_add}
use Rattle.cycle_space.proofs.Bits.{row_of_bits}
use Rattle.cycle_space.proofs.Counting.{Different, listed, listed_at}
use Rattle.cycle_space.proofs.Linear.{Spans, Rings, replaced, Exchanged, Joins}
use Rattle.cycle_space.proofs.Exchanges.{origin, exchange}
use Rattle.cycle_space.proofs.Counts.{same_size, lighter}
use Rattle.cycle_space.proofs.Spaces.{none, xors, Cycle, odd_sets, space, to_spans, from_spans}
use Rattle.cycle_space.proofs.Supports.{sound_rings, not_yet, full}

-- The exchanged list

exchanged_length : (rival : List Row) (ps : List ℕ) (cs : List Row) → length (exchanged rival ps cs) ≡ length rival
exchanged_length rival [] cs = refl
exchanged_length rival (p ∷ ps) [] = refl
exchanged_length rival (p ∷ ps) (c ∷ cs) = length-set (exchanged rival ps cs) p c ∙ exchanged_length rival ps cs

-- each ring stands at its place
exchanged_at : (rival : List Row) (ps : List ℕ) (cs : List Row) → length ps ≡ length cs → ((i : ℕ) → i < length ps → get_or ps i 0 < length rival)
    → ((i j : ℕ) → i < length ps → j < length ps → get_or ps i 0 ≡ get_or ps j 0 → i ≡ j)
    → (i : ℕ) → i < length ps → get_or (exchanged rival ps cs) (get_or ps i 0) empty ≡ get_or cs i empty
exchanged_at rival [] cs l m d i h = absurd (omega arith)
exchanged_at rival (p ∷ ps) [] l m d i h = absurd (omega arith)
exchanged_at rival (p ∷ ps) (c ∷ cs) l m d zero h =
    get_or-set_same (exchanged rival ps cs) p c empty (let e = exchanged_length rival ps cs in let b = m 0 h in omega arith)
exchanged_at rival (p ∷ ps) (c ∷ cs) l m d (suc i) h =
    get_or-set_other (exchanged rival ps cs) p (get_or ps i 0) c empty (λ q. let z = d (suc i) 0 h (omega arith) q in omega arith)
    ∙ exchanged_at rival ps cs (omega arith) (λ i k. m (suc i) (omega arith)) (λ i j hi hj q. let z = d (suc i) (suc j) (omega arith) (omega arith) q in omega arith) i (omega arith)

-- and at every other place what stood there
exchanged_other : (rival : List Row) (ps : List ℕ) (cs : List Row) (j : ℕ) → ((i : ℕ) → i < length ps → get_or ps i 0 ≡ j → ⊥)
    → get_or (exchanged rival ps cs) j empty ≡ get_or rival j empty
exchanged_other rival [] cs j h = refl
exchanged_other rival (p ∷ ps) [] j h = refl
exchanged_other rival (p ∷ ps) (c ∷ cs) j h =
    get_or-set_other (exchanged rival ps cs) p j c empty (λ q. h 0 (omega arith) (sym q)) ∙ exchanged_other rival ps cs j (λ i l. h (suc i) (omega arith))

-- Full lists

-- sound rings are a basis exactly where they are as many as the closing pipes
module _ (N : Shape) (ours : List Row) (support : ℕ → Row) (s : Sound N (length ours) (λ i. get_or ours i empty) support) where
  pub basis_when_full : length ours ≡ rank N → Basis N ours
  basis_when_full e = from_spans N s.few_pipes ours s.closed (full N (length ours) (λ i. get_or ours i empty) support s e)

  pub full_when_basis : Basis N ours → length ours ≡ rank N
  full_when_basis b =
      let up = s.not_over in
      let less : length ours < rank N → ⊥ = λ lt. not_yet N (length ours) (λ i. get_or ours i empty) support s lt (to_spans N s.few_pipes ours b) in
      omega arith

-- Our rings and a rival

module _ {M : Type 0} {zero' : M} {join : M → M → M} {within : M → M → Bool} (js : Joins within zero' join) (n : Moment M) where
  joined_fold : (xs : List Row) → joined_weight zero' join n xs ≡ fold zero' join (length xs) (λ i. weight zero' join n (get_or xs i empty))
  unfolding fold
  joined_fold [] = refl
  joined_fold (x ∷ xs) =
      ap (join (weight zero' join n x)) (joined_fold xs)
      ∙ sym (fold_front js.monoid (length xs) (λ i. weight zero' join n (get_or (x ∷ xs) i empty)))

  pub many_count : (v : M) (xs : List Row) → how_many within v (map (weight zero' join n) xs) ≡ count (length xs) (λ i. within (weight zero' join n (get_or xs i empty)) v)
  unfolding fold
  many_count v [] = refl
  many_count v (x ∷ xs) =
      ap (λ k. cond (within (weight zero' join n x) v) 1 0 + k) (many_count v xs)
      ∙ sym (fold_front numbers (length xs) (λ i. cond (within (weight zero' join n (get_or (x ∷ xs) i empty)) v) 1 0))

  module _ (ours : List Row) (support : ℕ → Row) (s : Sound (shape n) (length ours) (λ i. get_or ours i empty) support)
      (least : (i : ℕ) → i < length ours → (x : Row) → Closed (shape n) x → odd x (support i) ≡ true
      → within (weight zero' join n (get_or ours i empty)) (weight zero' join n x) ≡ true) where
    pub our_rings : Rings (Cycle (shape n)) within (λ x. weight zero' join n (row_of x)) (λ i. odd_sets (bit (support i))) (length ours) (λ i. bit (get_or ours i empty))
    our_rings = sound_rings (shape n) (length ours) (λ i. get_or ours i empty) support s within (weight zero' join n) least

    module _ (rival : List Row) (b : Basis (shape n) rival) where
      -- places for our rings in the rival's list
      abbrev Swap : (ℕ → ℕ) → Type 0
      Swap f = Exchanged none xors (Cycle (shape n)) within (λ x. weight zero' join n (row_of x)) (length ours) (λ i. bit (get_or ours i empty)) (length rival) (λ i. bit (get_or rival i empty)) f

      pub swap : (f : ℕ → ℕ) × Swap f
      swap = exchange (space (shape n)) (λ i. dot_add 256 (bit (support i))) our_rings (to_spans (shape n) s.few_pipes rival b)

      weighs : (r : Row) → Closed (shape n) r → weight zero' join n (row_of (bit r)) ≡ weight zero' join n r
      weighs r c = ap (weight zero' join n) (row_of_bits r c.of_pipes.words)

      module _ (f : ℕ → ℕ) (ex : Swap f) where
        heavy : (i : ℕ) → i < length ours → within (weight zero' join n (get_or ours i empty)) (weight zero' join n (get_or rival (f i) empty)) ≡ true
        heavy i l =
            sym (ap₂ within (weighs (get_or ours i empty) (s.closed i l)) (weighs (get_or rival (f i) empty) (b.members (f i) (ex.places.within i l))))
            ∙ ex.heavier i l

        abbrev spots : List ℕ
        spots = listed (length ours) f

        long : length spots ≡ length ours
        long = length-map-range_with_len f 0 (length ours)

        at : (i : ℕ) → i < length ours → get_or spots i 0 ≡ f i
        at i l = listed_at (length ours) f 0 i l

        inside : (i : ℕ) → i < length spots → get_or spots i 0 < length rival
        inside i l = let e = long in let a = at i in let b = ex.places.within i in grind arith

        apart : (i j : ℕ) → i < length spots → j < length spots → get_or spots i 0 ≡ get_or spots j 0 → i ≡ j
        apart i j hi hj q = let e = long in let a = at i in let b = at j in let c = ex.places.apart i j in grind arith

        at_place : (j : ℕ) → get_or (exchanged rival spots ours) j empty ≡ replaced (λ i. get_or rival i empty) (λ i. get_or ours i empty) f (length ours) j
        at_place j =
            elim (origin (λ i. get_or rival i empty) (λ i. get_or ours i empty) f (length ours) j) [
              | inl o ↦
                  ap (λ p. get_or (exchanged rival spots ours) p empty) (sym o.2 ∙ sym (at o.0 o.1))
                  ∙ exchanged_at rival spots ours long inside apart o.0 (omega (arith, long, o.1)) ∙ sym o.3
              | inr o ↦ exchanged_other rival spots ours j (λ i l q. o.0 i (omega (arith, long)) (sym (at i (omega (arith, long))) ∙ q)) ∙ sym o.1
            ]

        closed_place : (j : ℕ) → j < length rival → Closed (shape n) (replaced (λ i. get_or rival i empty) (λ i. get_or ours i empty) f (length ours) j)
        closed_place j l =
            elim (origin (λ i. get_or rival i empty) (λ i. get_or ours i empty) f (length ours) j) [
              | inl o ↦ subst (Closed (shape n)) (sym o.3) (s.closed o.0 o.1)
              | inr o ↦ subst (Closed (shape n)) (sym o.1) (b.members j l)
            ]

      bit_replaced : (f : ℕ → ℕ) (k j : ℕ) → bit (replaced (λ i. get_or rival i empty) (λ i. get_or ours i empty) f k j) ≡ replaced (λ i. bit (get_or rival i empty)) (λ i. bit (get_or ours i empty)) f k j
      bit_replaced f zero j = refl
      bit_replaced f (suc k) j = let r = bit_replaced f k j in grind (arith, nat_tests)

      pub exchanges : Exchanges zero' join within n ours rival
      exchanges =
          let f = swap.0 in
          let ex = swap.1 in
          let new : List Row = exchanged rival (spots f ex) ours in
          let size : length new ≡ length rival = exchanged_length rival (spots f ex) ours in
          record {
            places = spots f ex;
            one_each = long f ex;
            members = inside f ex;
            different = apart f ex;
            no_heavier = λ i l. ap (λ p. within (weight zero' join n (get_or ours i empty)) (weight zero' join n (get_or rival p empty))) (at f ex i l) ∙ heavy f ex i l;
            basis = from_spans (shape n) s.few_pipes new
                (λ j l. subst (Closed (shape n)) (sym (at_place f ex j)) (closed_place f ex j (omega arith)))
                (subst (λ (k : ℕ). Spans none xors (Cycle (shape n)) k (λ j. bit (get_or new j empty))) (sym size)
                (subst (Spans none xors (Cycle (shape n)) (length rival)) (fun_ext (λ j. sym (ap bit (at_place f ex j) ∙ bit_replaced f (length ours) j))) ex.basis));
          }

      -- no basis is lighter
      pub lightest : Basis (shape n) ours → within (joined_weight zero' join n ours) (joined_weight zero' join n rival) ≡ true
      lightest c =
          let f = swap.0 in
          let ex = swap.1 in
          let same : length rival ≡ length ours = same_size (space (shape n)) (to_spans (shape n) s.few_pipes ours c) ex in
          ap₂ within (joined_fold ours) (joined_fold rival ∙ ap (λ k. fold zero' join k (λ i. weight zero' join n (get_or rival i empty))) same)
          ∙ lighter js (length ours) (λ i. weight zero' join n (get_or ours i empty)) (λ i. weight zero' join n (get_or rival i empty)) f
          (subst (λ k. Different (length ours) k f) same ex.places) (heavy f ex)
