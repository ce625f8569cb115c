-- Rings carried over a pairing of the pipes of two nets, and equal counts. Assumes nothing.
use Rattle.std.proofs.Common.{◌≡◌, ℕ, zero, suc, ◌<◌, ◌≤◌, Bool, true, cond, ◌&&◌, List, map, length, get_or, sym, refl, ap, ◌∙◌, subst, ap₂, arith}
use mathlib.Core.Path.{fun_ext}
use Rattle.std.proofs.lemmas.List.{length-map, get_or-map}
use Rattle.cycle_space.specs.Sums.{fold, count}
use Rattle.cycle_space.specs.Rows.{Row, bit, row_of, empty, add2, odd}
use Rattle.cycle_space.specs.Moments.{Pipe, Moment, shape, weights, weight}
use Rattle.cycle_space.specs.Bases.{Closed, Basis}
use Rattle.cycle_space.specs.Supports.{Sound}
use Rattle.cycle_space.specs.Rivals.{SamePipes, how_many}
use Rattle.cycle_space.proofs.Folds.{Comm, bits, numbers, fold_same, dot_add}
use Rattle.cycle_space.proofs.Bits.{row_of_bits}
use Rattle.cycle_space.proofs.Counting.{Different, no_more}
use Rattle.cycle_space.proofs.Linear.{picked, Space, Spans, Rings, Exchanged, Order, Joins}
use Rattle.cycle_space.proofs.Exchanges.{exchange}
use Rattle.cycle_space.proofs.Counts.{permuted, more_light}
use Rattle.cycle_space.proofs.Weights.{heft, weight_heft}
use Rattle.cycle_space.proofs.Pairings.{Paired, paired, paired_back}
use Rattle.cycle_space.proofs.Trails.{ends, boundary}
use Rattle.cycle_space.proofs.Spaces.{none, xors, Cycle, odd_sets, space, bits_back, to_spans}
use Rattle.cycle_space.proofs.Lists.{our_rings, many_count}

-- in one space: two lists of rings that are bases have equally many members at most as heavy as v
module _ {A V : Type 0} {e : A} {op : A → A → A} {In : A → Type 0} (sp : Space e op In) {leq : V → V → Bool} (o : Order leq) (w : A → V) where
  one_way : (k n : ℕ) (C B : ℕ → A) (f : ℕ → ℕ) → Exchanged e op In leq w k C n B f → n ≡ k → (v : V)
      → count n (λ i. leq (w (B i)) v) ≤ count k (λ i. leq (w (C i)) v)
  one_way k n C B f ex q v =
      subst (λ l. count l (λ i. leq (w (B i)) v) ≤ count k (λ i. leq (w (C i)) v)) (sym q)
      (more_light o k (λ i. w (C i)) (λ i. w (B i)) f (subst (λ l. Different k l f) q ex.places) ex.heavier v)

  same_counts : (S : ℕ → A → Bool) → ((i : ℕ) (x y : A) → S i (op x y) ≡ add2 (S i x) (S i y)) → (k : ℕ) (C : ℕ → A) → Rings In leq w S k C → Spans e op In k C
      → (S' : ℕ → A → Bool) → ((i : ℕ) (x y : A) → S' i (op x y) ≡ add2 (S' i x) (S' i y)) → (k' : ℕ) (C' : ℕ → A) → Rings In leq w S' k' C' → Spans e op In k' C'
      → (v : V) → count k (λ i. leq (w (C i)) v) ≡ count k' (λ i. leq (w (C' i)) v)
  same_counts S adds k C rings b S' adds' k' C' rings' b' v =
      let to = exchange sp adds rings b' in
      let from = exchange sp adds' rings' b in
      let up = no_more to.1.places in
      let down = no_more from.1.places in
      let same : k ≡ k' = omega arith in
      let p = one_way k k' C C' to.0 to.1 (sym same) v in
      let q = one_way k' k C' C from.0 from.1 same v in
      omega arith

-- a sum of sets, read at other places
read_at : (f : ℕ → ℕ) (n : ℕ) (B : ℕ → ℕ → Bool) (s : ℕ → Bool) (j : ℕ) → picked none xors n B s (f j) ≡ picked none xors n (λ i l. B i (f l)) s j
unfolding fold
read_at f zero B s j = refl
read_at f (suc n) B s j = let r = read_at f n B s j in grind arith

-- what stands past the end of a list of pipes
abbrev nowhere : {M : Type 0} → M → Pipe M
nowhere zero' = record { first = 0; second = 0; weight = zero' }

-- a set of pipes with other numbers
abbrev carry : (ℕ → ℕ) → (ℕ → Bool) → ℕ → Bool
carry f x j = x (f j)

module _ {M : Type 0} {zero' : M} {join : M → M → M} (g : Comm zero' join) (n n' : Moment M) (p : Paired (nowhere zero') n.pipes n'.pipes) where
  turns : Different (length n.pipes) (length n.pipes) p.to
  turns = record { within = p.to_in; apart = λ i j _ _ e. sym (p.back i) ∙ ap p.from e ∙ p.back j }

  -- a sum over the pipes of one net is one over those of the other
  carried : {A B : Type 0} {e : A} {op : A → A → A} (h : Comm e op) (f : Pipe M → B) (u u' : ℕ → A) → ((j : ℕ) → j < length n.pipes → u j ≡ u' (p.to j))
      → fold e op (length (map f n.pipes)) u ≡ fold e op (length (map f n'.pipes)) u'
  carried {e = e} {op = op} h f u u' same =
      ap (λ k. fold e op k u) (length-map n.pipes f) ∙ fold_same h (length n.pipes) u (λ j. u' (p.to j)) same
      ∙ sym (permuted h (length n.pipes) p.to turns u') ∙ ap (λ k. fold e op k u') (p.long ∙ sym (length-map n'.pipes f))

  -- what is read of a pipe
  seen : {B : Type 0} (f : Pipe M → B) (d : B) (j : ℕ) → j < length n.pipes
      → (get_or (map f n.pipes) j d ≡ f (get_or n.pipes j (nowhere zero'))) × (get_or (map f n'.pipes) (p.to j) d ≡ f (get_or n'.pipes (p.to j) (nowhere zero')))
  seen f d j l =
      (get_or-map f n.pipes j (nowhere zero') d l, get_or-map f n'.pipes (p.to j) (nowhere zero') d (let a = p.to_in j l in let b = p.long in omega arith))

  carry_boundary : (x : ℕ → Bool) (v : ℕ) → boundary (shape n) (carry p.to x) v ≡ boundary (shape n') x v
  carry_boundary x v =
      carried bits (λ q. q.first) (λ j. x (p.to j) && ends ((shape n).first j) ((shape n).second j) v) (λ j. x j && ends ((shape n').first j) ((shape n').second j) v)
      (λ j l. let a = seen (λ q. q.first) 0 j l in let b = seen (λ q. q.second) 0 j l in let m = (p.fits j l).links in grind arith)

  carry_heft : (x : ℕ → Bool) → heft zero' join (weights n) (carry p.to x) ≡ heft zero' join (weights n') x
  carry_heft x =
      carried g (λ q. q.weight) (λ j. cond (x (p.to j)) (get_or (weights n) j zero') zero') (λ j. cond (x j) (get_or (weights n') j zero') zero')
      (λ j l. let a = seen (λ q. q.weight) zero' j l in let m = (p.fits j l).weighs in grind arith)

  carry_cycle : (x : ℕ → Bool) → Cycle (shape n') x → Cycle (shape n) (carry p.to x)
  carry_cycle x c = record {
    closed = λ v. carry_boundary x v ∙ c.closed v;
    bounded = λ j l. c.bounded (p.to j) (
        let a = p.from_in (p.to j) in
        let b = p.back j in
        let e = p.long in
        grind (arith, length-map n.pipes (λ q. q.first), length-map n'.pipes (λ q. q.first)));
  }

-- rings and bases of the second net are rings and bases of the first
module _ {M : Type 0} {zero' : M} {join : M → M → M} {within : M → M → Bool} (js : Joins within zero' join) (n n' : Moment M)
    (p : Paired (nowhere zero') n.pipes n'.pipes) (few : (shape n).pipes ≤ 256) (few' : (shape n').pipes ≤ 256) where
  to_cycle : (x : ℕ → Bool) → Cycle (shape n') x → Cycle (shape n) (carry p.to x)
  to_cycle = carry_cycle js.monoid n n' p

  from_cycle : (x : ℕ → Bool) → Cycle (shape n) x → Cycle (shape n') (carry p.from x)
  unfolding paired_back
  from_cycle x c = carry_cycle js.monoid n' n (paired_back (nowhere zero') p) x c

  to_from : (x : ℕ → Bool) → carry p.to (carry p.from x) ≡ x
  to_from x = fun_ext (λ j. ap x (p.back j))

  from_to : (x : ℕ → Bool) → carry p.from (carry p.to x) ≡ x
  from_to x = fun_ext (λ j. ap x (p.forth j))

  to_weight : (x : ℕ → Bool) → Cycle (shape n') x → weight zero' join n (row_of (carry p.to x)) ≡ weight zero' join n' (row_of x)
  to_weight x c =
      weight_heft js.monoid n (row_of (carry p.to x)) ∙ ap (heft zero' join (weights n)) (bits_back (shape n) few (carry p.to x) (to_cycle x c))
      ∙ carry_heft js.monoid n n' p x
      ∙ sym (weight_heft js.monoid n' (row_of x) ∙ ap (heft zero' join (weights n')) (bits_back (shape n') few' x c))

  to_rings : (S : ℕ → (ℕ → Bool) → Bool) (k : ℕ) (C : ℕ → ℕ → Bool) → Rings (Cycle (shape n')) within (λ x. weight zero' join n' (row_of x)) S k C
      → Rings (Cycle (shape n)) within (λ x. weight zero' join n (row_of x)) (λ i x. S i (carry p.from x)) k (λ i. carry p.to (C i))
  to_rings S k C r = record {
    inside = λ i l. to_cycle (C i) (r.inside i l);
    own = λ i l. ap (S i) (from_to (C i)) ∙ r.own i l;
    earlier = λ i j ji l. ap (S i) (from_to (C j)) ∙ r.earlier i j ji l;
    least = λ i l x c h.
        ap₂ within (to_weight (C i) (r.inside i l)) (ap (λ y. weight zero' join n (row_of y)) (sym (to_from x)) ∙ to_weight (carry p.from x) (from_cycle x c))
        ∙ r.least i l (carry p.from x) (from_cycle x c) h;
  }

  to_basis : (k : ℕ) (C : ℕ → ℕ → Bool) → Spans none xors (Cycle (shape n')) k C → Spans none xors (Cycle (shape n)) k (λ i. carry p.to (C i))
  to_basis k C b = record {
    members = λ i l. to_cycle (C i) (b.members i l);
    spans = λ x c.
        let r = b.spans (carry p.from x) (from_cycle x c) in
        (r.0, fun_ext (λ j. sym (read_at p.to k C r.0 j) ∙ ap (λ y. y (p.to j)) r.1) ∙ to_from x);
    unique = λ s t e. b.unique s t (sym (from_to (picked none xors k C s)) ∙ ap (carry p.from) (fun_ext (read_at p.to k C s) ∙ e ∙ sym (fun_ext (read_at p.to k C t))) ∙ from_to (picked none xors k C t));
  }

-- two nets with the same pipes, each with a basis of rings
module _ {M : Type 0} {zero' : M} {join : M → M → M} {within : M → M → Bool} (js : Joins within zero' join) (same : (a b : M) → Dec (a ≡ b))
    (n : Moment M) (ours : List Row) (support : ℕ → Row) (s : Sound (shape n) (length ours) (λ i. get_or ours i empty) support)
    (least : (i : ℕ) → i < length ours → (x : Row) → Closed (shape n) x → odd x (support i) ≡ true → within (weight zero' join n (get_or ours i empty)) (weight zero' join n x) ≡ true)
    (b : Basis (shape n) ours)
    (n' : Moment M) (ours' : List Row) (support' : ℕ → Row) (s' : Sound (shape n') (length ours') (λ i. get_or ours' i empty) support')
    (least' : (i : ℕ) → i < length ours' → (x : Row) → Closed (shape n') x → odd x (support' i) ≡ true → within (weight zero' join n' (get_or ours' i empty)) (weight zero' join n' x) ≡ true)
    (b' : Basis (shape n') ours') where
  pub equally_many : SamePipes n n' → (v : M) → how_many within v (map (weight zero' join n) ours) ≡ how_many within v (map (weight zero' join n') ours')
  equally_many sp v =
      let p = paired (nowhere zero') same n.pipes n'.pipes sp in
      let few = s.few_pipes in
      let few' = s'.few_pipes in
      let w : (ℕ → Bool) → M = λ x. weight zero' join n (row_of x) in
      let C : ℕ → ℕ → Bool = λ i. bit (get_or ours i empty) in
      let C' : ℕ → ℕ → Bool = λ i. bit (get_or ours' i empty) in
      let S' : ℕ → (ℕ → Bool) → Bool = λ i. odd_sets (bit (support' i)) in
      many_count js n v ours
      ∙ fold_same numbers (length ours) (λ i. cond (within (weight zero' join n (get_or ours i empty)) v) 1 0) (λ i. cond (within (w (C i)) v) 1 0)
      (λ i l. ap (λ a. cond (within (weight zero' join n a) v) 1 0) (sym (row_of_bits (get_or ours i empty) (s.closed i l).of_pipes.words)))
      ∙ same_counts (space (shape n)) js.order w
      (λ i. odd_sets (bit (support i))) (λ i. dot_add 256 (bit (support i))) (length ours) C (our_rings js n ours support s least) (to_spans (shape n) few ours b)
      (λ i x. S' i (λ j. x (p.from j))) (λ i x y. dot_add 256 (bit (support' i)) (λ j. x (p.from j)) (λ j. y (p.from j))) (length ours') (λ i j. C' i (p.to j))
      (to_rings js n n' p few few' S' (length ours') C' (our_rings js n' ours' support' s' least'))
      (to_basis js n n' p few few' (length ours') C' (to_spans (shape n') few' ours' b')) v
      ∙ fold_same numbers (length ours') (λ i. cond (within (w (λ j. C' i (p.to j))) v) 1 0) (λ i. cond (within (weight zero' join n' (get_or ours' i empty)) v) 1 0)
      (λ i l. ap (λ a. cond (within a v) 1 0)
      (to_weight js n n' p few few' (C' i) ((our_rings js n' ours' support' s' least').inside i l)
      ∙ ap (weight zero' join n') (row_of_bits (get_or ours' i empty) (s'.closed i l).of_pipes.words)))
      ∙ sym (many_count js n' v ours')
