-- Sets of pipes with their boundaries, runs as lists of pipes, trails in a set, and rings that are odd against a set. Assumes nothing.
use Rattle.std.proofs.Common.{◌≡◌, ℕ, zero, suc, ◌%◌, ◌<◌, Bool, true, false, not, ◌&&◌, ◌||◌, eqb, List, [], ◌∷◌, sym, refl, ap, ◌∙◌, subst, ap₂, inl, inr, arith, ne_eqb, eqb-true}
use borrow.Author.Tests.{both_ways}
use Rattle.std.proofs.lemmas.Bool.{and_parts}
use Rattle.std.proofs.lemmas.Bool.Decides.{nat_tests}
use Rattle.cycle_space.specs.Sums.{fold, count}
use Rattle.cycle_space.specs.Rows.{Row, bit, add2}
use Rattle.cycle_space.specs.Shapes.{Shape, Crosses, Run, stay, cross}
use Rattle.cycle_space.specs.Bases.{touching}
use Rattle.cycle_space.proofs.Booleans.{by_eqb, not_so, eqb_same, add2_same, add2_false, add2_comm, add2_assoc, add2_and, and_comm}
use Rattle.cycle_space.proofs.Folds.{bits, fold_same, fold_two, fold_none, sum_lone, dot_add, sum_find}
use Rattle.cycle_space.proofs.Counting.{flip, count_less, count_out}

-- w is exactly one of s and t
abbrev pub ends : ℕ → ℕ → ℕ → Bool
ends s t w = add2 (eqb s w) (eqb t w)

-- the parity of the number of ends at w of pipes in x
abbrev pub boundary : Shape → (ℕ → Bool) → ℕ → Bool
boundary N x w = fold false add2 N.pipes (λ j. x j && ends (N.first j) (N.second j) w)

-- no node is odd
abbrev pub Even : Shape → (ℕ → Bool) → Type 0
Even N x = (w : ℕ) → boundary N x w ≡ false

-- the pipes of the list, one after the other, lead from s to t
abbrev pub Walk : Shape → List ℕ → ℕ → ℕ → Type 0
Walk N [] s t = s ≡ t
Walk N (j ∷ ps) s t = (u : ℕ) × Crosses N j s u × Walk N ps u t

abbrev pub Every : (ℕ → Type 0) → List ℕ → Type 0
Every P [] = Unit {0}
Every P (j ∷ ps) = P j × Every P ps

-- no number is twice in the list
abbrev pub Distinct : List ℕ → Type 0
Distinct [] = Unit {0}
Distinct (j ∷ ps) = Every (λ i. i ≡ j → ⊥) ps × Distinct ps

-- a pipe of the net that is in x
abbrev pub Inside : Shape → (ℕ → Bool) → ℕ → Type 0
Inside N x j = (j < N.pipes) × (x j ≡ true)

abbrev pub among : ℕ → List ℕ → Bool
among i [] = false
among i (j ∷ ps) = eqb i j || among i ps

-- x without the pipes of the list
abbrev pub minus : (ℕ → Bool) → List ℕ → ℕ → Bool
minus x ps i = x i && not (among i ps)

-- the parity of what x, or a list of pipes, has of the set S
abbrev pub odd_in : Shape → (ℕ → Bool) → (ℕ → Bool) → Bool
odd_in N S x = fold false add2 N.pipes (λ j. S j && x j)

abbrev pub parity : (ℕ → Bool) → List ℕ → Bool
parity S [] = false
parity S (j ∷ ps) = add2 (S j) (parity S ps)

-- the parity of the number of ends at a node
pub touching_parity : (N : Shape) (x : Row) (v m : ℕ) → eqb (touching N x v m % 2) 1 ≡ fold false add2 m (λ j. bit x j && ends (N.first j) (N.second j) v)
unfolding touching fold
touching_parity N x v zero = refl
touching_parity N x v (suc m) = let r = touching_parity N x v m in grind (arith, nat_tests)

-- Boundaries

pub bd_same : (N : Shape) (x y : ℕ → Bool) → ((i : ℕ) → x i ≡ y i) → (w : ℕ) → boundary N x w ≡ boundary N y w
bd_same N x y h w =
    fold_same bits N.pipes (λ j. x j && ends (N.first j) (N.second j) w) (λ j. y j && ends (N.first j) (N.second j) w) (λ i _. ap (λ c. c && ends (N.first i) (N.second i) w) (h i))

pub bd_add : (N : Shape) (x y : ℕ → Bool) (w : ℕ) → boundary N (λ i. add2 (x i) (y i)) w ≡ add2 (boundary N x w) (boundary N y w)
bd_add N x y w =
    fold_same bits N.pipes (λ j. add2 (x j) (y j) && ends (N.first j) (N.second j) w) (λ j. add2 (x j && ends (N.first j) (N.second j) w) (y j && ends (N.first j) (N.second j) w))
    (λ i _. add2_and (x i) (y i) (ends (N.first i) (N.second i) w))
    ∙ fold_two bits N.pipes (λ j. x j && ends (N.first j) (N.second j) w) (λ j. y j && ends (N.first j) (N.second j) w)

pub bd_one : (N : Shape) (j : ℕ) → j < N.pipes → (w : ℕ) → boundary N (λ i. eqb i j) w ≡ ends (N.first j) (N.second j) w
bd_one N j l w = sum_lone N.pipes j (λ i. ends (N.first i) (N.second i) w) l

pub bd_none : (N : Shape) (w : ℕ) → boundary N (λ _. false) w ≡ false
bd_none N w = fold_none bits N.pipes (λ _. false) (λ _ _. refl)

pub bd_flip : (N : Shape) (x : ℕ → Bool) (j : ℕ) → j < N.pipes → (w : ℕ) → boundary N (flip x j) w ≡ add2 (boundary N x w) (ends (N.first j) (N.second j) w)
bd_flip N x j l w = bd_add N x (λ i. eqb i j) w ∙ ap (add2 (boundary N x w)) (bd_one N j l w)

pub ends_same : (s t : ℕ) → s ≡ t → (w : ℕ) → ends s t w ≡ false
ends_same s t q w = ap (λ u. ends u t w) q ∙ add2_same (eqb t w)

pub ends_cross : (N : Shape) (j s u : ℕ) → Crosses N j s u → (w : ℕ) → ends (N.first j) (N.second j) w ≡ ends s u w
ends_cross N j s u c w = grind arith

crossing : (N : Shape) (j s : ℕ) → ends (N.first j) (N.second j) s ≡ true → (u : ℕ) × Crosses N j s u
crossing N j s h =
    by_eqb (λ c. add2 c (eqb (N.second j) s) ≡ true → (u : ℕ) × Crosses N j s u) (N.first j) s
    (λ q _. (N.second j, inl (q, refl)))
    (λ _ k. (N.first j, inr (eqb-true (N.second j) s k, refl))) h

-- Trails

pub every_map : (P Q : ℕ → Type 0) → ((j : ℕ) → P j → Q j) → (ps : List ℕ) → Every P ps → Every Q ps
every_map P Q f [] e = tt
every_map P Q f (j ∷ ps) e = (f j e.0, every_map P Q f ps e.1)

-- how often the list has i, over GF(2)
abbrev pub tally : List ℕ → ℕ → Bool
tally [] i = false
tally (j ∷ ps) i = add2 (eqb i j) (tally ps i)

pub tally_in : (P : ℕ → Type 0) (ps : List ℕ) → Every P ps → (i : ℕ) → tally ps i ≡ true → P i
tally_in P [] e i h = absurd (both_ways false refl h)
tally_in P (j ∷ ps) e i h =
    by_eqb (λ c. add2 c (tally ps i) ≡ true → P i) i j (λ q _. subst P (sym q) e.0) (λ _ k. tally_in P ps e.1 i k) h

-- in a list without repetition a pipe is once or not at all
tally_among : (ps : List ℕ) → Distinct ps → (i : ℕ) → tally ps i ≡ among i ps
tally_among [] d i = refl
tally_among (j ∷ ps) d i =
    by_eqb (λ c. add2 c (tally ps i) ≡ (c || among i ps)) i j
    (λ q. ap not (not_so (tally ps i) (λ e. tally_in (λ l. l ≡ j → ⊥) ps d.0 i e q)))
    (λ _. tally_among ps d.1 i)

minus_tally : (N : Shape) (x : ℕ → Bool) (ps : List ℕ) → Every (Inside N x) ps → Distinct ps → (i : ℕ) → minus x ps i ≡ add2 (x i) (tally ps i)
minus_tally N x ps e d i = let once = tally_among ps d i in let inside = tally_in (Inside N x) ps e i in grind arith

abbrev pub Found : Shape → (ℕ → Bool) → ℕ → ℕ → Type 0
Found N x s t = (ps : List ℕ) × Walk N ps s t × Every (Inside N x) ps × Distinct ps × Even N (λ i. add2 (x i) (tally ps i))

-- what is in x without j is in x, and is not j
pub flip_in : (x : ℕ → Bool) (j i : ℕ) → x j ≡ true → flip x j i ≡ true → (x i ≡ true) × (i ≡ j → ⊥)
flip_in x j i e h = grind (arith, nat_tests)

Bounds : Shape → (ℕ → Bool) → ℕ → ℕ → Type 0
Bounds N x s t = (w : ℕ) → boundary N x w ≡ ends s t w

here : (N : Shape) (x : ℕ → Bool) (s t : ℕ) → Bounds N x s t → s ≡ t → Found N x s t
unfolding Bounds
here N x s t h q = ([], q, tt, tt, λ w. bd_same N (λ i. add2 (x i) false) x (λ i. add2_false (x i)) w ∙ h w ∙ ends_same s t q w)

step : (N : Shape) (x : ℕ → Bool) (s t : ℕ) → Bounds N x s t → (s ≡ t → ⊥)
    → (j : ℕ) × (u : ℕ) × (j < N.pipes) × (x j ≡ true) × Crosses N j s u × Bounds N (flip x j) u t
unfolding Bounds
step N x s t h ne =
    let f = sum_find N.pipes (λ j. x j && ends (N.first j) (N.second j) s) (h s ∙ ap₂ add2 (eqb_same s) (ne_eqb t s (λ q. ne (sym q)))) in
    let j = f.0 in
    let both = and_parts (x j) (ends (N.first j) (N.second j) s) f.2 in
    let c = crossing N j s both.1 in
    let u = c.0 in (
      j,
      u,
      f.1,
      both.0,
      c.1,
      λ w. let left = bd_flip N x j f.1 w in let old = h w in let gone = ends_cross N j s u c.1 w in grind arith,
    )

extend : (N : Shape) (x : ℕ → Bool) (s t j u : ℕ) → j < N.pipes → x j ≡ true → Crosses N j s u → Found N (flip x j) u t → Found N x s t
extend N x s t j u l e c f = (
  j ∷ f.0,
  (u, c, f.1),
  ((l, e), every_map (Inside N (flip x j)) (Inside N x) (λ i k. (k.0, (flip_in x j i e k.1).0)) f.0 f.2),
  (every_map (Inside N (flip x j)) (λ i. i ≡ j → ⊥) (λ i k. (flip_in x j i e k.1).1) f.0 f.2, f.3),
  λ w. bd_same N (λ i. add2 (x i) (add2 (eqb i j) (tally f.0 i))) (λ i. add2 (flip x j i) (tally f.0 i)) (λ i. sym (add2_assoc (x i) (eqb i j) (tally f.0 i))) w ∙ f.4 w,
)

trail_go : (k : ℕ) (N : Shape) (x : ℕ → Bool) (s t : ℕ) → count N.pipes x < k → Bounds N x s t → Found N x s t
trail_go zero N x s t c h = absurd (omega arith)
trail_go (suc k) N x s t c h =
    by_eqb (λ _. Found N x s t) s t (here N x s t h)
    (λ ne. let r = step N x s t h ne in
    let less = count_out N.pipes x r.0 r.2 r.3 in
    extend N x s t r.0 r.1 r.2 r.3 r.4 (trail_go k N (flip x r.0) r.1 t (omega arith) r.5))

pub found : (N : Shape) (x : ℕ → Bool) (s t : ℕ) → ((w : ℕ) → boundary N x w ≡ ends s t w) → Found N x s t
unfolding Bounds
found N x s t h = trail_go (suc (count N.pipes x)) N x s t (omega arith) h

-- a run without repetition in a set whose only odd nodes are its ends, and what is left is closed
pub trail : (N : Shape) (x : ℕ → Bool) (s t : ℕ) → ((w : ℕ) → boundary N x w ≡ ends s t w)
    → (ps : List ℕ) × Walk N ps s t × Every (Inside N x) ps × Distinct ps × Even N (minus x ps)
trail N x s t h =
    let f = found N x s t h in
    (f.0, f.1, f.2, f.3, λ w. bd_same N (minus x f.0) (λ i. add2 (x i) (tally f.0 i)) (minus_tally N x f.0 f.2 f.3) w ∙ f.4 w)

-- x without a pipe j of it, where x is closed
pub opened : (N : Shape) (x : ℕ → Bool) → Even N x → (j : ℕ) → j < N.pipes → (w : ℕ) → boundary N (flip x j) w ≡ ends (N.first j) (N.second j) w
opened N x h j l w = bd_flip N x j l w ∙ ap (λ c. add2 c (ends (N.first j) (N.second j) w)) (h w)

-- Odd rings

odd_one : (N : Shape) (S : ℕ → Bool) (j : ℕ) → j < N.pipes → odd_in N S (λ i. eqb i j) ≡ S j
odd_one N S j l = fold_same bits N.pipes (λ i. S i && eqb i j) (λ i. eqb i j && S i) (λ i _. and_comm (S i) (eqb i j)) ∙ sum_lone N.pipes j S l

pub odd_flip : (N : Shape) (S x : ℕ → Bool) (j : ℕ) → j < N.pipes → odd_in N S (flip x j) ≡ add2 (odd_in N S x) (S j)
odd_flip N S x j l = dot_add N.pipes S x (λ i. eqb i j) ∙ ap (add2 (odd_in N S x)) (odd_one N S j l)

pub odd_tally : (N : Shape) (S : ℕ → Bool) (ps : List ℕ) → Every (λ j. j < N.pipes) ps → odd_in N S (tally ps) ≡ parity S ps
odd_tally N S [] e = fold_none bits N.pipes (λ j. S j && false) (λ j _. and_comm (S j) false)
odd_tally N S (j ∷ ps) e = dot_add N.pipes S (λ i. eqb i j) (tally ps) ∙ ap₂ add2 (odd_one N S j e.0) (odd_tally N S ps e.1)

-- what is left of x without pipes of x is in x
left_in : (N : Shape) (x : ℕ → Bool) (ps : List ℕ) → Every (Inside N x) ps → (i : ℕ) → add2 (x i) (tally ps i) ≡ true → x i ≡ true
left_in N x ps e i h = let inside = tally_in (Inside N x) ps e i in grind arith

abbrev Ring : Shape → (ℕ → Bool) → (ℕ → Bool) → Type 0
Ring N S x =
    (e : ℕ) × (ps : List ℕ) × (S e ≡ true) × Walk N ps (N.second e) (N.first e) × Every (Inside N x) (e ∷ ps) × Distinct (e ∷ ps) × (parity S (e ∷ ps) ≡ true)

-- a ring, odd or even, and what is left of x without it
record First (N : Shape) (S x : ℕ → Bool) : Type 0 where
  e : ℕ
  ps : List ℕ
  rest : ℕ → Bool
  chosen : S e ≡ true
  walk : Walk N ps (N.second e) (N.first e)
  inside : Every (Inside N x) (e ∷ ps)
  distinct : Distinct (e ∷ ps)
  closed : Even N rest
  less : count N.pipes rest < count N.pipes x
  part : (i : ℕ) → rest i ≡ true → x i ≡ true
  left : odd_in N S rest ≡ not (parity S (e ∷ ps))

first : (N : Shape) (S x : ℕ → Bool) → Even N x → odd_in N S x ≡ true → First N S x
unfolding extend
first N S x h o =
    let r = sum_find N.pipes (λ j. S j && x j) o in
    let e = r.0 in
    let l = r.1 in
    let both = and_parts (S e) (x e) r.2 in
    let Se = both.0 in
    let xe = both.1 in
    let f = found N (flip x e) (N.second e) (N.first e) (λ w. opened N x h e l w ∙ add2_comm (eqb (N.first e) w) (eqb (N.second e) w)) in
    let g = extend N x (N.first e) (N.first e) e (N.second e) l xe (inl (refl, refl)) f in
    let out = count_out N.pipes x e l xe in
    let le = count_less N.pipes (λ i. add2 (flip x e i) (tally f.0 i)) (flip x e) (λ i _. left_in N (flip x e) f.0 f.2 i) in
    record {
      e = e;
      ps = f.0;
      rest = λ i. add2 (flip x e i) (tally f.0 i);
      chosen = Se;
      walk = f.1;
      inside = g.2;
      distinct = g.3;
      closed = f.4;
      less = omega arith;
      part = λ i k. (flip_in x e i xe (left_in N (flip x e) f.0 f.2 i k)).0;
      left = dot_add N.pipes S (flip x e) (tally f.0)
          ∙ ap₂ add2 (odd_flip N S x e l ∙ ap (λ c. add2 c (S e)) o) (odd_tally N S f.0 (every_map (Inside N (flip x e)) (λ j. j < N.pipes) (λ j k. k.0) f.0 f.2))
          ∙ add2_assoc true (S e) (parity S f.0);
    }

ring_go : (k : ℕ) (N : Shape) (S x : ℕ → Bool) → count N.pipes x < k → Even N x → odd_in N S x ≡ true → Ring N S x
ring_go zero N S x c h o = absurd (omega arith)
ring_go (suc k) N S x c h o = go (first N S x h o) (λ y. ring_go k N S y)
  where
    go : (f : First N S x) → ((y : ℕ → Bool) → count N.pipes y < k → Even N y → odd_in N S y ≡ true → Ring N S y) → Ring N S x
    go f ih = by (parity S (f.e ∷ f.ps)) refl
      where
        by : (b : Bool) → parity S (f.e ∷ f.ps) ≡ b → Ring N S x
        by true q = (f.e, f.ps, f.chosen, f.walk, f.inside, f.distinct, q)
        by false q =
            let r = ih f.rest (omega (arith, f.less)) f.closed (f.left ∙ ap not q) in
            (r.0, r.1, r.2, r.3, every_map (Inside N f.rest) (Inside N x) (λ i p. (p.0, f.part i p.1)) (r.0 ∷ r.1) r.4, r.5, r.6)

-- a closed set that is odd against S has a ring that is: it crosses e from its first end to its second, and then ps back to the first
pub odd_ring : (N : Shape) (S x : ℕ → Bool) → Even N x → odd_in N S x ≡ true
    → (e : ℕ) × (ps : List ℕ) × (S e ≡ true) × Walk N ps (N.second e) (N.first e) × Every (Inside N x) (e ∷ ps) × Distinct (e ∷ ps) × (parity S (e ∷ ps) ≡ true)
odd_ring N S x h o = ring_go (suc (count N.pipes x)) N S x (omega arith) h o

-- Runs as sets

-- a list of pipes below k that lead from s to t is a run
pub walk_run : (N : Shape) (k : ℕ) (ps : List ℕ) (s t : ℕ) → Walk N ps s t → Every (λ j. j < k) ps → Run N k s t
walk_run N k [] s t w e = stay w
walk_run N k (j ∷ ps) s t w e = cross j w.0 e.0 w.1 (walk_run N k ps w.0 t w.2 e.1)

-- the boundary of a run, each pipe as often as it is crossed
pub bd_tally : (N : Shape) (ps : List ℕ) (s t : ℕ) → Walk N ps s t → Every (λ j. j < N.pipes) ps → (w : ℕ) → boundary N (tally ps) w ≡ ends s t w
bd_tally N [] s t r e w = bd_none N w ∙ sym (ends_same s t r w)
bd_tally N (j ∷ ps) s t r e w =
    let added = bd_add N (λ i. eqb i j) (tally ps) w in
    let one = bd_one N j e.0 w in
    let crossed = ends_cross N j s r.0 r.1 w in
    let rest = bd_tally N ps r.0 t r.2 e.1 w in
    grind arith

-- the pipes of a run without repetition, as a set: its boundary, and its parity against a set
pub run_set : (N : Shape) (ps : List ℕ) (s t : ℕ) → Walk N ps s t → Every (λ j. j < N.pipes) ps → Distinct ps
    → ((w : ℕ) → boundary N (λ i. among i ps) w ≡ ends s t w)
    × ((S : ℕ → Bool) → odd_in N S (λ i. among i ps) ≡ parity S ps)
run_set N ps s t r e d = (
  λ w. bd_same N (λ i. among i ps) (tally ps) (λ i. sym (tally_among ps d i)) w ∙ bd_tally N ps s t r e w,
  λ S. fold_same bits N.pipes (λ j. S j && among j ps) (λ j. S j && tally ps j) (λ j _. ap (λ c. S j && c) (sym (tally_among ps d j))) ∙ odd_tally N S ps e,
)
