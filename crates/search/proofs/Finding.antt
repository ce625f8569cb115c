-- The lightest candidate of some starts, one start after the other, and of all. Assumes nothing.
use Rattle.std.proofs.Common.{◌≡◌, ℕ, ◌+◌, ◌-◌, ◌*◌, ◌%◌, ◌<◌, eqb, List, Some, None, Option, ap, ◌∙◌, ⊎_elim, arith, below_more}
use borrow.Author.Tests.{eqb-false}
use Rattle.std.proofs.lemmas.Bool.{cases_Bool, cond-true, cond-false}
use Rattle.cycle_space.specs.Rows.{Row, add2}
use Rattle.cycle_space.specs.Bases.{touching}
use Rattle.cycle_space.proofs.Booleans.{add2_same}
use Rattle.search.specs.Tasks.{Task, Bounded, Sound, Attained, node, odd_start}
use Rattle.search.specs.declared.mark.Mark.{Mark}
use Rattle.search.specs.Marks.{mark, walked}
use Rattle.search.proofs.Marking.{walked_reached, walked_way}
use Rattle.search.specs.Searches.{Shortest, at}
use Rattle.search.specs.Finds.{at_start, Start, choose, Good, ClosedThrough, Least, Lightest}
use Rattle.search.specs.declared.lightest.Candidate.{Candidate}
use Rattle.search.proofs.Measuring.{Lawful, heavier}
use Rattle.search.proofs.Rings.{round_of}

module _ {M : Type 0} (t : Task M) where
  -- the row that attains the odd start is closed
  good_at : (x : Row) (d : M) → Sound t → Attained t (odd_start t) x d → Good t (record { weight = d; row = x })
  good_at x d sound a =
      let one = sound.start_in.0 in
      let there : node (odd_start t) ≡ t.start = omega arith in
      record {
        closed = record {
          of_pipes = a.of_pipes;
          even = λ v.
              let off = eqb-false (touching t.shape x v t.shape.pipes % 2) 1
              (a.ends v ∙ ap (λ n. add2 (eqb t.start v) (eqb n v)) there ∙ add2_same (eqb t.start v)) in
              omega arith;
        };
        is_odd = a.parity ∙ ap (λ n. eqb n 1) (let z : (2 * (t.start - 1) + 1) % 2 ≡ 1 = omega arith in z);
        weighs = a.weighs;
      }

  -- what a search says of the odd start, where it is reached
  pub found_at : Sound t → (ms : List Mark) (d : List M) (w : M) (x : Row) → w ≡ at t d (odd_start t) → walked (mark ms (odd_start t)) ≡ Some x
      → Shortest t ms d → ClosedThrough t (Some (record { weight = w; row = x }))
  found_at sound ms d w x is was short =
      let a = short.attained (odd_start t) (walked_reached _ x was) in
      let a' : Attained t (odd_start t) x w = rw (is, ← walked_way _ x was) a in
      (good_at x w sound a', λ c walk. rw is (short.lower (odd_start t) c walk).1)

  -- the start makes no difference
  good_from : (s : ℕ) (f : Candidate M) → Good (at_start t s) f → Good t f
  good_from s f g = record { closed = g.closed; is_odd = g.is_odd; weighs = g.weighs }

  -- a node that is no start
  pub least_skip : (k : ℕ) (a : Option (Candidate M)) → Least t k a → (Start t k → ⊥) → Least t (k + 1) a
  least_skip k None p not = below_more _ _ p (λ s. absurd (not s))
  least_skip k (Some x) p not = (p.0, below_more _ _ p.1 (λ s. absurd (not s)))

  module _ (laws : Lawful t) where
    pub least_more : (k : ℕ) (a b : Option (Candidate M)) → Least t k a → ClosedThrough (at_start t k) b → Least t (k + 1) (choose t.within a b)
    least_more k None None p q = below_more _ _ p (λ _. q)
    least_more k None (Some y) p q = (good_from k y q.0, below_more _ _ (λ s h st c w. absurd (p s h st c w)) (λ _. q.1))
    least_more k (Some x) None p q = (p.0, below_more _ _ p.1 (λ _ c w. absurd (q c w)))
    least_more k (Some x) (Some y) p q = ⊎_elim
        (λ le. rw (cond-true (t.within x.weight y.weight) (Some x) (Some y) le)
        (p.0, below_more _ _ p.1 (λ _ c w. laws.base.trans _ _ _ le (q.1 c w))))
        (λ gt. rw (cond-false (t.within x.weight y.weight) (Some x) (Some y) gt)
        (good_from k y q.0, below_more _ _ (λ s h st c w. laws.base.trans _ _ _ (heavier laws.base _ _ gt) (p.1 s h st c w)) (λ _. q.1)))
        (cases_Bool (t.within x.weight y.weight))

    -- all starts are nodes
    start_below : Bounded t → (s : ℕ) → Start t s → s < t.shape.nodes + 1
    start_below net s st = let h = (net.ends_in st.0 st.1).0.1 in let e = st.3 in omega arith

    pub lightest_of : Bounded t → (k : ℕ) → t.shape.nodes < k → (r : Option (Candidate M)) → Least t k r → Lightest t r
    lightest_of net k all (Some f) p = (
      p.0,
      λ x c o.
          let r = round_of t laws net x c o in
          let below = start_below net r.from r.start in
          laws.base.trans _ _ _ (p.1 r.from (omega arith) r.start r.cost r.walk) r.light,
    )
    lightest_of net k all None p = λ x c o.
        let r = round_of t laws net x c o in
        let below = start_below net r.from r.start in
        p r.from (omega arith) r.start r.cost r.walk
