-- The choice of the nearest open state, one state after the other. Assumes nothing.
use Rattle.std.proofs.Common.{◌≡◌, ℕ, ◌+◌, Bool, true, false, List, get_or, Some, None, Option, ⊎_elim, arith, below_more}
use borrow.Author.Tests.{both_ways}
use Rattle.measures.specs.Laws.{Laws}
use Rattle.search.specs.declared.mark.Mark.{Mark}
use Rattle.search.specs.Marks.{opened}
use Rattle.search.specs.Fronts.{Picked, Nearer}
use Rattle.search.proofs.Measuring.{self}

module _ {M : Type 0} {none ceiling : M} {join : M → M → M} {within : M → M → Bool} (laws : Laws none ceiling join within) (d : List M) (ms : List Mark) (k : ℕ) where
  pub pick_skip : (best : Option ℕ) → Picked none within d ms k best → opened ms k ≡ false → Picked none within d ms (k + 1) best
  pick_skip (Some b) p shut = record {
    inside = let h = p.inside in omega arith;
    opens = p.opens;
    least = below_more _ _ p.least (λ o. absurd (both_ways _ shut o));
  }
  pick_skip None p shut = below_more _ _ p (λ o. both_ways _ shut o)

  pub pick_next : (best : Option ℕ) (u : ℕ) → Picked none within d ms k best → opened ms k ≡ true → Nearer none within d best k u → Picked none within d ms (k + 1) (Some u)
  pick_next (Some b) u p o near = record {
    inside = let h = p.inside in ⊎_elim (λ e. omega arith) (λ e. omega arith) near.0;
    opens = ⊎_elim (λ e. rw e p.opens) (λ e. rw e o) near.0;
    least = below_more _ _ (λ i h q. laws.trans _ _ _ near.1 (p.least i h q)) (λ q. near.2);
  }
  pick_next None u p o near = record {
    inside = omega arith;
    opens = rw near o;
    least = below_more _ _ (λ i h q. absurd (p i h q)) (λ q. rw near (self laws (get_or d k none)));
  }
