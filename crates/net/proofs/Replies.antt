-- Which refusals apply to a call, by the tests that the program makes. Assumes nothing.
use Rattle.std.proofs.Common.{◌≡◌, ℕ, ◌≤◌, length, sym, refl, ap, ◌∙◌, subst, arith}
use Rattle.cycle_space.specs.Shapes.{Node}
use Rattle.cycle_space.specs.Moments.{shape}
use Rattle.net.specs.Refusals.{number, NoneApplies, Smallest}
use Rattle.net.specs.Views.{view}
use Rattle.net.specs.Calls.{LayDeclined, end_is_no_node, ends_are_one, no_room, Room, LiftDeclined}
use Rattle.net.specs.declared.net.Net.{Net}
use Rattle.net.specs.declared.refusal.Refusal.{Refusal}
use Rattle.net.specs.declared.refusal.Refusal.TheVariants.{PipesFull}
use Rattle.net.proofs.Kept.{pipes_seen}

-- where no other refusal applies, this one is the smallest
the_only : {Applies : Refusal → Type 0} {e : Refusal} → Applies e → ((f : Refusal) → Applies f → f ≡ e) → Smallest Applies e
the_only {Applies} {e} a h = record { applies = a; least = λ f b. subst (λ x. number e ≤ number x) (sym (h f b)) (let n = number e in omega arith) }

module _ {M : Type 0} (n : Net M) where
  pub lifts : (n.tables.pipes ≡ 0 → ⊥) → NoneApplies (LiftDeclined n)
  lifts h e d = h (sym (pipes_seen n) ∙ ap length d.1)

  module _ (a b : ℕ) (is_a : Node (shape (view n)) a) (is_b : Node (shape (view n)) b) (ne : a ≡ b → ⊥) where
    pub pipes_full : (Room n → ⊥) → Smallest (LayDeclined n a b) PipesFull
    pipes_full full = the_only (no_room refl full) only
      where
        only : (f : Refusal) → LayDeclined n a b f → f ≡ PipesFull
        only f (end_is_no_node _ bad) = absurd (bad (is_a, is_b))
        only f (ends_are_one _ e) = absurd (ne e)
        only f (no_room q _) = q

    pub lays : Room n → NoneApplies (LayDeclined n a b)
    lays room e (end_is_no_node _ bad) = bad (is_a, is_b)
    lays room e (ends_are_one _ q) = ne q
    lays room e (no_room _ full) = full room
