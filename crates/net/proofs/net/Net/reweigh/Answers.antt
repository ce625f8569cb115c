use Rattle.std.proofs.Common.{◌≡◌, ℕ, ◌-◌, set, sym, refl, ap, ◌∙◌, arith}
use Rattle.cycle_space.specs.Moments.{reweigh_pipe}
use Rattle.net.specs.Views.{view}
use Rattle.net.specs.Places.{IsPlace}
use Rattle.net.proofs.Kept.{ends_for_all}
use Rattle.net.proofs.Keeping.{no_more_pipes}
use Rattle.net.proofs.Views.{seen_reweighed}
use Rattle.net.proofs.net.Net.reweigh.Goals as goal

pub invariant_of-self-clause-keeps : goal.invariant_of-self-clause-keeps
invariant_of-self-clause-keeps g c = let n = c.args.self.now in no_more_pipes n.tables n.keeps _ _ (omega arith) refl

pub returns-clause-replied : goal.returns-clause-replied
returns-clause-replied g c =
    let n = c.args.self.now in
    let place : ℕ = c.in_ok-self.field-0 in
    let is : IsPlace c.args.pipe n.tables.pipes place = c.in_ok-self.ensures.1 in
    let back : place ≡ c.args.pipe - 1 = omega arith in (
      c.in_ok-self.ensures.0,
      record {
        other_weight = seen_reweighed n.tables.nodes n.tables.pipes n.tables.ends n.column.now (ends_for_all n) n.fits place c.args.weight
            ∙ ap (λ j. reweigh_pipe (view n) j c.args.weight) (sym is.next);
        rings_struck = refl;
        its_place = ap (λ k. set n.column.now k c.args.weight) back;
      },
    )
