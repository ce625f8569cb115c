use Rattle.std.proofs.Common.{◌<◌, length, set, sym, refl, ap, arith}
use Rattle.net.specs.Calls.{Room}
use Rattle.net.proofs.Kept.{ends_for_all, pipes_seen}
use Rattle.net.proofs.Keeping.{pipe_laid}
use Rattle.net.proofs.Replies.{pipes_full, lays}
use Rattle.net.proofs.Views.{seen_laid}
use Rattle.net.proofs.net.Net.lay.Goals as goal
use Rattle.net.proofs.net.Net.lay.Goals.{then-place-ge-MOST_PIPES-via-then-place-ge-MOST_PIPES, then-place-ge-MOST_PIPES-via-else-place-ge-MOST_PIPES+then-place-self}

pub returns-then-place-ge-MOST_PIPES-clause-replied : goal.returns-then-place-ge-MOST_PIPES-clause-replied
returns-then-place-ge-MOST_PIPES-clause-replied g c =
    let n = c.args.self.now in
    let e = pipes_seen n in
    let full : Room n → ⊥ = λ room. let a = room.0 in let b = room.1 in
    elim c.then-place-ge-MOST_PIPES.branch [
      | then-place-ge-MOST_PIPES-via-then-place-ge-MOST_PIPES w ↦ omega arith
      | then-place-ge-MOST_PIPES-via-else-place-ge-MOST_PIPES+then-place-self w ↦ omega arith
    ] in
    (pipes_full n c.args.first c.args.second (c.if-not-has_node.ensures.0 refl) (c.if-not-has_node-2.ensures.0 refl) c.if-first-second.false full, refl)

pub invariant_of-self-clause-keeps : goal.invariant_of-self-clause-keeps
invariant_of-self-clause-keeps g c =
    let n = c.args.self.now in
    pipe_laid n.tables n.keeps _ (record { first_in = c.if-not-has_node.ensures.0 refl; second_in = c.if-not-has_node-2.ensures.0 refl; apart = c.if-first-second.false })
    _ _ (omega arith) refl c.if-place-ge-MOST_PIPES.false

pub returns-clause-replied : goal.returns-clause-replied
returns-clause-replied g c =
    let n = c.args.self.now in
    let e = pipes_seen n in
    let few : n.tables.pipes < length n.tables.ends = omega (arith, n.keeps.places.0) in (
      lays n c.args.first c.args.second (c.if-not-has_node.ensures.0 refl) (c.if-not-has_node-2.ensures.0 refl) c.if-first-second.false (omega arith, omega arith),
      record {
        next_number = omega arith;
        one_more = seen_laid n.tables.nodes n.tables.pipes n.tables.ends n.column.now (ends_for_all n) n.fits _ c.args.weight few c.if-place-self.false;
        rings_struck = refl;
        next_place = ap (λ k. set n.column.now k c.args.weight) (sym e);
      },
    )
