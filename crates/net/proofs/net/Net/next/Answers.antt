use Rattle.std.proofs.Common.{◌≡◌, List, length, Err, sym, refl, ap, subst, arith, rules}
use Rattle.net.specs.Calls.{FindsNext}
use Rattle.net.specs.declared.tables.StoredRow.{StoredRow}
use Rattle.net.specs.declared.refusal.Refusal.TheVariants.{ScratchTooShort}
use Rattle.net.proofs.Seeking.{still_due, is_short, is_accepted, some_ring, short_reply, lightest_found, nothing_found, extended_as, ring_kept, found_next}
use Rattle.net.proofs.net.Net.next.Goals as goal

pub returns-in_err-ring-clause-replied : goal.returns-in_err-ring-clause-replied
returns-in_err-ring-clause-replied g c =
    let n = c.args.self.now in
    let m = g.M.Measure in
    let short = c.in_err-ring.ensures in
    let few = short.0 in
    let nodes : c.layout.result.nodes ≡ n.tables.nodes = ap (λ N. N.nodes) c.layout.ensures.drawn in
    let told : c.from_residual.result ≡ Err ScratchTooShort = short_reply c.from_residual.result c.from_residual.ensures.0 c.from_residual.ensures.1 in
    subst (λ r. FindsNext m.zero m.join m.within n c.args.scratch.now r n c.lightest_odd.new.scratch) (sym told)
    (record {
      replied = (is_short n c.is_complete.ensures.due c.if-is_complete.false c.args.scratch.now (omega arith), refl);
      declined_scratch = λ e q. short.1;
      as_long = ap length short.1;
    })

pub unreachable-requires : goal.unreachable-requires
unreachable-requires g c =
    let n = c.args.self.now in
    let m = g.M.Measure in
    let rows : List StoredRow = c.supports-supports.result.of in
    let long : length rows ≡ 256 = search rules in
    let room = c.is_complete.ensures.room c.if-is_complete.false in
    some_ring n c.is_complete.ensures.due c.if-is_complete.false
    (nothing_found n rows long c.supports-supports.ensures room c.layout.result c.layout.ensures.drawn m.zero m.join m.within c.in_ok-ring.ensures.1 c.in_default.is)

pub invariant_of-self-clause-keeps : goal.invariant_of-self-clause-keeps
invariant_of-self-clause-keeps g c =
    let n = c.args.self.now in
    let m = g.M.Measure in
    let rows : List StoredRow = c.supports-supports.result.of in
    let long : length rows ≡ 256 = search rules in
    let room = c.is_complete.ensures.room c.if-is_complete.false in
    ring_kept m.zero m.join m.within n c.in-Some.ring c.turn.new.self.of room
    (lightest_found n rows long c.supports-supports.ensures room c.layout.result c.layout.ensures.drawn m.zero m.join m.within c.in_ok-ring.ensures.1 c.in-Some.is c.layout.ensures.weighed)
    (extended_as c.supports-supports.ensures c.turn.ensures.turned)
    (still_due n c.is_complete.ensures.due c.if-is_complete.false) c.turn.ensures.long

pub returns-clause-replied : goal.returns-clause-replied
returns-clause-replied g c =
    let n = c.args.self.now in
    let m = g.M.Measure in
    let rows : List StoredRow = c.supports-supports.result.of in
    let long : length rows ≡ 256 = search rules in
    let room = c.is_complete.ensures.room c.if-is_complete.false in
    let nodes : c.layout.result.nodes ≡ n.tables.nodes = ap (λ N. N.nodes) c.layout.ensures.drawn in
    let enough = c.in_ok-ring.ensures.0 in
    record {
      replied = (
        is_accepted n c.is_complete.ensures.due c.if-is_complete.false c.args.scratch.now (omega arith),
        found_next m.zero m.join m.within n c.in-Some.ring c.turn.new.self.of room
            (lightest_found n rows long c.supports-supports.ensures room c.layout.result c.layout.ensures.drawn m.zero m.join m.within c.in_ok-ring.ensures.1 c.in-Some.is c.layout.ensures.weighed)
            (extended_as c.supports-supports.ensures c.turn.ensures.turned) _ _,
      );
      declined_scratch = λ e q. cc;
      as_long = c.in_ok-ring.ensures.2;
    }
