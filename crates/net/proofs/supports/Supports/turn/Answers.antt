use Rattle.std.proofs.Common.{◌≡◌, ℕ, true, false, List, ◌++◌, map, get_or, set, length, sym, ap, ◌∙◌, ap₂, arith, rules}
use mathlib.Core.List.{append-nil}
use Rattle.std.proofs.lemmas.List.Edits.{map_over_more}
use Rattle.std.proofs.lemmas.List.{get_or_default, take_all, drop_all}
use Rattle.cycle_space.specs.Rows.{Row}
use Rattle.net.specs.declared.tables.StoredRow.{StoredRow}
use Rattle.net.proofs.Turning.{blank, turned, turned_is, read_row, turned_all}
use Rattle.net.proofs.supports.Supports.turn.Goals as goal
use Rattle.net.proofs.supports.Supports.turn.Goals.{then-parity, else-parity}

pub loop-later-preserved : goal.loop-later-preserved
loop-later-preserved c =
    let items : List StoredRow = c.loop-later.later-items in
    let i : ℕ = c.loop-later.later-index in
    let own : Row = (get_or c.args.self.now.of c.args.found blank).words in
    let row : StoredRow = get_or items i blank in
    let written : c.if-parity.later-items ≡ set items i (turned c.args.ring own row) =
    (elim c.if-parity.branch [
      | then-parity w ↦ w.later-items-is
          ∙ ap (set items i) (ap (λ r. record { words = r }) w.sum-later.ensures.value ∙ sym (turned_is c.args.ring own row true (sym c.parity.ensures ∙ w.if-parity.true)))
      | else-parity w ↦ w.later-items-is ∙ ap (set items i) (sym (turned_is c.args.ring own row false (sym c.parity.ensures ∙ w.if-parity.false)))
    ]) in
    written ∙ map_over_more (turned c.args.ring own) _ items i row c.loop-later-test.true c.loop-later.invariant (get_or_default items i blank _ (omega arith))

pub returns-clause-turned : goal.returns-clause-turned
returns-clause-turned c =
    let start : List StoredRow = c.args.self.now.of in
    let k : ℕ = c.args.found in
    let long : length start ≡ 256 = search rules in
    let own : Row = (get_or start k blank).words in
    let over = c.loop-later-test.false in
    turned_all start k c.args.ring long c.requires own (read_row start k (omega arith)) c.loop-later.later-items _ (omega arith)
    (c.loop-later.invariant
    ∙ ap₂ (λ done left. map (turned c.args.ring own) done ++ left) (take_all _ _ over) (drop_all _ _ over)
    ∙ append-nil _)
