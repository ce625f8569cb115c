use Rattle.std.proofs.Common.{◌≡◌, ℕ, List, get_or, set, length, sym, ap, ◌∙◌, arith, rules}
use Rattle.std.proofs.lemmas.List.Edits.{map_over_more}
use Rattle.std.proofs.lemmas.List.{get_or_default}
use Rattle.net.proofs.Labelling.{lowered, lowered_high, lowered_other}
use Rattle.net.proofs.labels.Labels.lay.Goals as goal
use Rattle.net.proofs.labels.Labels.lay.Goals.{then-label-high, else-label-high}

pub loop-label-preserved : goal.loop-label-preserved
loop-label-preserved c =
    let long : length c.args.self.now.of ≡ 65 = search rules in
    let items : List ℕ = c.loop-label.label-items in
    let i : ℕ = c.loop-label.label-index in
    let high : ℕ = c.max-high.result in
    let low : ℕ = c.min-low.result in
    let written : c.if-label-high.label-items ≡ set items i (lowered high low (get_or items i 0)) =
    (elim c.if-label-high.branch [
      | then-label-high w ↦ w.label-items-is ∙ ap (set items i) (sym (lowered_high high low _ w.if-label-high.true))
      | else-label-high w ↦ w.label-items-is ∙ ap (set items i) (sym (lowered_other high low _ w.if-label-high.false))
    ]) in
    written ∙ map_over_more (lowered high low) c.args.self.now.of items i (get_or items i 0) (omega arith) c.loop-label.invariant (get_or_default items i 0 _ (omega arith))
