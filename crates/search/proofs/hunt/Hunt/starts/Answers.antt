use Rattle.std.proofs.Common.{◌≡◌, ℕ, suc, ◌+◌, ◌<◌, ◌==◌, ◌&&◌, length, rules, tests, sym, ap₂, ◌∙◌, arith, eq-eqb}
use borrow.Author.Tests.{both_ways}
use Rattle.std.specs.List.{list_any, enumerate_from}
use Rattle.std.proofs.lemmas.Iterator.{YieldsList-from_slice}
use Rattle.std.proofs.lemmas.Iterator.Consumers.{YieldsList-from_enumerate}
use Rattle.std.proofs.lemmas.Iterator.Search.{any_from_yields_List}
use Rattle.std.proofs.lemmas.List.Folds.{list_any_at}
use Rattle.std.proofs.lemmas.List.FromFn.{length-enumerate_from, get_or-enumerate_from}
use Rattle.cycle_space.specs.Rows.{holds}
use Rattle.cycle_space.specs.declared.ends.Ends.{Ends}
use Rattle.search.specs.Layouts.{nowhere}
use Rattle.search.proofs.Laying.{end_seen, pipes_seen}
use Rattle.search.proofs.hunt.Hunt.starts.Goals as goal

pub returns : goal.returns
returns g c = λ off st.
    let es = c.args.self.now.net.now.ends.now in
    let test = λ (p : ℕ × Ends). (p.1.first == c.args.node) && holds c.args.self.now.support (p.0 + 1) in
    let is : c.any.result ≡ list_any test (enumerate_from 0 es) =
    any_from_yields_List test _ _ c.any.result c.any.ensures.ran (YieldsList-from_enumerate (YieldsList-from_slice es (cc)) (cc)) (λ x b q k. search (rules, tests)) in
    let seen = pipes_seen es in
    let long = length-enumerate_from 0 es in
    let below = st.1 in
    let here : st.0 < length es = omega arith in
    let read = get_or-enumerate_from 0 es st.0 (0, nowhere) here in
    let next : 0 + st.0 + 1 ≡ suc st.0 = omega arith in
    let drawn = eq-eqb _ _ (sym (end_seen (λ e. e.first) es st.0 here) ∙ st.3) in
    both_ways _ off (is ∙ list_any_at test (enumerate_from 0 es) st.0 (0, nowhere) (omega arith) (rw (read, next) (ap₂ (λ a b. a && b) drawn st.2)))
