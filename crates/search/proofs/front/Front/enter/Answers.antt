use Rattle.std.proofs.Common.{rules}
use Rattle.std.proofs.lemmas.List.{set-set}
use Rattle.search.proofs.front.Front.enter.Goals as goal

pub returns-clause-entered : goal.returns-clause-entered
returns-clause-entered g c = search (rules, set-set)
