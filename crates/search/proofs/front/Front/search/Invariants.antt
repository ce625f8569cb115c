use Rattle.std.proofs.Common.{◌≡◌}
use Rattle.search.specs.Tasks.{task_of}
use Rattle.search.specs.Searches.{IsSearching, unsettled}
use Rattle.search.proofs.front.Front.search.Given as goal

abbrev pub invariant-loop-u : goal.invariant-loop-u
invariant-loop-u g l = record {
  same : task_of l.self ≡ task_of l.initial.self;
  searching : IsSearching l.self;
}

-- each turn settles a state
abbrev pub decreases-loop-u : goal.decreases-loop-u
decreases-loop-u g l = unsettled l.self.marks
