use Rattle.std.proofs.Common.{◌≡◌}
use Rattle.search.specs.Tasks.{task_of}
use Rattle.search.specs.Searches.{IsSettling, unsettled}
use Rattle.search.proofs.front.Front.spread.Given as goal

-- the pipes so far are relaxed, and no state is settled besides
abbrev pub invariant-loop-place : goal.invariant-loop-place
invariant-loop-place g l = record {
  same : task_of l.self ≡ task_of l.initial.self;
  left : unsettled l.self.marks ≡ unsettled l.initial.self.marks;
  settling : IsSettling l.self l.u l.place;
}
