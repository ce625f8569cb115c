use Rattle.std.proofs.Common.{◌≡◌, ℕ, ◌<◌}
use Rattle.cycle_space.specs.Labels.{label}
use Rattle.cycle_space.specs.Moments.{shape}
use Rattle.net.specs.Views.{view}
use Rattle.net.specs.Labelled.{labelled}
use Rattle.net.proofs.net.Net.labels.Given as goal

-- the labels after the pipes so far
abbrev pub invariant-loop-ends : goal.invariant-loop-ends
invariant-loop-ends g l = (v : ℕ) → v < 65 → labelled l.labels v ≡ label (shape (view l.self)) l.ends-index v
