use Rattle.std.proofs.Common.{◌≡◌, map, take, drop, ◌++◌}
use Rattle.net.proofs.Turning.{turned}
use Rattle.net.proofs.supports.Supports.turn.Given as goal

-- the later supports so far are turned, and those that are left are as they were
abbrev pub invariant-loop-later : goal.invariant-loop-later
invariant-loop-later l = l.later-items ≡ map (turned l.ring l.own) (take l.later-index l.initial.later-items) ++ drop l.later-index l.initial.later-items
