-- The loop of `prefetch::turn`: the walks that go on stand before the one that is looked at.
use Rattle.std.proofs.Common.{◌≤◌}
use Rattle.prefetch.proofs.turn.Given as goal

abbrev pub invariant-loop-j : goal.invariant-loop-j
invariant-loop-j l = l.live ≤ l.j
