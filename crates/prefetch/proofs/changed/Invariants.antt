-- The loop of `prefetch::changed`: the half-edges that are kept stand before the one that is looked at.
use Rattle.std.proofs.Common.{◌≤◌}
use Rattle.prefetch.proofs.changed.Given as goal

abbrev pub invariant-loop-j : goal.invariant-loop-j
invariant-loop-j l = l.count ≤ l.j
