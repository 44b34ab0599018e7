-- The loop of `prefetch::rings`: the half-edges of a ring have room.
use Rattle.std.proofs.Common.{◌≤◌}
use Rattle.prefetch.proofs.rings.Given as goal

abbrev pub invariant-loop : goal.invariant-loop
invariant-loop l = l.left ≤ 192
