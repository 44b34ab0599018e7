-- The loop of `prefetch::walk`: no more walks go on than there are.
use Rattle.std.proofs.Common.{◌≤◌, length}
use Rattle.prefetch.proofs.walk.Given as goal

abbrev pub invariant-loop : goal.invariant-loop
invariant-loop l = l.live ≤ length l.probes
