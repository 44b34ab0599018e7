-- The loop of `complete::list_skipped`: the list has no more than were looked at.
use Rattle.std.proofs.Common.{◌+◌, ◌≤◌}
use Rattle.complete.proofs.list_skipped.Given as goal

abbrev pub invariant-loop-i : goal.invariant-loop-i
invariant-loop-i l = l.from + l.n ≤ l.i
