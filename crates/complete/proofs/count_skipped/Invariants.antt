-- The loop of `complete::count_skipped`.
use Rattle.std.proofs.Common.{◌≤◌, ◌≡◌}
use Rattle.complete.specs.CompleteRows.{NoneSkipped}
use Rattle.complete.proofs.count_skipped.Given as goal

abbrev pub invariant-loop-i : goal.invariant-loop-i
invariant-loop-i l = (l.skipped ≤ l.i) × (l.skipped ≡ 0 → NoneSkipped l.answers l.i)
