-- The loop of `replay::List::replay`: each turn reads a line or a case, and what is left is no longer than the text.
use Rattle.std.proofs.Common.{◌≤◌, length}
use Rattle.replay.proofs.List.replay.Given as goal

abbrev pub invariant-loop-tag : goal.invariant-loop-tag
invariant-loop-tag l = length l.rest.rest.now ≤ length l.text

abbrev pub decreases-loop-tag : goal.decreases-loop-tag
decreases-loop-tag l = length l.rest.rest.now
