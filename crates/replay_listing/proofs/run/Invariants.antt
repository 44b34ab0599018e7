-- The loop of `replay_listing::run`: each turn reads a comment or a case, and what is left is no longer than the list.
use Rattle.std.proofs.Common.{◌≤◌, length}
use Rattle.replay_listing.proofs.run.Given as goal

abbrev pub invariant-loop-tag : goal.invariant-loop-tag
invariant-loop-tag l = length l.rest.rest.now ≤ length l.list

abbrev pub decreases-loop-tag : goal.decreases-loop-tag
decreases-loop-tag l = length l.rest.rest.now
