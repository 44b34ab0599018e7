-- The loop of `test_text::Reader::behind_line`: each turn reads a line.
use Rattle.std.proofs.Common.{◌≤◌, length}
use Rattle.test_text.proofs.Reader.behind_line.Given as goal

abbrev pub invariant-loop-first : goal.invariant-loop-first
invariant-loop-first l = length l.self.rest.now ≤ length l.initial.self.rest.now

abbrev pub decreases-loop-first : goal.decreases-loop-first
decreases-loop-first l = length l.self.rest.now
