-- The loop of `test_text::Reader::is_whole_list`: each turn reads a line.
use Rattle.std.proofs.Common.{length}
use Rattle.test_text.proofs.Reader.is_whole_list.Given as goal

abbrev pub decreases-loop-tag : goal.decreases-loop-tag
decreases-loop-tag l = length l.self.rest.now
