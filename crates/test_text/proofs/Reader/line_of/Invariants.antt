-- The loop of `test_text::Reader::line_of`: what is left only gets shorter.
use Rattle.std.proofs.Common.{◌≤◌, length}
use Rattle.test_text.proofs.Reader.line_of.Given as goal

abbrev pub invariant-loop-due : goal.invariant-loop-due
invariant-loop-due g l = length l.self.rest.now ≤ length l.initial.self.rest.now
