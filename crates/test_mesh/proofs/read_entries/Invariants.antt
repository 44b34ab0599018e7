-- The loop of `test_mesh::read_entries`: what is left only gets shorter.
use Rattle.std.proofs.Common.{◌≤◌, length}
use Rattle.test_mesh.proofs.read_entries.Given as goal

abbrev pub invariant-loop-entry : goal.invariant-loop-entry
invariant-loop-entry g l = length l.text.rest.now ≤ length l.initial.text.rest.now
