-- The loop of `test_mesh::lines::read_points`: a turn adds one number at most, and what is left only gets shorter.
use Rattle.std.proofs.Common.{◌≡◌, ◌≤◌, length}
use Rattle.test_mesh.proofs.lines.read_points.Given as goal

abbrev pub invariant-loop-i : goal.invariant-loop-i
invariant-loop-i l = (l.length ≤ l.i) × (length l.row ≡ 512) × (length l.text.rest.now ≤ length l.initial.text.rest.now)
