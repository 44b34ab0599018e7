-- The loop of `apply_rows::walk`: with the turns that are left.
use Rattle.std.proofs.Common.{◌≡◌, ℕ, ◌+◌}
use Rattle.apply_rows.proofs.TurnsLoop.{TurningAt}
use Rattle.apply_rows.proofs.walk.Given as goal

abbrev pub invariant-loop-i : goal.invariant-loop-i
invariant-loop-i l =
    ((left : ℕ) × (left + l._i ≡ l.count)
    × TurningAt l.side l.positions l.initial.outs l.initial.halves l.initial.faces l.initial.pending l.initial.now l.count
    l.outs l.halves l.faces l.pending l.now left)
