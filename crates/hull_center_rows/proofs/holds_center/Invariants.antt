-- The loop of `hull_center_rows::holds_center`.
use Rattle.hull_center_rows.specs.Holding.{Passed}
use Rattle.hull_center_rows.proofs.holds_center.Given as goal

abbrev pub invariant-loop-f : goal.invariant-loop-f
invariant-loop-f l = Passed l.positions l.halves l.faces l.sum l.f-end l.f
