-- The loop of `search::first_left`.
use Rattle.search.specs.Scanning.{Along, boundary_left}
use Rattle.search.proofs.first_left.Given as goal

abbrev pub invariant-loop-point : goal.invariant-loop-point
invariant-loop-point l = Along l.positions l.halves l.point l.initial.e l.e l.from

abbrev pub decreases-loop-point : goal.decreases-loop-point
decreases-loop-point l = boundary_left l.halves l.initial.e l.e
