-- The loop of `search::first_holding`.
use Rattle.search.specs.Scanning.{Holding}
use Rattle.search.proofs.first_holding.Given as goal

abbrev pub invariant-loop-f : goal.invariant-loop-f
invariant-loop-f l = Holding l.positions l.halves l.faces l.point l.f-end l.f
