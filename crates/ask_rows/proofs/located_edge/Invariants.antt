-- The loop of `ask_rows::located_edge`.
use Rattle.angle.specs.Angle.{turns}
use Rattle.ask_rows.proofs.Look.{Looking}
use Rattle.ask_rows.proofs.located_edge.Given as goal

abbrev pub invariant-loop : goal.invariant-loop
invariant-loop l =
    Looking l.positions l.halves l.center.x l.center.y l.start l.size (turns l.angle) l.e l.from l.counter
