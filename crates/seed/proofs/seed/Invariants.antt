-- The loop of `seed::seed`.
use Rattle.seed.specs.SeedLoop.{SeedingOn}
use Rattle.seed.proofs.seed.Given as goal

abbrev pub invariant-loop-i : goal.invariant-loop-i
invariant-loop-i l =
    SeedingOn l.initial.positions l.initial.outs l.initial.halves l.initial.faces l.initial.pending l.initial.answers l.points l.count l.now l.positions l.outs l.halves l.faces l.pending l.answers l.i
