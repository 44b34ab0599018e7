-- The loop of `convexity::fix_convexity`.
use Rattle.std.proofs.Common.{◌-◌}
use Rattle.convexity.proofs.OuterLoop.{PassAt}
use Rattle.convexity.proofs.fix_convexity.Given as goal

abbrev pub invariant-loop-turn : goal.invariant-loop-turn
invariant-loop-turn l =
    PassAt l.positions l.initial.outs l.initial.halves l.initial.faces l.initial.pending l.initial.now l.outs l.halves l.faces l.pending l.now l.current l.depth (l.turns - l.turn)
