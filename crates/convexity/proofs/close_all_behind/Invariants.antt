-- The loop of `convexity::close_all_behind`.
use Rattle.convexity.proofs.InnerLoop.{ClosingAt}
use Rattle.convexity.proofs.close_all_behind.Given as goal

abbrev pub invariant-loop-outs : goal.invariant-loop-outs
invariant-loop-outs l =
    ClosingAt l.positions l.current l.initial.behind l.initial.outs l.initial.halves l.initial.faces l.initial.pending l.initial.now l.outs l.halves l.faces l.pending l.now l.behind

abbrev pub decreases-loop-outs : goal.decreases-loop-outs
decreases-loop-outs l = l.behind
