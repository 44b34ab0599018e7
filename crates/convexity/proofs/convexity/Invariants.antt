-- The loop of `convexity::convexity`, at whose start no pass has stood still.
use Rattle.std.proofs.Common.{false}
use Rattle.corner.specs.CornerRows.{extended_of}
use Rattle.convexity.specs.ConvexityLaws.{passes_left}
use Rattle.convexity.proofs.PassesLoop.{PassesAt}
use Rattle.convexity.proofs.convexity.Given as goal

abbrev pub invariant-loop-now : goal.invariant-loop-now
invariant-loop-now l =
    PassesAt l.positions l.initial.outs l.initial.halves l.initial.faces l.initial.pending l.initial.now.counts l.outs l.halves l.faces l.pending l.now false

abbrev pub decreases-loop-now : goal.decreases-loop-now
decreases-loop-now l =
    passes_left (record { mesh = extended_of l.outs l.halves l.faces l.now; still = false })
