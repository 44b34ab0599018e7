-- The loop of `closing::closing_pass`.
use mathlib.Core.Bool.{false}
use Rattle.dcel.specs.Rows.{position_of}
use Rattle.closing.specs.ClosingLaws.{height_left}
use Rattle.closing.proofs.Loops.{PassAt, passed}
use Rattle.closing.proofs.closing_pass.Given as goal

abbrev pub invariant-loop-flips : goal.invariant-loop-flips
invariant-loop-flips l = PassAt l.counts l.positions l.initial.outs l.initial.halves l.initial.faces l.outs l.halves l.faces l.flips

abbrev pub decreases-loop-flips : goal.decreases-loop-flips
decreases-loop-flips l = height_left l.counts (position_of l.positions) (passed l.outs l.halves l.faces l.flips false)
