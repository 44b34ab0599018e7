-- The loop of `insert_outside::outside_walk`.
use Rattle.dcel.specs.Rows.{links_of}
use Rattle.mesh.specs.Area.{boundary_length}
use Rattle.insert_outside.proofs.WalkLoop.{WalkingAt, walk-starts, walk-sight, walk_turn, walk-less, walk-on, walk_end}
use Rattle.insert_outside.proofs.outside_walk.Given as goal

abbrev pub invariant-loop-side : goal.invariant-loop-side
invariant-loop-side l =
    WalkingAt l.side l.point l.positions l.initial.outs l.initial.halves l.initial.faces l.initial.pending l.initial.now l.outs l.halves l.faces l.pending l.now

abbrev pub decreases-loop-side : goal.decreases-loop-side
decreases-loop-side l =
    boundary_length l.now.added.counts (links_of l.outs l.halves l.faces)
