-- The loop of `search::walk_to_nearest_neighbor`.
use Rattle.dcel.specs.Rows.{position_of}
use Rattle.location.specs.Search.{closer_count}
use Rattle.search.specs.Nearing.{Nearing}
use Rattle.search.proofs.walk_to_nearest_neighbor.Given as goal

abbrev pub invariant-loop-w : goal.invariant-loop-w
invariant-loop-w l =
    Nearing l.counts l.positions l.outs l.halves l.point l.v l.distance

abbrev pub decreases-loop-w : goal.decreases-loop-w
decreases-loop-w l = closer_count l.counts (position_of l.positions) l.point l.v
