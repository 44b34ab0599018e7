-- The loop of `search::first_closer`.
use Rattle.sums.specs.Half.{rev}
use Rattle.search.specs.Spokes.{SpokeBack, spokes_left}
use Rattle.search.proofs.first_closer.Given as goal

abbrev pub invariant-loop-point : goal.invariant-loop-point
invariant-loop-point l = SpokeBack l.positions l.halves l.point l.distance l.start l.back

abbrev pub decreases-loop-point : goal.decreases-loop-point
decreases-loop-point l = spokes_left l.halves l.start (rev l.back)
