-- `settled_test::first_spoke` meets its contract. Assumes nothing.
use Rattle.circle_test.specs.GoodRows.{held}
use Rattle.dcel.specs.MeshHeld.{there_out}
use Rattle.settled_test.specs.SpokeLaws.{back-there, end-placed, back-prev, back-placed, first-spoke}
use Rattle.settled_test.proofs.first_spoke.Goals as goal

pub out-e-requires : goal.out-e-requires
out-e-requires c = let s = c.requires in there_out (held s.0) s.1

pub half_edge-half-requires : goal.half_edge-half-requires
half_edge-half-requires c =
    let s = c.requires in
    back-there s.0 s.1 c.out-e.ensures c.rev.ensures

pub position-requires : goal.position-requires
position-requires c =
    let s = c.requires in
    end-placed s.0 s.1 c.out-e.ensures c.rev.ensures c.half_edge-half.ensures

pub origin-w-requires : goal.origin-w-requires
origin-w-requires c =
    let s = c.requires in
    back-prev s.0 s.1 c.out-e.ensures c.rev.ensures c.half_edge-half.ensures

pub position-requires-2 : goal.position-requires-2
position-requires-2 c =
    let s = c.requires in
    back-placed s.0 s.1 c.out-e.ensures c.rev.ensures c.half_edge-half.ensures c.origin-w.ensures

pub returns : goal.returns
returns c =
    let s = c.requires in
    first-spoke s.0 s.1 c.out-e.ensures c.rev.ensures c.half_edge-half.ensures
    c.origin-w.ensures c.position.ensures c.position-2.ensures
