-- `settled_test::is_unbroken_at` meets its contract. The loop's invariant: the edges of the spokes before the present one keep the rule, and
-- what is carried with it is what the rows have. The measure is the number of spokes that are left. Assumes nothing.
use Rattle.settled_test.specs.StarLaws.{passed_none, passed_on, passed-all, spoke-in, spoke-there}
use Rattle.settled_test.specs.SpokeLaws.{center-placed, prev-there, next-placed, spoke-range, spoke-keeps, spoke-next}
use Rattle.settled_test.proofs.is_unbroken_at.Goals as goal

pub position-center-requires : goal.position-center-requires
position-center-requires c = let s = c.requires in center-placed s.0 s.1

pub first_spoke-at-requires : goal.first_spoke-at-requires
first_spoke-at-requires c = c.requires

pub loop-init : goal.loop-init
loop-init c = (passed_none _, c.first_spoke-at.ensures.spoke)

pub half_edge-half-requires : goal.half_edge-half-requires
half_edge-half-requires c =
    let s = c.requires in
    spoke-there s.0 s.1 c.first_spoke-at.ensures.out c.loop.invariant.0

pub origin-w-requires : goal.origin-w-requires
origin-w-requires c =
    let s = c.requires in
    prev-there s.0 s.1 (spoke-in s.0 s.1 c.first_spoke-at.ensures.out c.loop.invariant.0) c.loop.invariant.1
    c.half_edge-half.ensures

pub position-next-requires : goal.position-next-requires
position-next-requires c =
    let s = c.requires in
    next-placed s.0 s.1 (spoke-in s.0 s.1 c.first_spoke-at.ensures.out c.loop.invariant.0) c.loop.invariant.1
    c.half_edge-half.ensures c.origin-w.ensures

pub is_broken-requires : goal.is_broken-requires
is_broken-requires c =
    let s = c.requires in
    spoke-range s.0 s.1 (spoke-in s.0 s.1 c.first_spoke-at.ensures.out c.loop.invariant.0) c.loop.invariant.1
    c.half_edge-half.ensures c.origin-w.ensures c.position-next.ensures c.position-center.ensures

pub returns-then-is_broken : goal.returns-then-is_broken
returns-then-is_broken c = λ t. absurd t

pub returns-then-d-start : goal.returns-then-d-start
returns-then-d-start c =
    let s = c.requires in
    let k = spoke-keeps s.0 s.1 (spoke-in s.0 s.1 c.first_spoke-at.ensures.out c.loop.invariant.0) c.loop.invariant.1
    c.half_edge-half.ensures c.origin-w.ensures c.position-next.ensures c.position-center.ensures
    c.is_broken.ensures c.if-is_broken.false in
    λ t. passed-all s.0 s.1 c.first_spoke-at.ensures.out c.loop.invariant.0 k
    c.half_edge-half.ensures.prev c.rev-d.ensures c.if-d-start.true

pub loop-preserved : goal.loop-preserved
loop-preserved c =
    let s = c.requires in
    let u = spoke-in s.0 s.1 c.first_spoke-at.ensures.out c.loop.invariant.0 in
    let k = spoke-keeps s.0 s.1 u c.loop.invariant.1
    c.half_edge-half.ensures c.origin-w.ensures c.position-next.ensures c.position-center.ensures
    c.is_broken.ensures c.if-is_broken.false in (
      passed_on c.loop.invariant.0 k c.half_edge-half.ensures.prev c.rev-d.ensures,
      spoke-next s.0 s.1 u c.loop.invariant.1
          c.half_edge-half.ensures c.origin-w.ensures c.position-next.ensures c.rev-d.ensures,
    )

pub returns : goal.returns
returns c = λ t. absurd t
