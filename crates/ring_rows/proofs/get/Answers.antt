-- `ring_rows::get` meets its contract: the walk of `Walk`, from the bucket of the angle. Assumes nothing.
use native.Mathlib.Omega.{arith}
use Rattle.dcel.specs.Rows.{row_of}
use Rattle.ring_rows.proofs.Laws.{bucket-ring}
use Rattle.ring_rows.proofs.Test.{to-test}
use Rattle.ring_rows.proofs.Walk.{handle-on, found, again}
use Rattle.ring_rows.proofs.get.Goals as goal

pub contains_angle-requires : goal.contains_angle-requires
unfolding row_of
contains_angle-requires c =
    let P = c.requires in
    let K = c.loop-handle.invariant _ _ (bucket-ring P.0 c.floored_bucket-bucket.result c.floored_bucket-bucket.ensures.below) in
    to-test _ K.ring P.0.node-room (handle-on K) P.1

pub load-handle-requires : goal.load-handle-requires
unfolding row_of
load-handle-requires c =
    let P = c.requires in
    let K = c.loop-handle.invariant _ _ (bucket-ring P.0 c.floored_bucket-bucket.result c.floored_bucket-bucket.ensures.below) in
    (to-test _ K.ring P.0.node-room (handle-on K) P.1).here

pub load-requires : goal.load-requires
unfolding row_of
load-requires c =
    let P = c.requires in
    let K = c.loop-handle.invariant _ _ (bucket-ring P.0 c.floored_bucket-bucket.result c.floored_bucket-bucket.ensures.below) in
    (to-test _ K.ring P.0.node-room (handle-on K) P.1).here

pub overflow_add-passed : goal.overflow_add-passed
unfolding row_of
overflow_add-passed c =
    let P = c.requires in
    let K = c.loop-handle.invariant _ _ (bucket-ring P.0 c.floored_bucket-bucket.result c.floored_bucket-bucket.ensures.below) in
    record { fits = let l = K.less in let m = K.ring.size_small in omega arith }

pub loop-handle-smaller : goal.loop-handle-smaller
unfolding row_of
loop-handle-smaller c =
    let P = c.requires in
    let K = c.loop-handle.invariant _ _ (bucket-ring P.0 c.floored_bucket-bucket.result c.floored_bucket-bucket.ensures.below) in
    let l = K.less in let m = P.0.node-room in omega arith

pub loop-handle-preserved : goal.loop-handle-preserved
loop-handle-preserved c =
    λ len size R. again (c.loop-handle.invariant len size R) c.load-handle.ensures c.contains_angle.ensures c.loop-handle-test.true

pub returns : goal.returns
unfolding row_of
returns c =
    let P = c.requires in
    let K = c.loop-handle.invariant _ _ (bucket-ring P.0 c.floored_bucket-bucket.result c.floored_bucket-bucket.ensures.below) in
    rw (← c.floored_bucket-bucket.ensures.whole) (found K c.load.ensures c.contains_angle.ensures c.loop-handle-test.false)
