-- `walks::walk` meets its contract. Assumes nothing.
use native.Mathlib.Omega.{arith}
use Rattle.walks.proofs.Walking.{first-about, walking, about, far-in, to-cover, few, to-extend, next-about, walking_on, walked}
use Rattle.walks.proofs.walk.Goals as goal

pub step-d-requires : goal.step-d-requires
step-d-requires c = c.requires.here

pub far_position-far-requires : goal.far_position-far-requires
far_position-far-requires c = far-in (first-about c.requires c.step-d.ensures) _

pub loop-side-init : goal.loop-side-init
loop-side-init c = walking c.requires c.step-d.ensures c.far_position-far.ensures

pub covers-requires : goal.covers-requires
covers-requires c = to-cover c.loop-side.invariant

pub extend-end-requires : goal.extend-end-requires
extend-end-requires c = to-extend c.loop-side.invariant c.covers.ensures c.loop-side-test.true

pub step-d-requires-in-loop-side : goal.step-d-requires-in-loop-side
step-d-requires-in-loop-side c = (about c.loop-side.invariant).from.here

pub far_position-far-requires-in-loop-side : goal.far_position-far-requires-in-loop-side
far_position-far-requires-in-loop-side c =
    far-in (next-about c.loop-side.invariant c.covers.ensures c.loop-side-test.true c.step-d-in-loop-side.ensures) _

pub loop-side-smaller : goal.loop-side-smaller
loop-side-smaller c =
    let l = few c.loop-side.invariant in let m = c.extend-end.ensures.count in
    omega arith

pub loop-side-preserved : goal.loop-side-preserved
loop-side-preserved c =
    walking_on c.loop-side.invariant c.covers.ensures c.loop-side-test.true c.extend-end.ensures c.step-d-in-loop-side.ensures
    c.far_position-far-in-loop-side.ensures

pub returns : goal.returns
returns c = walked c.loop-side.invariant c.covers.ensures c.loop-side-test.false
