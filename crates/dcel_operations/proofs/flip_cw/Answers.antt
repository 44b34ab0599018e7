-- `dcel_operations::flip_cw` meets its contract. Assumes nothing.
use native.Mathlib.Omega.{arith}
use Rattle.dcel_operations.proofs.Stored.{flipped}
use Rattle.dcel_operations.proofs.flip_cw.Goals as goal

pub store-requires-2 : goal.store-requires-2
store-requires-2 c =
    omega (arith, c.store.auto.row, c.half_edge-te.ensures, c.requires.t)

pub store-requires-3 : goal.store-requires-3
store-requires-3 c =
    omega (arith, c.half_edge-ee.ensures, c.requires.e)

pub store-requires-4 : goal.store-requires-4
store-requires-4 c =
    omega (arith, c.store-3.auto.row, c.half_edge-te.ensures, c.requires.t)

pub returns : goal.returns
returns c =
    flipped
    _
    _
    _
    _
    _
    _
    _
    _
    _
    _
    c.half_edge-ee.ensures
    c.half_edge-te.ensures
    c.flip_marks.ensures
    c.flip_links.ensures
    c.store.ensures
    c.store-2.ensures
    c.store-3.ensures
    c.store-4.ensures
