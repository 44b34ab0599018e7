-- `surface_rows::store_fates` meets its contract. Assumes nothing.
use native.Mathlib.Omega.{arith}
use mathlib.Core.Path.{◌≡◌, refl, sym, ◌∙◌, ap}
use Prim.Native.Nat.{◌-◌, ◌≤◌}
use lib.ListN.{length}
use Rattle.heights.specs.Heights.{height_of}
use Rattle.surface.specs.StoredHeights.{stored_from}
use Rattle.surface_rows.proofs.Stored.{room_at, none-stored, stored_more}
use Rattle.surface_rows.proofs.store_fates.Goals as goal

pub loop-i-init : goal.loop-i-init
loop-i-init c = (refl, sym (none-stored _ _ _ _ _))

pub store_fate-requires : goal.store_fate-requires
store_fate-requires c =
    room_at c.requires c.loop-i.invariant.0 c.loop-i-test.true

pub loop-i-preserved : goal.loop-i-preserved
loop-i-preserved c =
    let I = c.loop-i.invariant in
    (c.store_fate.auto.heights ∙ I.0, stored_more _ _ _ _ _ _ I.1 c.store_fate.ensures)

pub shape_of-heights : goal.shape_of-heights
shape_of-heights c = c.loop-i.invariant.0

pub returns : goal.returns
returns c =
    let e : c.loop-i.i ≡ c.args.n = omega arith in
    c.loop-i.invariant.1 ∙ ap (stored_from _ _ _ _ _) e
