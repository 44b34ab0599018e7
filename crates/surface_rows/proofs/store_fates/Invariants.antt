-- The loop of `surface_rows::store_fates`.
use native.Mathlib.Omega.{arith}
use mathlib.Core.Path.{◌≡◌, refl, sym, ◌∙◌, ap}
use Prim.Native.Nat.{◌-◌, ◌≤◌}
use lib.ListN.{length}
use Rattle.heights.specs.Heights.{height_of}
use Rattle.surface.specs.StoredHeights.{stored_from}
use Rattle.surface_rows.proofs.Stored.{room_at, none-stored, stored_more}
use Rattle.surface_rows.proofs.store_fates.Given as goal

abbrev pub invariant-loop-i : goal.invariant-loop-i
invariant-loop-i l =
    (length l.heights ≡ length l.initial.heights) × (height_of l.heights ≡ stored_from l.low l.high l.answers (height_of l.point_heights) (height_of l.initial.heights) l.i)
