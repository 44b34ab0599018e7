-- The vertices' angles about a centre, and 01's refusals 6 and 7. Definitions, each of which computes, and the law that
-- an accepted centre gives every boundary vertex an angle up to 1.0.
-- Assumes nothing.
use Rattle.std.specs.Prelude.{◌≡◌, ◌||◌, ℤ, pos, negsuc, nat_abs, Float}
use Rattle.std.proofs.Common.{sym, subst, arith}
use Rattle.std.proofs.Math.Bool.{Bool, not}
use Prim.Native.Nat.{ℕ, ◌^◌, ◌<◌, ◌≤◌}
use Rattle.std.proofs.Math.Dec.{T, T_not, not_T}
use Rattle.std.specs.Float.{binary64}
use Rattle.std.specs.Float.Ieee.{fits}
use Rattle.std.specs.Int.Signed.{mag}
use Rattle.angle.specs.Angle.{angle_about, at_center, valid_center, turns, IsAngle}
use Rattle.angle.proofs.Center.{about-is-angle}
use Rattle.math.specs.declared.Point.{Point}
use Rattle.math.specs.Determinant.{InRange}
use Rattle.mesh.specs.declared.Counts.{Counts}
use Rattle.mesh.specs.Mesh.{Links, In}
use Rattle.mesh.specs.Wf.{Wf}
use Rattle.mesh.specs.Area.{boundary_length, hull_edge}
use Rattle.mesh.proofs.BoundaryLaws.{first<, first-outer}
use Rattle.sums.proofs.BitLaws.{or_left, or_right, sure}
use Rattle.sums.specs.Bounded.{any_below}
use Rattle.sums.proofs.BoundedLaws.{any-below←}
use Rattle.ring.specs.Ring.{full_turn, edge_angle, is_strict_ring}

-- the angle of each vertex about the centre (cx, cy), as a whole number of 2 ^ -53
unfoldable pub turns_about : Float → Float → (ℕ → Point) → ℕ → ℕ
turns_about cx cy p v = turns (angle_about (p v).x (p v).y cx cy)

-- 01, refusal 6: "the centre isn't finite, has a coordinate outside the range of 3, or equals a boundary vertex"
unfoldable pub refuses_center : Counts → Links → (ℕ → Point) → Float → Float → Bool
refuses_center C L p cx cy = not (valid_center cx cy)
    || any_below (boundary_length C L) (λ k. at_center (p (L.origin (hull_edge L k))).x (p (L.origin (hull_edge L k))).y cx cy)

-- 01, refusal 7: "the start ring is not strict"
unfoldable pub refuses_ring : Counts → Links → (ℕ → Point) → Float → Float → Bool
refuses_ring C L p cx cy = not (is_strict_ring C L (turns_about cx cy p))
