-- What a mesh that is ready gives to the sweep. Assumes nothing.
use Rattle.std.specs.Prelude.{◌≡◌, ◌&&◌, Float, Ok}
use Rattle.std.proofs.Math.Path.{refl}
use Rattle.std.proofs.Math.Bool.{Bool, true, false, not, cond}
use Prim.Native.Nat.{ℕ, suc, ◌-◌, ◌<◌}
use Rattle.std.proofs.Common.{arith}
use Rattle.std.proofs.Math.Dec.{T, ltb, ltb→lt}
use Rattle.math.specs.declared.Point.{Point}
use Rattle.mesh.specs.declared.Counts.{Counts}
use Rattle.mesh.specs.Mesh.{Links}
use Rattle.mesh_check.specs.Check.{refused}
use Rattle.locate.specs.Locate.{check_ring}
use Rattle.ring.specs.Center.{refuses_center, refuses_ring}
use Rattle.sums.proofs.BitLaws.{from-true, and_left, and_right}
use Rattle.sums.proofs.BoundedLaws.{any-below→}
use Rattle.hull_center.specs.HullCenter.{hull_center, last_three, is_center_left_of, holds_center_at, holds_center, accepts_center, is_ready}

-- face f is an inner one, and the centre is strictly left of its three half-edges
pub record FaceHolds (C : Counts) (L : Links) (p : ℕ → Point) (f : ℕ) : Type 0 where
  pub inner : 0 < f
  pub below : f < C.faces
  pub first : T (is_center_left_of L p (last_three C p) (L.adjacent f))
  pub second : T (is_center_left_of L p (last_three C p) (L.next (L.adjacent f)))
  pub last : T (is_center_left_of L p (last_three C p) (L.next (L.next (L.adjacent f))))

pub record ReadyStart (C : Counts) (L : Links) (p : ℕ → Point) : Type 0 where
  pub faces : 1 < C.faces
  -- rows 6 and 7 of the table
  pub ring : check_ring C L p (hull_center C p).x (hull_center C p).y ≡ Ok tt
  pub face : ℕ
  pub holds : FaceHolds C L p face
