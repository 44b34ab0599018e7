-- What it means that an edge breaks the circle rule, from either side of the edge, and what its flip does to a good
-- mesh; and that a good mesh in which none does is one in which no triangle's circle strictly contains a neighbour's
-- far vertex. Assumes nothing.
use Rattle.std.specs.Prelude.{Bool, true, false, ◌&&◌, ◌≢◌, ◌≡◌, ℕ, ◌+◌, ◌*◌, ◌/◌, ◌<◌, ltb, ℤ, pos, nat_abs, ◌<ℤ◌, ◌≤ℤ◌}
use Rattle.std.proofs.lemmas.Bool.{false≢true}
use Rattle.std.proofs.Common.{sym, ◌∙◌, ap, ap₂, subst, arith, lt→ltb}
use Rattle.std.proofs.Math.Path.{transport}
use borrow.Author.Tests.{lt-ltb}
use Rattle.std.proofs.Math.Dec.{ltb→lt, not_T}
use Rattle.std.specs.Int.Signed.{lt_z, lt_z_yes, lt_z_no, clash_ℤ}
use Rattle.algebra.proofs.Order.{lt-le}
use Rattle.math.specs.declared.Point.{Point}
use Rattle.math.specs.Determinant.{incircle, contained_in_circumference}
use Rattle.math.specs.Circle.{from_centre}
use Rattle.math.proofs.CircleLaws.{centre-next, radius-next, inside→, inside←}
use Rattle.sums.proofs.BitLaws.{and_left, and_right, and_both, is_true, is_false, from-true}
use Rattle.sums.specs.Half.{rev}
use Rattle.sums.proofs.HalfLaws.{rev-rev, rev-even}
use Rattle.mesh.specs.declared.Counts.{Counts}
use Rattle.mesh.specs.Mesh.{Links, In, to}
use Rattle.mesh.specs.Operations.{flip_cw}
use Rattle.mesh.specs.Frame.{SameBoundary}
use Rattle.mesh.specs.Flip.{Flippable}
use Rattle.mesh.specs.Area.{height_sum, circle_at}
use Rattle.mesh.specs.Good.{Good}
use Rattle.mesh.specs.Circle.{breaks_circle, Settled, InsideCircle, LocallyDelaunay}

-- ---- the test's meaning
pub record Breaks (L : Links) (p : ℕ → Point) (u : ℕ) : Type 0 where
  pub inner-left : 0 < L.face (2 * u)
  pub inner-right : 0 < L.face (2 * u + 1)
  pub inside : pos 0 <ℤ circle_at L p (2 * u)
