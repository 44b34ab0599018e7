-- What the operations do to a sum over the inner faces, to left turning, to the areas' total and to the height sum.
-- Each comes from the corners after the operation: the faces that have new ones, and that the others keep theirs.
-- Assumes nothing.
use Rattle.std.specs.Prelude.{◌≡◌, refl, ◌≢◌, [], ◌∷◌, ℤ, pos, ◌+ℤ◌, ◌-ℤ◌, nat_abs, ◌<ℤ◌, ◌≤ℤ◌}
use Rattle.std.proofs.Common.{sym, ◌∙◌, subst}
use Rattle.std.proofs.Math.Path.{ap, ap₂}
use Prim.Native.Nat.{ℕ, suc, ◌+◌, ◌-◌, ◌*◌, ◌/◌, ◌<◌}
use Rattle.std.proofs.Math.Decide.{ℕ_discrete}
use native.Mathlib.Omega.{arith}
use Rattle.algebra.proofs.Order.{abs-falls}
use Rattle.algebra.specs.Ring.{◌⊕◌, ◌⊖◌}
use Rattle.algebra.proofs.RingLaws.{v0, v1, v2, v3, v4, v5, v6}
use Rattle.algebra.proofs.Sign.{eq-in, eq-by, ◌+⁰◌}
use Rattle.math.specs.declared.Point.{Point}
use Rattle.math.specs.Determinant.{orient2d, incircle, height}
use Rattle.math.proofs.Plane.{orient2d-next, incircle-other, height-next, height-not-negative, flip-area, flip-height, flip-left, flip-right}
use Rattle.sums.specs.Half.{rev}
use Rattle.sums.proofs.HalfLaws.{rev-rev, rev-even, rev-odd}
use Rattle.sums.specs.Sum.{sum}
use Rattle.sums.proofs.SumLaws.{sum-ext, sum-change-two, sum_nonneg}
use Rattle.mesh.specs.declared.Counts.{Counts}
use Rattle.mesh.specs.Mesh.{Links, In}
use Rattle.mesh.specs.Wf.{Wf}
use Rattle.mesh.specs.Frame.{Corners, SameFace}
use Rattle.mesh.specs.Operations.{flip_cw}
use Rattle.mesh.specs.Flip.{Flippable, FlipFrame}
use Rattle.mesh.specs.Area.{at_corners, over_faces, area_total, height_sum, circle_at, LeftTurning}

-- ---- a new face
-- Face number `faces` is new, with the corners a, b and c; the other inner faces keep theirs, and the vertices their positions.
pub record FaceAdded (C C' : Counts) (L L' : Links) (p p' : ℕ → Point) (a b c : ℕ) : Type 0 where
  pub faces : C'.faces ≡ C.faces + 1
  pub corners : Corners L' C.faces a b c
  pub others : {f : ℕ} → 0 < f → f < C.faces → SameFace L L' f
  pub positions : (v : ℕ) → v < C.vertices → p' v ≡ p v
