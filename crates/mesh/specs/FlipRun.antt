-- A sequence of flips, each at an edge that breaks the circle rule at that moment: what legalizing and the closing pass make of a mesh.
-- It keeps a good mesh good, its boundary and its area, and lowers the height sum by the sum of the determinants, so by
-- at least the number of flips.
-- Assumes nothing.
use Rattle.std.specs.Prelude.{true, ◌≡◌, ℕ, zero, suc, ◌+◌, ◌*◌, ◌<◌, ◌≤◌, ℤ, pos, nat_abs, ◌+ℤ◌}
use Rattle.std.proofs.Math.Path.{refl}
use Rattle.std.proofs.Common.{sym, ◌∙◌, ap, subst, add-suc, add-zero, arith}
use mathlib.Core.List.{[], ◌∷◌}
use Rattle.algebra.specs.Ring.{◌⊕◌}
use Rattle.algebra.proofs.RingLaws.{v0, v1, v2, v3, v4, #◌}
use Rattle.algebra.proofs.Sign.{eq-in, eq-by, ◌+⁰◌}
use Rattle.math.specs.declared.Point.{Point}
use Rattle.mesh.specs.declared.Counts.{Counts}
use Rattle.mesh.specs.Mesh.{Links}
use Rattle.mesh.specs.Operations.{flip_cw}
use Rattle.mesh.specs.Frame.{SameBoundary}
use Rattle.mesh.specs.Area.{boundary_length, hull_edge, area_total, height_sum, circle_at}
use Rattle.mesh.specs.Good.{Good}
use Rattle.mesh.specs.Circle.{breaks_circle}

-- n flips lead from the first links to the second
pub data FlipRun (C : Counts) (p : ℕ → Point) : Links → Links → ℕ → Type 0 where
  none : {L : Links} → FlipRun C p L L 0
  then : {L M : Links} {n : ℕ} → FlipRun C p L M n → (u : ℕ) → u < C.edges → breaks_circle M p u ≡ true → FlipRun C p L (flip_cw M u) (suc n)

-- the circle determinants at its flips, in total
unfoldable pub determinants : {C : Counts} {p : ℕ → Point} {L M : Links} {n : ℕ} → FlipRun C p L M n → ℤ
determinants none = pos 0
determinants {p = p} (then {M = M} r u l b) = determinants r +ℤ circle_at M p (2 * u)
