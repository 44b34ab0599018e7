-- The first point off the line: `insert_outside_of_convex_hull` at a half-edge of the chain that has the point strictly
-- left. The loops cover the chain's other half-edges of that direction, and no others; no edge is flipped; and the
-- outcome is a good mesh, settled, with no left corner. Assumes nothing.
use Rattle.std.specs.Prelude.{Bool, true, false, not, ◌||◌, ◌≡◌, T, ℤ, pos, negsuc, neg_ℤ, ◌<ℤ◌}
use Rattle.std.proofs.Math.Path.{refl}
use Rattle.std.proofs.Common.{sym, ◌∙◌, ap, ap₂, subst, arith}
use Prim.Native.Nat.{ℕ, zero, suc, ◌+◌, ◌-◌, ◌*◌, ◌<◌, ◌≤◌}
use Rattle.std.specs.Int.Signed.{lt_z}
use Rattle.ring.specs.declared.Side.{Side}
use Rattle.ring.specs.declared.Side.TheVariants.{Left, Right}
use Rattle.apply.specs.Apply.{Walking, first_face, face_edge}
use Rattle.convexity.specs.Convexity.{NoLeftCorner}
use Rattle.corner.specs.Corner.{Extended}
use Rattle.math.specs.declared.Point.{Point}
use Rattle.math.specs.Determinant.{orient2d, InRange}
use Rattle.math.proofs.Plane.{orient2d-swap}
use Rattle.mesh.specs.declared.Counts.{Counts}
use Rattle.mesh.specs.Mesh.{Links, In, to}
use Rattle.mesh.specs.Circle.{Settled}
use Rattle.mesh.specs.Good.{Good}
use Rattle.mesh.specs.Operations.{create_single_face_between_edge_and_next, create_new_face_adjacent_to_edge, with_face, with_vertex}
use Rattle.ring.specs.Chain.{beside, sees_edge}
use Rattle.skipped.specs.Insert.{cover_edge, outside_ends, outside_turn, outside_walk, insert_outside}
use Rattle.sums.proofs.BitLaws.{is_true}
use Rattle.sums.specs.Half.{rev}
use Rattle.sums.proofs.HalfLaws.{rev-rev}
use Rattle.sums.specs.Until.{until}
use Rattle.sums.proofs.UntilLaws.{until-done, until-next}
use Rattle.line.specs.Chain.{Chain}
use Rattle.line.specs.Fan.{Fan, Seen}
use Rattle.line.specs.Straight.{Straight}

-- what has become of the line: n the edges that it had
pub record OffLine (C₀ : Counts) (p : ℕ → Point) (m : Extended) : Type 0 where
  pub good : Good m.counts m.links p
  pub settled : Settled m.counts m.links p
  pub convex : NoLeftCorner m.counts m.links p
  pub vertices : m.counts.vertices ≡ C₀.vertices + 1
  pub edges : m.counts.edges ≡ 2 * C₀.edges + 1
  pub counted : m.counts.faces ≡ C₀.edges + 1
  pub faces : m.faces ≡ C₀.edges
  pub flips : m.flips ≡ 0
  pub full : m.full ≡ false

-- a fan, and no flip so far
pub record Stand (C₀ : Counts) (L₀ : Links) (at r : ℕ → ℕ) (p : ℕ → Point) (lo hi l f : ℕ) (m : Extended) : Type 0 where
  pub fan : Fan C₀ L₀ at r p m.counts m.links lo hi l f
  pub faces : m.faces + lo ≡ hi
  pub flips : m.flips ≡ 0
  pub full : m.full ≡ false
