-- `insert_outside_of_convex_hull` on a good mesh: a new vertex with its first face over a boundary edge that it sees, and
-- a face over each boundary edge that the two loops cover, each followed by the flips of `legalize_edge`. Each loop ends.
-- While they go on, one boundary edge leads to the new vertex and the next one leads from it. Assumes nothing.
use Rattle.std.specs.Prelude.{Bool, ◌||◌, ◌≡◌, ℤ, pos, ◌<ℤ◌}
use Rattle.std.proofs.Math.Bool.{true, false, not}
use Rattle.std.proofs.lemmas.Bool.{false≢true}
use Rattle.std.proofs.Common.{sym, ◌∙◌, ap, ap₂, subst, arith}
use Prim.Native.Nat.{ℕ, suc, ◌+◌, ◌*◌, ◌<◌}
use Rattle.std.proofs.Math.Dec.{T}
use Rattle.std.specs.Int.Signed.{lt_z_yes}
use Rattle.ring.specs.declared.Side.{Side}
use Rattle.ring.specs.declared.Side.TheVariants.{Left, Right}
use Rattle.apply.specs.Apply.{Walking, first_face, face_edge}
use Rattle.ring.specs.Chain.{beside, sees_edge}
use Rattle.corner.specs.Corner.{Extended}
use Rattle.corner.specs.CornerLaws.{LeftCorner, CornerClosed, closed-good, closed-boundary, closed-length, Closings, none, then, closings-join}
use Rattle.math.specs.declared.Point.{Point}
use Rattle.math.specs.Determinant.{InRange, orient2d}
use Rattle.math.proofs.Plane.{orient2d-next}
use Rattle.mesh.specs.declared.Counts.{Counts}
use Rattle.mesh.specs.Mesh.{Links, In, to}
use Rattle.mesh.specs.Operations.{create_single_face_between_edge_and_next, with_face, create_new_face_adjacent_to_edge, with_vertex}
use Rattle.mesh.specs.Area.{boundary_length}
use Rattle.mesh.proofs.BoundaryLaws.{boundary-most}
use Rattle.mesh.specs.Frame.{SameBoundary}
use Rattle.mesh.specs.Good.{Good}
use Rattle.mesh.proofs.GoodLaws.{single-face-good, new-face-good}
use Rattle.mesh.proofs.LeftLaws.{corner-four}
use Rattle.mesh.proofs.NewFaceLaws.{new-face-frame}
use Rattle.mesh.proofs.SingleFaceLaws.{single-face-frame}
use Rattle.mesh.proofs.TriangleLaws.{outer, p-e, p-n, e-q, n-q}
use Rattle.sums.proofs.UntilLaws.{Falls, until-ends, until-keeps, until-ind}
use Rattle.skipped.specs.Insert.{legalize_one, unflipped, cover_edge, outside_ends, outside_turn, outside_walk, insert_outside}
use Rattle.skipped.specs.LegalizeVertex.{Legalized}

-- ---- the new vertex w on the boundary: l leads to it, and then r from it
pub record Tip (w : ℕ) (C : Counts) (L : Links) (l r : ℕ) : Type 0 where
  pub in-l : In C l
  pub in-r : In C r
  pub outer-l : L.face l ≡ 0
  pub outer-r : L.face r ≡ 0
  pub next-l : L.next l ≡ r
  pub prev-r : L.prev r ≡ l
  pub to-l : to L l ≡ w
  pub origin-r : L.origin r ≡ w
