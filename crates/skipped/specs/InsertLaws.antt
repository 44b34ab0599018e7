-- A point goes into a good mesh, whatever the point: the mesh that is left is good, the vertices that were there keep
-- their positions, the point's vertex is at the point, and each new face is counted. What the operations ask is what
-- point location certifies, by the search or by the scan; flips keep it. Assumes nothing.
use Rattle.std.specs.Prelude.{Bool, true, false, cond, ◌≡◌, ℕ, ◌+◌, ◌-◌, ◌<◌, ◌≤◌, eqb}
use Rattle.std.proofs.Math.Path.{refl, ap}
use Rattle.std.proofs.Common.{sym, ◌∙◌, subst, arith}
use Rattle.corner.specs.Corner.{Extended}
use Rattle.corner.specs.CornerLaws.{closings-count, closings-bound}
use Rattle.corner.specs.Untouched.{Untouched, untouched-none, untouched-flips, untouched-join, new-face-untouched, closings-untouched}
use Rattle.insertion_laws.specs.OnEdge.{Inserted, inserted-into-triangle, inserted-on-edge}
use Rattle.insertion.specs.Operations.{insert_into_triangle, insert_on_edge, with_inner_vertex, with_edge_vertex}
use Rattle.insertion.specs.Plane.{Inside, Between}
use Rattle.location.proofs.LocateLaws.{locate-good}
use Rattle.location.specs.declared.PositionInTriangulation.{PositionInTriangulation}
use Rattle.location.specs.declared.PositionInTriangulation.TheVariants.{OnVertex, OnFace, OnEdge, OutsideOfConvexHull}
use Rattle.location.specs.Place.{InFace, InEdge, Beyond}
use Rattle.location.proofs.PlaceFacts.{Certified}
use Rattle.location.proofs.PlaceLaws.{in-face-at, in-edge-at}
use Rattle.location.specs.Scan.{locate_point}
use Rattle.math.specs.declared.Point.{Point}
use Rattle.math.specs.Determinant.{InRange}
use Rattle.mesh.specs.declared.Counts.{Counts}
use Rattle.mesh.specs.Mesh.{Links, to}
use Rattle.mesh.specs.Operations.{with_vertex, create_new_face_adjacent_to_edge}
use Rattle.mesh.specs.Area.{area_total, boundary_area}
use Rattle.mesh.proofs.AreaLaws.{area-theorem}
use Rattle.mesh.specs.Good.{Good}
use Rattle.conflicts.specs.FlipsWithin.{FlipsWithin}
use Rattle.conflicts.proofs.FlipsWithinLaws.{within_none}
use Rattle.mesh.specs.Triangle.{triangle}
use Rattle.sums.specs.Bit.{bit}
use Rattle.sums.specs.Half.{rev}
use Rattle.sums.specs.Put.{put}
use Rattle.sums.proofs.PutLaws.{put_same, put_other}
use Rattle.skipped.specs.Insert.{unflipped, insert_into_face, insert_in_edge, insert_outside, position_vertex, is_new, places_at, mesh_at, Inserting, insert_at, insert_point}
use Rattle.skipped.specs.LegalizeVertex.{Legalized}

-- so many vertices and faces more, and an edge for each
abbrev pub grown_by : Counts → ℕ → ℕ → Counts
grown_by C n f = record { vertices = C.vertices + n; edges = C.edges + f + n; faces = C.faces + f }

-- ---- the mesh after a point has gone in, with the positions p: n is 1 for a new vertex, and else 0
pub record MeshIn (C : Counts) (L : Links) (p : ℕ → Point) (n : ℕ) (m : Extended) : Type 0 where
  pub good : Good m.counts m.links p
  pub counts : m.counts ≡ grown_by C n m.faces
  -- the count of flips is within its bound
  pub bound : FlipsWithin m.counts m.links p m.flips
  -- 01: "mesh .. entries past the counts in use are untouched"
  pub untouched : Untouched m.counts L m.links

-- ---- THE LAW OF ONE POINT, at a place that is certified
pub record PointIn (C : Counts) (L : Links) (p : ℕ → Point) (v : Point) (t : Inserting) : Type 0 where
  pub good : Good t.mesh.counts t.mesh.links t.positions
  -- the vertices that were there keep their positions
  pub kept : (u : ℕ) → u < C.vertices → t.positions u ≡ p u
  pub past : (u : ℕ) → t.mesh.counts.vertices ≤ u → t.positions u ≡ p u
  -- the point's vertex is in use and at the point
  pub used : position_vertex C t.place < t.mesh.counts.vertices
  pub here : t.positions (position_vertex C t.place) ≡ v
  -- a new vertex has the next number (`position_vertex`); there is a face for each that is counted, and an edge for each of both
  pub counts : t.mesh.counts ≡ grown_by C (bit (is_new t.place)) t.mesh.faces
  pub bound : FlipsWithin t.mesh.counts t.mesh.links t.positions t.mesh.flips
  -- 01: "mesh .. entries past the counts in use are untouched"
  pub untouched : Untouched t.mesh.counts L t.mesh.links
  -- the inner faces' doubled areas total the boundary's
  pub area : area_total t.mesh.counts t.mesh.links t.positions ≡ boundary_area t.mesh.counts t.mesh.links t.positions
