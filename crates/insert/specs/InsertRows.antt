-- What each function asks of the rows that are lent. Definitions only.
use Rattle.std.specs.Prelude.{Bool, List, ◌≡◌, ℕ, ◌+◌, ◌*◌, ◌<◌, ◌≤◌, T, ℤ, length}
use Rattle.circle_test.specs.GoodRows.{GoodRows}
use Rattle.corner.specs.declared.Extension.{Extension}
use Rattle.corner.specs.CornerRows.{extended_of, MeshRoom, Ready}
use Rattle.dcel.specs.Rows.{links_of, position_of}
use Rattle.insertion.specs.Operations.{split_edge, split_half_edge, with_inner_vertex}
use Rattle.insertion.specs.Plane.{Between}
use Rattle.insertion_laws.specs.SplitEdge.{Splittable}
use Rattle.location.specs.declared.PositionInTriangulation.{PositionInTriangulation}
use Rattle.location.specs.Place.{InFace}
use Rattle.location.proofs.PlaceFacts.{Certified}
use Rattle.math.specs.declared.Point.{Point}
use Rattle.math.specs.Determinant.{InRange}
use Rattle.mesh.specs.declared.Counts.{Counts}
use Rattle.mesh.specs.Mesh.{Links, In, to}
use Rattle.mesh.specs.Operations.{with_vertex}
use Rattle.mesh.specs.Good.{Good}
use Rattle.mesh.specs.Wf.{Wf}
use Rattle.skipped.specs.Insert.{Inserting, places_at, mesh_at}
use Rattle.sums.specs.Half.{rev}
use Rattle.walkable.specs.Walkable.{Walkable}
use Rattle.insert.specs.declared.Inserted.{Inserted}

-- ---- `legalize_edge` of a half-edge in use
pub record OneReady (q : List ℤ) (o h a row : List ℕ) (g : Extension) (e : ℕ) : Type 0 where
  pub ready : Ready q o h a row g
  pub edge : In g.counts e

-- of one and then of another
pub record TwoReady (q : List ℤ) (o h a row : List ℕ) (g : Extension) (first second : ℕ) : Type 0 where
  pub ready : Ready q o h a row g
  pub first-in : In g.counts first
  pub second-in : In g.counts second

-- ---- an operation that adds a vertex: the mesh before keeps the rules, what the operation makes of it, the links M of the
-- counts K, is good, and the rows have room for it
pub record GrowReady (C K : Counts) (M : Links) (q : List ℤ) (o h a row : List ℕ) : Type 0 where
  pub rules : Wf C (links_of o h a)
  pub good : Good K M (position_of q)
  pub grown : K.vertices ≡ C.vertices + 1
  pub outs : C.vertices + 1 ≤ length o
  pub positions : 2 * (C.vertices + 1) ≤ length q
  pub sized : MeshRoom (C.vertices + 1) h a row

-- on an edge with an inner face on both sides
pub record InnerEdgeReady (C : Counts) (q : List ℤ) (o h a row : List ℕ) (e : ℕ) : Type 0 where
  pub grow : GrowReady C (with_inner_vertex C) (split_edge (links_of o h a) C e) q o h a row
  pub edge : Splittable C (links_of o h a) e

-- on an edge of the boundary, by its inner half-edge
pub record BoundaryEdgeReady (C : Counts) (q : List ℤ) (o h a row : List ℕ) (e : ℕ) : Type 0 where
  pub grow : GrowReady C (with_vertex C) (split_half_edge (links_of o h a) C e) q o h a row
  pub edge : In C e
  pub inner : 0 < (links_of o h a).face e
  pub outer : (links_of o h a).face (rev e) ≡ 0

-- ---- a good mesh, and a position for one vertex more in the row behind those of the mesh; the rows have room for it
pub record VertexReady (C : Counts) (q : List ℤ) (o h a row : List ℕ) : Type 0 where
  -- the positions before the new one was stored
  pub places : ℕ → Point
  pub good : Good C (links_of o h a) places
  pub same : (v : ℕ) → v < C.vertices → position_of q v ≡ places v
  pub range : InRange (position_of q C.vertices)
  pub outs : C.vertices + 1 ≤ length o
  pub positions : 2 * (C.vertices + 1) ≤ length q
  pub sized : MeshRoom (C.vertices + 1) h a row

-- the position is strictly inside the face f
pub record FaceReady (C : Counts) (q : List ℤ) (o h a row : List ℕ) (f : ℕ) : Type 0 where
  pub ready : VertexReady C q o h a row
  pub face : InFace C (links_of o h a) ready.places (position_of q C.vertices) f

-- the position is strictly between the ends of the edge of e, from either side
pub record OnEdgeReady (C : Counts) (q : List ℤ) (o h a row : List ℕ) (e : ℕ) : Type 0 where
  pub ready : VertexReady C q o h a row
  pub edge : In C e
  pub between : Between (ready.places ((links_of o h a).origin e)) (ready.places (to (links_of o h a) e)) (position_of q C.vertices)

-- ---- a good mesh, and a point in range that is certified to lie at a place of it; the rows have room for one vertex more
pub record InsertReady (C : Counts) (q : List ℤ) (o h a row : List ℕ) (v : Point) (x : PositionInTriangulation) : Type 0 where
  pub good : Good C (links_of o h a) (position_of q)
  pub range : InRange v
  pub certified : Certified C (links_of o h a) (position_of q) v x
  pub outs : C.vertices + 1 ≤ length o
  pub positions : 2 * (C.vertices + 1) ≤ length q
  pub sized : MeshRoom (C.vertices + 1) h a row

-- what is left: the mesh and the positions with the point in it
pub record InsertLeaves (C : Counts) (q : List ℤ) (o h a row : List ℕ) (v : Point) (x : PositionInTriangulation)
    (q' : List ℤ) (o' h' a' : List ℕ) (r : Extension) : Type 0 where
  pub mesh : extended_of o' h' a' r ≡ mesh_at (length row) C (links_of o h a) (position_of q) v x
  pub places : position_of q' ≡ places_at C (position_of q) v x

-- ---- one point, wherever it lies: the rows hold a good mesh and have room for one vertex more; the point is in range
pub record PointReady (C : Counts) (q : List ℤ) (o h a row : List ℕ) (v : Point) : Type 0 where
  pub rows : GoodRows C q o h a
  pub range : InRange v
  pub outs : C.vertices + 1 ≤ length o
  pub positions : 2 * (C.vertices + 1) ≤ length q
  pub sized : MeshRoom (C.vertices + 1) h a row

-- and u is an edge in use; where that is known, the mesh is one to walk on
pub record NearPointReady (C : Counts) (q : List ℤ) (o h a row : List ℕ) (point : Point) (known : Bool) (u : ℕ) : Type 0 where
  pub ready : PointReady C q o h a row point
  pub used : u < C.edges
  pub walkable : T known → Walkable C (links_of o h a) (position_of q)

-- what has become of it
abbrev pub inserting_of : List ℤ → List ℕ → List ℕ → List ℕ → Inserted → Inserting
inserting_of q o h a r = record { place = r.position; positions = position_of q; mesh = extended_of o h a r.added }
