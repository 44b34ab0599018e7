-- Rows as a seed that grows, and what each function asks of them. Definitions only.
use Rattle.std.specs.Prelude.{false, cond, List, ℕ, ◌+◌, ◌*◌, ◌≤◌, ℤ, length}
use Rattle.corner.specs.declared.Extension.{Extension}
use Rattle.corner.specs.CornerRows.{extended_of, MeshRoom}
use Rattle.dcel.specs.Rows.{links_of, position_of}
use Rattle.line.specs.declared.PositionWhenAllVerticesOnLine.{PositionWhenAllVerticesOnLine}
use Rattle.line.specs.Grow.{Growing}
use Rattle.line.specs.GrowLaws.{Phase}
use Rattle.line.specs.Line.{Line}
use Rattle.line.proofs.LocateFacts.{LineCertified}
use Rattle.line_fan.specs.FanRows.{FanRoom}
use Rattle.location.specs.declared.PositionInTriangulation.{PositionInTriangulation}
use Rattle.math.specs.declared.Point.{Point}
use Rattle.math.specs.Determinant.{InRange}
use Rattle.mesh.specs.declared.Counts.{Counts}
use Rattle.mesh.specs.Mesh.{Links}
use Rattle.skipped.specs.Insert.{unflipped, is_new, position_vertex}
use Rattle.grow.specs.declared.Grown.{Grown}

-- ---- the seed before a point, and after it
-- A point goes by the counts, the links and the positions alone, so fate and vertex are 0 here
abbrev pub growing_at : Counts → Links → (ℕ → Point) → Growing
growing_at C L p = record { fate = 0; vertex = 0; positions = p; mesh = unflipped C L 0 }

abbrev pub growing_of : List ℤ → List ℕ → List ℕ → List ℕ → Grown → Growing
growing_of q o h a r = record { fate = r.fate; vertex = r.vertex; positions = position_of q; mesh = extended_of o h a r.added }

abbrev pub grown_by : ℕ → ℕ → Extension → Grown
grown_by fate vertex added = record { fate = fate; vertex = vertex; added = added }

-- a point that makes no face
abbrev pub unflipped_by : ℕ → ℕ → Counts → Grown
unflipped_by fate vertex C = grown_by fate vertex (record { counts = C; faces = 0; flips = 0; full = false })

-- a point that was put in at a position of a mesh. C6.1: "fate 1 (also where Change 2 would say 6, 7, 8) or 9"
abbrev pub inserted_by : Counts → PositionInTriangulation → Extension → Grown
inserted_by C x added = grown_by (cond (is_new x) 1 9) (position_vertex C x) added

-- ---- while there is no triangle
-- the rows are sized for so many vertices, as 01 has it; there are no pending entries here
pub record RowsRoom (vertices : ℕ) (q : List ℤ) (o h a : List ℕ) : Type 0 where
  pub outs : vertices ≤ length o
  pub sized : FanRoom vertices q h a

-- the rows hold a line of points, and have room for one vertex more; the point is in range
pub record OnLineReady (C : Counts) (q : List ℤ) (o h a : List ℕ) (v : Point) : Type 0 where
  pub line : Line C (links_of o h a) (position_of q)
  pub range : InRange v
  pub room : RowsRoom (C.vertices + 1) q o h a

-- and it is certified to lie at a place
pub record PlaceReady (C : Counts) (q : List ℤ) (o h a : List ℕ) (v : Point) (x : PositionWhenAllVerticesOnLine) : Type 0 where
  pub ready : OnLineReady C q o h a v
  pub certified : LineCertified ready.line v x

-- no vertex, one, or a line of them
pub record FlatReady (C : Counts) (q : List ℤ) (o h a : List ℕ) (v : Point) : Type 0 where
  pub phase : Phase (growing_at C (links_of o h a) (position_of q))
  pub flat : C.faces ≤ 1
  pub range : InRange v
  pub room : RowsRoom (C.vertices + 1) q o h a

-- ---- one point of the growing seed: the rows hold it, and have room for one vertex more; the point is in range
pub record GrowReady (C : Counts) (q : List ℤ) (o h a row : List ℕ) (v : Point) : Type 0 where
  pub phase : Phase (growing_at C (links_of o h a) (position_of q))
  pub range : InRange v
  pub outs : C.vertices + 1 ≤ length o
  pub positions : 2 * (C.vertices + 1) ≤ length q
  pub sized : MeshRoom (C.vertices + 1) h a row
