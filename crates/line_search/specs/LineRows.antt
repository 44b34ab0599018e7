-- What the functions ask of the rows, and what two of them answer. Assumes nothing.
use Rattle.std.specs.Prelude.{cond, List, Option, Some, None, IsSome, ◌≡◌, ℕ, ◌*◌, ◌<◌, ◌≤◌, ltb, eqb, ℤ, length}
use Rattle.dcel.specs.Rows.{row_of, links_of, position_of, There}
use Rattle.line.specs.declared.PositionWhenAllVerticesOnLine.{PositionWhenAllVerticesOnLine}
use Rattle.line.specs.declared.PositionWhenAllVerticesOnLine.TheVariants.{OnEdge, ExtendingLine}
use Rattle.line.specs.Line.{Line}
use Rattle.line.specs.Locate.{vertex_on, last_before, first_after, edge_from_neighbors}
use Rattle.math.specs.declared.Point.{Point}
use Rattle.math.specs.Determinant.{InRange}
use Rattle.mesh.specs.declared.Counts.{Counts}
use Rattle.mesh.specs.Mesh.{Links}
use Rattle.sums.specs.Half.{rev}
use Rattle.line_search.specs.declared.Neighbors.{Neighbors}
use Rattle.line_search.specs.declared.Neighbors.TheVariants.{Vertex, Between}

-- the rows, with some row of faces, hold a line of points, and the point is in range
pub record LineReady (C : Counts) (q : List ℤ) (o h : List ℕ) (point : Point) : Type 0 where
  pub faces : List ℕ
  pub line : Line C (links_of o h faces) (position_of q)
  pub positions : 2 * C.vertices ≤ length q
  pub outs : C.vertices ≤ length o
  pub halves : 8 * C.edges ≤ length h
  pub range : InRange point

-- ---- the pass
-- the row has the positions of the vertices, in range and different
pub record VerticesReady (C : Counts) (q : List ℤ) (point : Point) : Type 0 where
  pub there : 2 * C.vertices ≤ length q
  pub range : {v : ℕ} → v < C.vertices → InRange (position_of q v)
  pub distinct : {u v : ℕ} → u < C.vertices → v < C.vertices → position_of q u ≡ position_of q v → u ≡ v
  pub point-range : InRange point

-- a neighbour by its number, which is the number of vertices where there is none
abbrev pub neighbor : Counts → ℕ → Option ℕ
neighbor C v = cond (ltb v C.vertices) (Some v) None

abbrev pub number_of : Counts → Option ℕ → ℕ
number_of C (Some v) = v
number_of C None = C.vertices

-- `vertices.binary_search_by(..)`
unfoldable pub neighbors_of : Counts → (ℕ → Point) → Point → Neighbors
neighbors_of C p q =
    let v = vertex_on C p q in
    cond (ltb v C.vertices) (Vertex v) (Between (neighbor C (last_before C p q)) (neighbor C (first_after C p q)))

-- the neighbours are vertices, and there is one
pub record Neighbored (C : Counts) (before after : Option ℕ) : Type 0 where
  pub low : {v : ℕ} → before ≡ Some v → v < C.vertices
  pub high : {v : ℕ} → after ≡ Some v → v < C.vertices
  pub some : before ≡ None → IsSome after

abbrev pub FoundIs : Counts → Neighbors → Type 0
FoundIs C (Vertex v) = Unit
FoundIs C (Between b a) = Neighbored C b a

-- ---- the neighbours
-- the out edge of v and its reverse are in the row
pub record OutReady (o h : List ℕ) (v : ℕ) : Type 0 where
  pub out : v < length o
  pub here : There h (row_of o v)
  pub back : There h (rev (row_of o v))

-- the same of the neighbour after the point, where there is one
pub record NeighborsReady (C : Counts) (o h : List ℕ) (after : ℕ) : Type 0 where
  pub most : after ≤ C.vertices
  pub out : after < C.vertices → OutReady o h after

-- the two as the pass answers them
pub record FoundReady (C : Counts) (o h : List ℕ) (before after : Option ℕ) : Type 0 where
  pub found : Neighbored C before after
  pub ready : NeighborsReady C o h (number_of C after)

-- `locate_on_line` where no vertex is at the point
unfoldable pub at_neighbors : Counts → Links → ℕ → ℕ → PositionWhenAllVerticesOnLine
at_neighbors C L a b =
    cond (eqb a C.vertices) (ExtendingLine b)
    (cond (eqb b C.vertices) (ExtendingLine a) (OnEdge (edge_from_neighbors L b a)))
