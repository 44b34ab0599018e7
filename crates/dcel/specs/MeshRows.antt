-- The rows of a lent mesh in one record, as the calls' definitions take them: a contract makes the record of its four rows, and a row more
-- is a field more here. Definitions only; their laws are in `Views`.
use Rattle.std.specs.Prelude.{ℕ, ◌≡◌, List, ℤ, length}
use Rattle.math.specs.declared.Point.{Point}
use Rattle.mesh.specs.Mesh.{Links}
use Rattle.dcel.specs.Rows.{position_of, links_of, row_from_of, halves_from, positions_from}

-- positions, out edges, half-edges, faces' stored edges: two, one, four numbers and one to each place
pub record MeshRows : Type 0 where
  pub positions : List ℤ
  pub outs : List ℕ
  pub halves : List ℕ
  pub faces : List ℕ

abbrev pub mesh_rows : List ℤ → List ℕ → List ℕ → List ℕ → MeshRows
mesh_rows positions outs halves faces = record { positions = positions; outs = outs; halves = halves; faces = faces }

-- the mesh that they hold
abbrev pub links_in : MeshRows → Links
links_in m = links_of m.outs m.halves m.faces

abbrev pub places_in : MeshRows → ℕ → Point
places_in m = position_of m.positions

-- rows of these lengths that hold such a mesh
unfoldable pub mesh_rows_from : MeshRows → Links → (ℕ → Point) → MeshRows
mesh_rows_from m L p = record {
  positions = positions_from (length m.positions) p;
  outs = row_from_of (length m.outs) L.out;
  halves = halves_from (length m.halves) L;
  faces = row_from_of (length m.faces) L.adjacent;
}

-- every row is as long as it was
pub record SameLengths (m m' : MeshRows) : Type 0 where
  pub positions : length m'.positions ≡ length m.positions
  pub outs : length m'.outs ≡ length m.outs
  pub halves : length m'.halves ≡ length m.halves
  pub faces : length m'.faces ≡ length m.faces
