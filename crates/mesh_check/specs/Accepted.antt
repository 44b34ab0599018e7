-- What the calls may rely on: the rows of an accepted mesh are long enough and hold a good mesh, and every such mesh is
-- accepted (`check-accepts`, `accepts-check`; with points: `with-accepts`, `accepts-with`). Assumes nothing.
use Rattle.std.specs.Prelude.{List, ℕ, ◌*◌, ◌<◌, ◌≤◌, ℤ, length}
use Rattle.dcel.specs.MeshRows.{MeshRows, links_in, places_in}
use Rattle.dcel.specs.Rows.{position_of}
use Rattle.math.specs.Determinant.{InRange}
use Rattle.mesh.specs.declared.Counts.{Counts}
use Rattle.mesh.specs.Good.{Good}
use Rattle.mesh_check.specs.Check.{point_count, vertex_count}

-- the mesh's rows have 01's sizes for n vertices
pub record MeshSizes (n : ℕ) (m : MeshRows) : Type 0 where
  pub positions : 2 * n ≤ length m.positions
  pub outs : n ≤ length m.outs
  pub halves : 24 * n ≤ length m.halves
  pub faces : 2 * n ≤ length m.faces

-- ---- the call `check`
pub record AcceptedMesh (C : Counts) (m : MeshRows) : Type 0 where
  pub least : 3 ≤ C.vertices
  pub most : C.vertices ≤ 1000000
  pub rows : MeshSizes C.vertices m
  pub good : Good C (links_in m) (places_in m)

pub record AcceptedWith (points : List ℤ) (C : Counts) (m : MeshRows) : Type 0 where
  pub least : 3 ≤ vertex_count C points
  pub most : vertex_count C points ≤ 1000000
  pub pairs : 2 * point_count points ≤ length points
  pub rows : MeshSizes (vertex_count C points) m
  pub range : {i : ℕ} → i < point_count points → InRange (position_of points i)
  pub good : Good C (links_in m) (places_in m)

-- what rows 1 to 3 let pass: the seed's rows are long enough, and its positions in range
pub record RowsInLimits (C : Counts) (m : MeshRows) : Type 0 where
  pub most : C.vertices ≤ 1000000
  pub rows : MeshSizes C.vertices m
  pub range : {v : ℕ} → v < C.vertices → InRange (places_in m v)
