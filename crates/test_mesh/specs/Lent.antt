-- Of each row no more entries are lent than it has, and than it may have in a list. Definitions only.
use Rattle.std.specs.Prelude.{◌≤◌, length}
use Rattle.test_mesh.specs.declared.Mesh.{Mesh}
use Rattle.test_mesh.specs.declared.Ring.{Ring}
use Rattle.test_mesh.specs.declared.rows.Coordinates.{Coordinates}
use Rattle.test_mesh.specs.declared.rows.Words.{Words}

pub record CoordinatesLent (r : Coordinates) : Type 0 where
  pub within : r.length ≤ length r.row
  pub most : r.length ≤ 512

pub record WordsLent (r : Words) : Type 0 where
  pub within : r.length ≤ length r.row
  pub most : r.length ≤ 6144

pub record MeshLent (m : Mesh) : Type 0 where
  pub positions : CoordinatesLent m.positions
  pub heights : CoordinatesLent m.heights
  pub outs : WordsLent m.outs
  pub halves : WordsLent m.halves
  pub faces : WordsLent m.faces

pub record RingLent (r : Ring) : Type 0 where
  pub nodes : r.nodes.length ≤ 256
  pub freed : r.freed.length ≤ 6144
  pub buckets : r.buckets.length ≤ 6144
