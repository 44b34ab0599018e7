-- Rows as the ring's start is given them and leaves them, and rows of zeros. Definitions only.
use Rattle.std.specs.Prelude.{List, ◌≡◌, ℕ, ◌≤◌, ℤ, length, replicate}
use Rattle.angle.specs.declared.Point2.{Point2}
use Rattle.dcel.specs.MeshRows.{mesh_rows}
use Rattle.decide.specs.SweepRows.{SweepRows}
use Rattle.locate.specs.Start.{AcceptedStart}
use Rattle.mesh.specs.declared.Counts.{Counts}
use Rattle.ring_rows.specs.declared.Node.{Node}
use Rattle.ring_rows.specs.declared.Hull.{Hull}
use Rattle.ring_rows.specs.RingRows.{RingRows, ring_zeros}

-- a mesh that rows 1 to 7 of the table accept, for some points, and room for its ring
pub record ToStart (C : Counts) (q : List ℤ) (h a : List ℕ) (nodes buckets : ℕ) (center : Point2) : Type 0 where
  pub points : List ℤ
  pub outs : List ℕ
  pub start : AcceptedStart points C (mesh_rows q outs h a) center
  pub node-room : C.vertices ≤ nodes
  pub bucket-room : 8 ≤ buckets

-- the rows hold the mesh with its ring; a strict ring has no more nodes than the mesh has vertices
pub record Started (C : Counts) (q : List ℤ) (h a : List ℕ) (nodes : List Node) (buckets : List ℕ) (hull : Hull)
    (center : Point2) : Type 0 where
  pub sweep : {points : List ℤ} {o freed : List ℕ} → AcceptedStart points C (mesh_rows q o h a) center → C.vertices ≤ length freed
      → SweepRows C q o h a nodes freed buckets hull center.x center.y
  pub nodes-most : hull.nodes ≤ C.vertices

-- 01: "After 9 and after every accepted call the ring, freed, bucket and pending rows hold zeros"
pub record RowsCleared (ring : RingRows) (pending : List ℕ) (ring' : RingRows) (pending' : List ℕ) : Type 0 where
  pub ring-zero : ring' ≡ ring_zeros ring
  pub pending-zero : pending' ≡ replicate (length pending) 0
