-- The rows hold exactly the ring of a mesh's boundary about the centre: a record over the rows and the numbers of the hull
-- only. Definitions only; `Find`, `Build` and `Insert` have its laws.
use Rattle.std.specs.Prelude.{ℕ, ◌<◌, ◌≤◌, ◌^◌, ◌≡◌, List, ℤ, Float, length}
use Rattle.mesh.specs.declared.Counts.{Counts}
use Rattle.mesh.specs.Mesh.{Links}
use Rattle.segment.specs.Bucket.{Buckets, width}
use Rattle.dcel.specs.Rows.{row_of}
use Rattle.ring.specs.Insert.{On, Bucketed}
use Rattle.ring.specs.Free.{Free}
use Rattle.ring.specs.RingOf.{RingOf}
use Rattle.ring_rows.specs.declared.Node.{Node}
use Rattle.ring_rows.specs.declared.Hull.{Hull}
use Rattle.ring_rows.specs.Rows.{nodes_of, angle_of, edge_of, right_node_of, size_of, ValidNodes}
use Rattle.ring_rows.proofs.RowsLaws.{table_of}
use Rattle.ring_rows.specs.Find.{no_edge}
use Rattle.hull.specs.Boundary.{NodesOfEdges}

pub record Held (C : Counts) (L : Links) (α : ℕ → ℕ) (nodes : List Node) (freed buckets : List ℕ) (h : Hull) : Type 0 where
  pub ring : RingOf C L α (table_of (nodes_of nodes)) (row_of buckets) h.buckets (size_of h)
  -- of the nodes ever in use, those that are not in the ring are on the stack of freed ones
  pub free : Free (On (right_node_of (nodes_of nodes)) (size_of h) (row_of buckets 0)) (row_of freed) h.freed h.nodes
  -- and have no edge: by that `find` knows them
  pub retired : (j : ℕ) → j < h.freed → edge_of (nodes_of nodes) (row_of freed j) ≡ no_edge
  pub freed-most : h.freed ≤ h.nodes
  pub valid : ValidNodes (nodes_of nodes) h.nodes
  pub counted : Buckets h.buckets
  pub node-room : h.nodes ≤ length nodes
  pub freed-room : h.nodes ≤ length freed
  pub bucket-room : h.buckets ≤ length buckets
  pub small : h.nodes < 2 ^ 32

-- What `from_triangulation` leaves: nodes numbered in order, 8 buckets, none freed
pub record FromBoundary
    (p : List ℤ) (halves : List ℕ) (cx cy : Float) (start size : ℕ)
    (nodes : List Node) (buckets : List ℕ) (h : Hull) : Type 0 where
  pub numbered : NodesOfEdges p halves cx cy start size (nodes_of nodes)
  pub filled : Bucketed (right_node_of (nodes_of nodes)) (angle_of (nodes_of nodes)) (row_of buckets) 8 (width 8) 0 size
  pub eight : h.buckets ≡ 8
  pub used : h.nodes ≡ size
  pub none-freed : h.freed ≡ 0
