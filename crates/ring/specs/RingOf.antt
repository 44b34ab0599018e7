-- THE INVARIANT: the nodes and buckets are the ring of the mesh's boundary. It names rows and numbers only, and starts
-- at the node of bucket 0; from any boundary edge there is a node with which the theory's `Hull` holds, and the other
-- way round. An insert carries it over a step. Assumes nothing.
use Rattle.std.specs.Prelude.{◌≡◌, refl, ◌&&◌, T}
use Rattle.std.proofs.Common.{sym, ◌∙◌, ap, subst}
use Rattle.std.proofs.Math.Bool.{Bool}
use Prim.Native.Nat.{ℕ, ◌+◌, ◌%◌, ◌<◌, ◌≤◌}
use native.Mathlib.Omega.{arith}
use Rattle.std.proofs.Math.Dec.{eqb, eqb→eq}
use Rattle.mesh.specs.declared.Counts.{Counts}
use Rattle.mesh.specs.Mesh.{Links, In}
use Rattle.mesh.specs.Wf.{Wf}
use Rattle.mesh.specs.Area.{boundary_length}
use Rattle.segment.specs.Arc.{holds}
use Rattle.segment.specs.Bucket.{width}
use Rattle.sums.proofs.BitLaws.{and_left, and_right, and_both, eq_test}
use Rattle.sums.specs.Bounded.{first_below}
use Rattle.sums.proofs.BoundedLaws.{first-below-at-most, first-below-passes}
use Rattle.sums.specs.Iterate.{iter}
use Rattle.sums.specs.Listed.{pigeonhole}
use Rattle.sums.proofs.TallyLaws.{tally-at}
use Rattle.ring.specs.Ring.{full_turn, proper, edge_angle, at_ends, is_sound_ring, located}
use Rattle.ring.specs.Sound.{Sound}
use Rattle.ring.specs.Splice.{FitSplice}
use Rattle.ring.specs.Buckets.{ceiling, Sized}
use Rattle.ring.specs.Node.{NodeTable, nodes}
use Rattle.ring.specs.Insert.{On, Bucketed, Insertion}
use Rattle.ring.specs.Inserted.{Rebucketed}
use Rattle.ring.specs.Build.{Built}
use Rattle.ring.specs.Stores.{Linked}
use Rattle.ring.specs.Free.{Free, free-fewer}
use Rattle.ring.specs.Hull.{HullFrom}
use Rattle.ring.specs.WholeInsert.{Stack, InsertParts}
use Rattle.ring.specs.Covered.{Covered}

-- B buckets; `size` nodes
pub record RingOf (C : Counts) (L : Links) (α : ℕ → ℕ) (τ : NodeTable) (bucket : ℕ → ℕ) (B size : ℕ) : Type 0 where
  pub hull : HullFrom full_turn L.next (edge_angle L α) τ bucket (τ.edge (bucket 0))
      (boundary_length C L) (bucket 0) B (width B)
  pub in_use : In C (τ.edge (bucket 0))
  pub outer : L.face (τ.edge (bucket 0)) ≡ 0
  pub count : nodes L.next (edge_angle L α) (boundary_length C L) (τ.edge (bucket 0)) ≡ size
