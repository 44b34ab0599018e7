-- One point of the growing seed leaves what is past the counts in use as it was, links and positions; no count shrinks, and rows
-- of 3V edges and 2V faces hold the mesh.
-- 01: "mesh and answer entries past the counts in use are untouched".
-- Assumes nothing.
use Rattle.std.specs.Prelude.{Bool, true, false, cond, ◌≡◌}
use Rattle.std.proofs.Math.Path.{refl}
use Rattle.std.proofs.Common.{ap, ⊎_elim, lt-ltb, le-ltb}
use Prim.Native.Nat.{ℕ, zero, suc, ◌+◌, ◌*◌, ◌<◌, ◌≤◌}
use Rattle.std.proofs.Math.Decide.{dec_lt}
use native.Mathlib.Omega.{arith}
use Rattle.corner.specs.Untouched.{Untouched, Grown, untouched-none, past}
use Rattle.math.specs.declared.Point.{Point}
use Rattle.math.specs.Determinant.{InRange}
use Rattle.mesh.specs.declared.Counts.{Counts}
use Rattle.mesh.specs.Mesh.{Links}
use Rattle.mesh.proofs.CountsLaws.{halves-fit, faces-fit}
use Rattle.mesh.specs.Good.{Good}
use Rattle.mesh.specs.Wf.{Ranges}
use Rattle.skipped.specs.Insert.{unflipped}
use Rattle.skipped.proofs.InsertLawsFacts.{insert-point}
use Rattle.sums.specs.Put.{put}
use Rattle.sums.proofs.PutLaws.{put_same, put_other}
use Rattle.line.specs.Operations.{setup_initial_two_vertices, with_line_vertex, two_vertices}
use Rattle.line.specs.Order.{is_same_of}
use Rattle.line.specs.Line.{Line}
use Rattle.line.specs.declared.PositionWhenAllVerticesOnLine.{PositionWhenAllVerticesOnLine}
use Rattle.line.specs.declared.PositionWhenAllVerticesOnLine.TheVariants.{OnEdge, OnVertex, NotOnLine, ExtendingLine}
use Rattle.line.specs.Locate.{locate_when_all_vertices_on_line}
use Rattle.line.specs.Grow.{Growing, one_vertex, insert_first_vertex, insert_second_vertex, insert_at_line_place, insert_when_all_vertices_on_line, insert_by_count, grow_in_mesh, grow_on}
use Rattle.line.specs.GrowLaws.{Phase, none, one, line, mesh}

-- ---- one point, by the phase
-- what a point leaves as it was. Where there is no vertex a phase says nothing of the edges, and the bound says that there are none
pub record Leaves (C : Counts) (L : Links) (p : ℕ → Point) (h : Growing) : Type 0 where
  pub untouched : Untouched h.mesh.counts L h.mesh.links
  pub grown : C.edges ≤ 3 * C.vertices → Grown C h.mesh.counts
  pub past : (u : ℕ) → h.mesh.counts.vertices ≤ u → h.positions u ≡ p u

-- ---- rows of 2V faces and 3V edges hold the mesh
pub record Fits (C : Counts) : Type 0 where
  pub faces : C.faces ≤ 2 * C.vertices
  pub edges : C.edges ≤ 3 * C.vertices
