-- Rows 1 to 7 of the table, as they are met: the tests on the rows are the table's (`ring-checked`), and a call that they let pass has a good mesh in its rows, whose ring about the centre is
-- strict (`start-accepts`). Assumes nothing.
use Rattle.std.proofs.Math.Path.{◌≡◌, sym, ap, ap₂, subst}
use Rattle.std.specs.Prelude.{refl, Bool, not, ◌||◌, List, ℕ, ◌+◌, ◌-◌, ◌*◌, ◌<◌, ◌≤◌, ◌^◌, T, ltb, Float, ℤ, length}
use Rattle.std.proofs.Common.{◌∙◌, arith, T_not, ltb-false}
use Rattle.std.proofs.Math.Bool.{true, false, cond}
use Rattle.angle.specs.declared.Point2.{Point2}
use Rattle.dcel.specs.MeshHeld.{MeshHeld}
use Rattle.dcel.specs.MeshRows.{MeshRows, links_in, places_in}
use Rattle.dcel.specs.Rows.{row_of, links_of, position_of}
use Rattle.hull.specs.Boundary.{edge_at}
use Rattle.hull.proofs.Ready.{boundary-rows, boundary-closed, strict-test, center-test, size_is, size-asks}
use Rattle.math.specs.declared.Point.{Point}
use Rattle.mesh.specs.declared.Counts.{Counts}
use Rattle.mesh.specs.Mesh.{Links}
use Rattle.mesh.specs.Area.{boundary_length}
use Rattle.mesh.proofs.BoundaryLaws.{next-inverse, first<, boundary-period}
use Rattle.mesh.proofs.CountsLaws.{count-edges, faces-fit, halves-fit}
use Rattle.mesh_check.specs.Checked.{Checked}
use Rattle.mesh_check.specs.declared.Refusal.{Refusal}
use Rattle.mesh_check.specs.Accepted.{AcceptedWith}
use Rattle.mesh_check.proofs.AcceptedLaws.{with-accepts, or-false}
use Rattle.mesh_check.specs.Check.{refused, check_with, vertex_count}
use Rattle.mesh_check.specs.CheckLaws.{NumberedTo, accepts}
use Rattle.mesh_check.proofs.CheckLawsFacts.{numbered_more, numbered-cond, check-numbered, then_next, then-refused, then-accepts, then-numbered}
use Rattle.ring.specs.Ring.{is_strict_ring}
use Rattle.ring.specs.Center.{turns_about, refuses_center, refuses_ring}
use Rattle.sums.proofs.BitLaws.{from_false, sure}
use Rattle.sums.proofs.IterateLaws.{reach-on}
use Rattle.locate.specs.Locate.{ring_rows_short, check_ring, check_start}
use Rattle.locate.specs.Rows.{ClosedBoundary, ring_checked}

-- ---- the ring's rows
pub record RingRoom (n nodes freed buckets : ℕ) : Type 0 where
  pub nodes-fit : n + 1 ≤ nodes
  pub freed-fit : n + 1 ≤ freed
  pub sixteen : 16 ≤ buckets
  pub buckets-fit : n ≤ buckets

-- a good mesh, long rows, and a strict ring about a centre that no boundary vertex equals
pub record AcceptedStart (points : List ℤ) (C : Counts) (m : MeshRows) (about : Point2) : Type 0 where
  pub mesh : AcceptedWith points C m
  pub center : T (not (refuses_center C (links_in m) (places_in m) about.x about.y))
  pub strict : T (is_strict_ring C (links_in m) (turns_about about.x about.y (places_in m)))
