-- The sweep of the points that are left is one that a run's checks accept: the seed is a good mesh with a strict ring about the centre, the
-- rows do for it and the points, and these are in range. Assumes nothing but that entries past the seed's counts are untouched (`SeedRows`,
-- which `Past` proves).
use Rattle.std.specs.Prelude.{Bool, true, false, not, ◌&&◌, ◌||◌, ◌≡◌, ℕ, ◌+◌, ◌-◌, ◌*◌, ◌<◌, ◌≤◌, T, ltb, length, drop}
use Rattle.std.proofs.Math.Path.{refl, subst}
use Rattle.std.proofs.Common.{sym, ◌∙◌, ap, arith}
use borrow.Author.Tests.{le-ltb}
use Rattle.std.proofs.Math.ListN.{length-drop}
use Rattle.corner.specs.Untouched.{Untouched}
use Rattle.dcel.specs.MeshRows.{links_in, places_in, mesh_rows_from}
use Rattle.dcel.specs.Rows.{position_of}
use Rattle.dcel.specs.Views.{lengths-from}
use Rattle.finish.specs.CallLeavesLaws.{links-back, places-back, in_rows}
use Rattle.line.specs.GrowUntouched.{Fits}
use Rattle.hull_center.specs.HullCenter.{is_ready, hull_center}
use Rattle.hull_center.specs.Laws.{ReadyStart}
use Rattle.hull_center.proofs.LawsFacts.{ready-start}
use Rattle.line.specs.GrowLaws.{Phase, none, one, line, mesh}
use Rattle.locate.specs.Locate.{ring_rows_short, check_ring, check_start}
use Rattle.locate.specs.Start.{RingRoom}
use Rattle.math.specs.declared.Point.{Point}
use Rattle.math.specs.Determinant.{InRange}
use Rattle.mesh.specs.declared.Counts.{Counts}
use Rattle.mesh.specs.Mesh.{Links}
use Rattle.mesh.proofs.CountsLaws.{vertices-least}
use Rattle.mesh.specs.Good.{Good}
use Rattle.mesh_check.specs.Checked.{Checked}
use Rattle.mesh_check.specs.Accepted.{MeshSizes, AcceptedWith}
use Rattle.mesh_check.proofs.AcceptedLaws.{accepts-with}
use Rattle.mesh_check.specs.Check.{point_count, vertex_count}
use Rattle.mesh_check.proofs.CheckLawsFacts.{then_next}
use Rattle.start.specs.Start.{sweep_rows_short, sweep_checked}
use Rattle.sums.specs.Bit.{bit}
use Rattle.sums.proofs.BitLaws.{and_left, and_right, from-true, is_true, is_false}
use Rattle.sweep.specs.Run.{answer_words, run_checked}
use Rattle.bulk_load.specs.OneVertex.{OneZero}
use Rattle.bulk_load.specs.Seed.{may_start}
use Rattle.bulk_load.specs.BulkLoad.{BulkLoadLent, bulk_load_checked, count, seeded, counts, links, positions, rest_of}
use Rattle.bulk_load.specs.Accepted.{BulkLoadAccepted, load-accepts}

-- entries past the counts in use are as they were lent, and those in use are few enough for the rows; one vertex has links 0
pub record SeedRows (l : BulkLoadLent) : Type 0 where
  pub links-past : Untouched (counts l) (links_in l.mesh) (links l)
  pub places-past : (u : ℕ) → (counts l).vertices ≤ u → positions l u ≡ places_in l.mesh u
  pub fits : (seeded l).growing.mesh.full ≡ false → Fits (counts l)
  pub one-zero : OneZero (seeded l).growing
