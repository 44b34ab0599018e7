-- The calls with heights beside those on the mesh alone. Where heights refuse nothing the table is that call's own, and so are its answer
-- and what it leaves of the mesh: they do not depend on any height (`locate-own`, `finish-own`, `step-own`, `run-own`, and `step-ignores`
-- and its like: two inputs that differ in heights alone). Otherwise the call is refused and nothing changes (`..-refused`). And what a
-- step makes of the row of heights. Assumes nothing.
use Rattle.std.specs.Prelude.{Bool, false, ◌≡◌, ℕ, ◌+◌, ◌<◌, ◌≤◌, ltb, Float, ℤ, pos, length, get_or}
use Rattle.std.proofs.Math.Bool.{cond}
use mathlib.Core.List.{List, [], ◌∷◌}
use Rattle.std.proofs.Math.Path.{refl, sym, ap}
use Rattle.std.proofs.Common.{◌∙◌, lt-ltb, le-ltb}
use Rattle.std.proofs.Math.Decide.{dec_lt}
use native.Mathlib.Omega.{arith}
use Rattle.std.proofs.Math.ListN.{get_or-eq_default}
use Rattle.angle.specs.declared.Point2.{Point2}
use Rattle.dcel.specs.MeshRows.{MeshRows, links_in, places_in}
use Rattle.dcel.specs.Rows.{row_from_of}
use Rattle.dcel.specs.Views.{length_from, get_or-from, from_entries}
use Rattle.decide.specs.declared.Fate.{Fate}
use Rattle.decide.specs.declared.Fate.TheVariants.{Added, Dropped, NotLeft, Unsound, AtCenter}
use Rattle.finish.specs.Finished.{Finished}
use Rattle.finish.specs.Finish.{finished_with, finish_outcome, finish_of, seed_checked}
use Rattle.heights.specs.Heights.{SurfaceRows, surface_rows, height_of, heights_in, HeightsLent, heights_lent, HeightsGiven, heights_checked, heights_tested}
use Rattle.heights.proofs.HeightsLaws.{heights-accept, given-tested, tested-accept, own-table, own-refused}
use Rattle.locate.specs.Located.{Located}
use Rattle.locate.specs.Locate.{ring_short, check_ring, check_start, check_angle, located_with, locate_outcome, locate_of}
use Rattle.math.specs.declared.Point.{Point}
use Rattle.math.specs.Determinant.{InRange}
use Rattle.mesh.specs.declared.Counts.{Counts}
use Rattle.mesh.specs.Mesh.{Links}
use Rattle.mesh_check.specs.Checked.{Checked}
use Rattle.mesh_check.specs.declared.Refusal.{Refusal}
use Rattle.mesh_check.specs.Check.{and_then, check_with, point_count, vertex_count}
use Rattle.mesh_check.proofs.CheckLawsFacts.{then-accepts}
use Rattle.ring_rows.specs.RingRows.{RingRows}
use Rattle.start.specs.Start.{point_row, sweep_rows_short, sweep_checked}
use Rattle.sums.specs.Bit.{bit}
use Rattle.sums.specs.Put.{put}
use Rattle.sums.proofs.PutLaws.{put_same, put_other}
use Rattle.sweep.specs.declared.StepAnswer.{StepAnswer}
use Rattle.sweep.specs.Stepped.{Stepped}
use Rattle.sweep.proofs.Fates.{is-added}
use Rattle.sweep.specs.Step.{Stepping, is_added, step_mesh}
use Rattle.sweep.proofs.StepCallLawsFacts.{step-fate, step_range, step-swept}
use Rattle.sweep.specs.StepMesh.{Swept}
use Rattle.sweep.proofs.SweepLawsFacts.{step_count}
use Rattle.sweep.specs.StepCall.{answer_from, step_checked, stepped_with, step_outcome, step_of}
use Rattle.surface.specs.StoredHeights.{height_stored}
use Rattle.surface.specs.Surface.{height_added, heights_after, SurfaceStepped, surface_stepped}
use Rattle.surface.specs.Surface.{surface_locate, surface_finish, surface_step_checked, surface_step}

-- ---- the row of heights after a step that the checks accept, a refused flip too: vertex by vertex, as a caller finds it
pub record CarriedHeight (C : Counts) (s : SurfaceRows) (v : Point) (z : ℤ) (fate : Fate) (w : SurfaceStepped) : Type 0 where
  -- the vertices keep their heights,
  pub kept : (u : ℕ) → u < C.vertices → height_of w.heights u ≡ heights_in s u
  -- the one that is added has its point's,
  pub added : (n : ℕ) → fate ≡ Added n → height_of w.heights n ≡ z
  -- and entries past the counts in use are untouched
  pub past : (u : ℕ) → w.call.answer.counts.vertices ≤ u → height_of w.heights u ≡ heights_in s u
  pub length-same : length w.heights ≡ length s.heights
