-- The calls on a mesh whose vertices have heights: `locate`, `step`, `finish` and `run`. (`check` is heights/Heights `surface_checked`.)
-- Each has the table of the call on the mesh alone, with 10 straight after 3, and does what that call does; a step and a run store the
-- heights of the vertices that they add, and a run those of the skipped points that it puts in. Definitions only, and each computes;
-- `SurfaceLaws` and `SurfaceRunLaws` say what they come to. 02, Change 1: "Every call that carries a vertex carries it through." "Links
-- and fates keep ignoring z."
use Rattle.std.specs.Prelude.{false, cond, ◌||◌, List, [], ◌∷◌, ℕ, zero, suc, ◌*◌, ltb, Float, ℤ, length, Ok, Err}
use Rattle.angle.specs.declared.Point2.{Point2}
use Rattle.angle.specs.Angle.{turns}
use Rattle.dcel.specs.MeshRows.{links_in, places_in}
use Rattle.dcel.specs.Rows.{row_from_of}
use Rattle.decide.specs.declared.Fate.{Fate}
use Rattle.decide.specs.declared.Fate.TheVariants.{Added, Dropped, NotLeft, Unsound, AtCenter}
use Rattle.finish.specs.Finish.{FinishOutcome, finish_mesh, finish_outcome, seed_checked}
use Rattle.heights.specs.Heights.{SurfaceRows, surface_rows, height_of, heights_in, heights_lent, heights_checked}
use Rattle.locate.specs.Locate.{ring_short, check_start, check_angle, place_at_of, LocateOutcome, locate_outcome}
use Rattle.location.specs.declared.PositionInTriangulation.{PositionInTriangulation}
use Rattle.location.specs.declared.PositionInTriangulation.TheVariants.{OnVertex, OnFace, OnEdge, OutsideOfConvexHull}
use Rattle.math.specs.declared.Point.{Point}
use Rattle.mesh.specs.declared.Counts.{Counts}
use Rattle.mesh_check.specs.Checked.{Checked}
use Rattle.mesh_check.specs.Check.{and_then, point_count, vertex_count}
use Rattle.ring.specs.Center.{turns_about}
use Rattle.ring_rows.specs.RingRows.{RingRows}
use Rattle.start.specs.Start.{point_row, sweep_rows_short}
use Rattle.sums.specs.Put.{put}
use Rattle.sweep.specs.Run.{answer_words, RunLent, RunOutcome, run_checked, sweep_of, steps_of, skipped_of, passed_of, fill_of, insert_of, run_outcome}
use Rattle.sweep.specs.Step.{step_mesh}
use Rattle.sweep.specs.StepCall.{StepOutcome, step_checked, step_outcome}

-- ---- locate and finish: no height is written
unfoldable pub surface_locate : Counts → SurfaceRows → RingRows → Point2 → Float → LocateOutcome
surface_locate C s ring center a =
    let short = ring_short C.vertices ring in
    let own = and_then (check_start [] short C s.mesh center) (check_angle a) in
    locate_outcome (and_then (heights_checked (heights_lent [] [] short false) C s) own)
    (place_at_of C (links_in s.mesh) (turns_about center.x center.y (places_in s.mesh)) (turns a)) ring

unfoldable pub surface_finish : Counts → SurfaceRows → List ℕ → FinishOutcome
surface_finish C s pending =
    let own = seed_checked C s.mesh pending in
    finish_outcome C s.mesh pending (and_then (heights_checked (heights_lent [] [] (ltb (length pending) 8) false) C s) own)
    (finish_mesh (length pending) C (places_in s.mesh) (links_in s.mesh))

-- ---- a height goes in
-- "an added vertex has its point's height, all others keep theirs": z is the point's
unfoldable pub height_added : Fate → ℤ → (ℕ → ℤ) → ℕ → ℤ
height_added (Added v) z h = put h v z
height_added Dropped z h = h
height_added NotLeft z h = h
height_added Unsound z h = h
height_added AtCenter z h = h

-- a skipped point goes in at its place. 02, Change 2: "on an existing vertex (9: that vertex takes the new height)"
unfoldable pub height_inserted : Counts → PositionInTriangulation → ℤ → (ℕ → ℤ) → ℕ → ℤ
height_inserted C (OnFace f) z h = put h C.vertices z
height_inserted C (OnEdge e) z h = put h C.vertices z
height_inserted C (OutsideOfConvexHull e) z h = put h C.vertices z
height_inserted C (OnVertex v) z h = put h v z

-- 01: "All but 9 change nothing lent"; the function has every entry of its row
unfoldable pub heights_after : Checked → List ℤ → (ℕ → ℤ) → List ℤ
heights_after (Err r) row h = row
heights_after (Ok _) row h = row_from_of (length row) h

-- ---- step
-- what the call on the mesh alone comes to, and the row of heights afterwards
pub record SurfaceStepped : Type 0 where
  pub call : StepOutcome
  pub heights : List ℤ

abbrev pub surface_stepped : StepOutcome → List ℤ → SurfaceStepped
surface_stepped call heights = record { call = call; heights = heights }

-- rows 1, 2, 3, 10, 4, 5, 6 and 7. The point is a row of one, and its height
unfoldable pub surface_step_checked : Counts → SurfaceRows → ℕ → ℕ → ℕ → ℕ → Point2 → Point → ℤ → Checked
surface_step_checked C s nodes freed buckets pending center v z =
    let short = sweep_rows_short false (vertex_count C (point_row v)) nodes freed buckets pending in
    and_then (heights_checked (heights_lent (point_row v) (z ∷ []) short false) C s)
    (step_checked C s.mesh nodes freed buckets pending center v)

unfoldable pub surface_step : Counts → SurfaceRows → RingRows → List ℕ → Point2 → Point → ℤ → SurfaceStepped
surface_step C s ring pending center v z =
    let checked =
    surface_step_checked C s (length ring.nodes) (length ring.freed) (length ring.buckets) (length pending) center v z in
    let t = step_mesh (length pending) center.x center.y C (links_in s.mesh) (places_in s.mesh) v in
    surface_stepped (step_outcome C s.mesh ring pending checked t)
    (heights_after checked s.heights (height_added t.fate z (heights_in s)))

-- ---- run
-- what is lent: what a run on the mesh alone is lent, the vertices' heights and the points'
pub record SurfaceRunLent : Type 0 where
  pub run : RunLent
  pub heights : List ℤ
  pub point_heights_of : List ℤ

abbrev pub surface_run_lent : RunLent → List ℤ → List ℤ → SurfaceRunLent
surface_run_lent l heights point_heights_of = record { run = l; heights = heights; point_heights_of = point_heights_of }

-- what that run comes to, and the row of heights afterwards
pub record SurfaceRan : Type 0 where
  pub call : RunOutcome
  pub heights : List ℤ

abbrev pub surface_ran : RunOutcome → List ℤ → SurfaceRan
surface_ran call heights = record { call = call; heights = heights }

-- the heights after the steps of the first n points, each of height z i: after a refused flip no point follows. The point whose step was
-- refused one has its vertex in the mesh, and its height
unfoldable pub sweep_heights : RunLent → (ℕ → ℤ) → (ℕ → ℤ) → ℕ → ℕ → ℤ
sweep_heights l z h zero = h
sweep_heights l z h (suc n) =
    cond (sweep_of l n).full (sweep_heights l z h n) (height_added (steps_of l n).fate (z n) (sweep_heights l z h n))

-- the same when those of the first n points that the steps skipped have gone in, "in list order": after a refused flip no point follows
unfoldable pub fill_heights : RunLent → (ℕ → ℤ) → (ℕ → ℤ) → ℕ → ℕ → ℤ
fill_heights l z h zero = h
fill_heights l z h (suc n) =
    cond (fill_of l n).full (fill_heights l z h n)
    (cond (skipped_of l n) (height_inserted (fill_of l n).counts (insert_of l n).place (z n) (fill_heights l z h n)) (fill_heights l z h n))

-- 02: "After convexity and before the closing pass, points of fates 3, 4 and 5 are inserted": all steps come before them, and where a flip
-- was refused in a step or in the first convexity passes none goes in
unfoldable pub run_heights : RunLent → (ℕ → ℤ) → (ℕ → ℤ) → ℕ → ℤ
run_heights l z h =
    let n = point_count l.points in
    let steps = sweep_heights l z h n in
    cond ((sweep_of l n).full || (passed_of l).full) steps (fill_heights l z steps n)

-- rows 1, 2, 3, 10, 4, 5, 6 and 7
unfoldable pub surface_run_checked : SurfaceRunLent → Checked
surface_run_checked g =
    let l = g.run in
    let answers = ltb (length l.answers) (answer_words * point_count l.points) in
    let short = sweep_rows_short answers (vertex_count l.counts l.points)
    (length l.ring.nodes) (length l.ring.freed) (length l.ring.buckets) (length l.pending) in
    and_then
    (heights_checked (heights_lent l.points g.point_heights_of short false) l.counts (surface_rows l.mesh g.heights))
    (run_checked l)

unfoldable pub surface_run : SurfaceRunLent → SurfaceRan
surface_run g =
    let l = g.run in
    let checked = surface_run_checked g in
    surface_ran (run_outcome l checked)
    (heights_after checked g.heights (run_heights l (height_of g.point_heights_of) (height_of g.heights)))
