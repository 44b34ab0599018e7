-- The call `commit` of 02, Change 5: its refusals, in the order of the table, its answer, what it leaves in the lent rows, and the change
-- count. Definitions only, and each computes; `CommitLaws` says what they come to. 02: "Committing takes the quote and the point, and gives
-- the mesh and answer that a step gives, on a step's rows."
use Rattle.std.specs.Prelude.{Bool, cond, List, ℕ, ◌+◌, eqb, ℤ, length, Ok, Err}
use Rattle.angle.specs.declared.Point2.{Point2}
use Rattle.ask.specs.Ask.{quote_of}
use Rattle.finish.specs.Finished.{Finished}
use Rattle.heights.specs.Heights.{SurfaceRows}
use Rattle.math.specs.declared.Point.{Point}
use Rattle.mesh.specs.declared.Counts.{Counts}
use Rattle.mesh_check.specs.Checked.{Checked}
use Rattle.mesh_check.specs.Check.{and_then}
use Rattle.quote.specs.declared.Quote.{Quote}
use Rattle.quote.specs.Quote.{check_quote, check_changes}
use Rattle.ring_rows.specs.RingRows.{RingRows}
use Rattle.sums.specs.Bit.{bit}
use Rattle.surface.specs.StoredHeights.{is_made}
use Rattle.surface.specs.Surface.{SurfaceStepped, surface_stepped, surface_step_checked, surface_step}
use Rattle.sweep.specs.Stepped.{Stepped}
use Rattle.sweep.specs.Step.{is_added}
use Rattle.sweep.specs.StepCall.{stepped_with}

-- ---- the refusals
-- "Both make a step's checks." "11 .. checked after 7; 12 .. checked after 11." q is the quote that is handed in
unfoldable pub commit_checked : ℕ → Counts → SurfaceRows → ℕ → ℕ → ℕ → ℕ → Point2 → Point → ℤ → Quote → Checked
commit_checked changes C s nodes freed buckets pending center v z q =
    and_then (surface_step_checked C s nodes freed buckets pending center v z)
    (and_then (check_quote q (quote_of changes C s.mesh center v z)) (check_changes changes))

-- ---- the change count
-- "which rises by one with each commit that adds a vertex or is refused 9"
unfoldable pub is_counted : Stepped → Bool
is_counted (Ok a) = is_added a.fate
is_counted (Err r) = eqb r.number 9

unfoldable pub commit_changes : ℕ → Stepped → ℕ
commit_changes changes stepped = changes + bit (is_counted stepped)

-- "the run starts it at 0": a run that is accepted or refused 9. Any other refusal changes nothing
unfoldable pub run_changes : ℕ → Finished → ℕ
run_changes changes finished = cond (is_made finished) 0 changes

-- ---- the call
-- what a step comes to, the row of heights with it, and the change count afterwards
pub record CommitOutcome : Type 0 where
  pub step : SurfaceStepped
  pub changes : ℕ

abbrev pub committed_with : SurfaceStepped → ℕ → CommitOutcome
committed_with w changes = record { step = w; changes = changes }

-- 01: "All but 9 change nothing lent and answer the number and a place"
abbrev pub nothing_done : ℕ → Counts → SurfaceRows → RingRows → List ℕ → Stepped → CommitOutcome
nothing_done changes C s ring pending stepped =
    committed_with (surface_stepped (stepped_with (record { counts = C; stepped = stepped }) s.mesh ring pending) s.heights) changes

-- what is accepted is the step w
unfoldable pub commit_outcome : ℕ → Counts → SurfaceRows → RingRows → List ℕ → Checked → SurfaceStepped → CommitOutcome
commit_outcome changes C s ring pending (Err r) w = nothing_done changes C s ring pending (Err r)
commit_outcome changes C s ring pending (Ok _) w = committed_with w (commit_changes changes w.call.answer.stepped)

unfoldable pub commit_of : ℕ → Counts → SurfaceRows → RingRows → List ℕ → Point2 → Point → ℤ → Quote → CommitOutcome
commit_of changes C s ring pending center v z q =
    commit_outcome changes C s ring pending
    (commit_checked changes C s (length ring.nodes) (length ring.freed) (length ring.buckets) (length pending) center v z q)
    (surface_step C s ring pending center v z)
