-- The call `step` of 01: its refusals, in the order of the table, its answer, and what it leaves in the lent rows. Definitions only, and
-- each computes; `StepCallLaws` says what they come to. 01: "Locate and a lone step build the ring from the mesh": the ring is no part of
-- what is defined here, which knows the mesh's boundary alone.
use Rattle.std.specs.Prelude.{false, cond, List, ℕ, length, replicate, Ok, Err}
use Rattle.angle.specs.declared.Point2.{Point2}
use Rattle.dcel.specs.MeshRows.{MeshRows, links_in, places_in, mesh_rows_from}
use Rattle.math.specs.declared.Point.{Point}
use Rattle.mesh.specs.declared.Counts.{Counts}
use Rattle.mesh_check.specs.Checked.{Checked}
use Rattle.ring_rows.specs.RingRows.{RingRows, ring_zeros}
use Rattle.start.specs.Start.{point_row, sweep_checked}
use Rattle.sweep.specs.declared.StepAnswer.{StepAnswer}
use Rattle.sweep.specs.Stepped.{Stepped}
use Rattle.sweep.specs.Step.{Stepping, answer_of, step_mesh}

-- ---- the refusals
-- rows 1 to 7 of the table. 01, row 1: "seed plus points", which is one more than the mesh has
unfoldable pub step_checked : Counts → MeshRows → ℕ → ℕ → ℕ → ℕ → Point2 → Point → Checked
step_checked C m nodes freed buckets pending center v = sweep_checked (point_row v) false C m nodes freed buckets pending center

-- ---- the answer
-- 01: "9 answers the point's index (0 in a step ..)": the place
unfoldable pub answer_from : ℕ → Stepping → StepAnswer
answer_from place s = record {
  counts = s.mesh.counts;
  stepped =
      cond s.mesh.full
      (Err (record { number = 9; place = place }))
      (Ok (answer_of s));
}

-- ---- the call
-- the answer, and what the lent rows hold afterwards
pub record StepOutcome : Type 0 where
  pub answer : StepAnswer
  pub mesh : MeshRows
  pub ring : RingRows
  pub pending : List ℕ

abbrev pub stepped_with : StepAnswer → MeshRows → RingRows → List ℕ → StepOutcome
stepped_with r m ring pending = record { answer = r; mesh = m; ring = ring; pending = pending }

-- 01: "All but 9 change nothing lent and answer the number and a place (0 where none is named)." "After 9 and after every accepted call the
-- ring, freed, bucket and pending rows hold zeros, and mesh and answer entries past the counts in use are untouched": the functions of the
-- links and positions have every entry of their rows
unfoldable pub step_outcome : Counts → MeshRows → RingRows → List ℕ → Checked → Stepping → StepOutcome
step_outcome C m ring pending (Err r) s = stepped_with (record { counts = C; stepped = Err r }) m ring pending
step_outcome C m ring pending (Ok _) s =
    stepped_with (answer_from 0 s)
    (mesh_rows_from m s.mesh.links s.positions) (ring_zeros ring) (replicate (length pending) 0)

-- the rows as they are lent, the centre, and the point
unfoldable pub step_of : Counts → MeshRows → RingRows → List ℕ → Point2 → Point → StepOutcome
step_of C m ring pending center v =
    step_outcome C m ring pending
    (step_checked C m (length ring.nodes) (length ring.freed) (length ring.buckets) (length pending) center v)
    (step_mesh (length pending) center.x center.y C (links_in m) (places_in m) v)
