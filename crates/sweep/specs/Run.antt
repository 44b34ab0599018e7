-- The call `run`: the seed's ring, all steps in list order, the finish with the points that the steps skipped. Definitions only, and each
-- computes; `Demand3` says what a finished run means.
-- `point` gives each point of the list its position, by its index; `room` is the number of pending entries.
use Rattle.std.specs.Prelude.{Bool, true, false, cond, ◌&&◌, List, ℕ, zero, suc, ◌+◌, ◌*◌, ◌/◌, ◌%◌, ltb, Float, ℤ, length, replicate, Ok, Err}
use Rattle.angle.specs.declared.Point2.{Point2}
use Rattle.convexity.specs.Convexity.{convexity}
use Rattle.corner.specs.Corner.{Extended}
use Rattle.dcel.specs.MeshRows.{MeshRows, links_in, places_in, mesh_rows_from}
use Rattle.dcel.specs.Rows.{position_of, row_of, row_from_of}
use Rattle.decide.specs.declared.Fate.{Fate}
use Rattle.decide.specs.declared.Fate.TheVariants.{Added, Dropped, NotLeft, Unsound, AtCenter}
use Rattle.decide.specs.Decide.{fate_number, fate_vertex}
use Rattle.finish.specs.declared.FinishAnswer.{FinishAnswer}
use Rattle.finish.specs.Finished.{Finished}
use Rattle.finish.specs.Finish.{finished_from}
use Rattle.math.specs.declared.Point.{Point}
use Rattle.mesh.specs.declared.Counts.{Counts}
use Rattle.mesh.specs.Mesh.{Links}
use Rattle.mesh_check.specs.Checked.{Checked}
use Rattle.mesh_check.specs.Check.{point_count}
use Rattle.ring_rows.specs.RingRows.{RingRows, ring_zeros}
use Rattle.skipped.specs.Insert.{Inserting}
use Rattle.skipped.specs.Fill.{Filling, fill_after, insert_on, insert_word, Completing, complete_mesh}
use Rattle.start.specs.Start.{sweep_checked}
use Rattle.sweep.specs.declared.Answer.{Answer}
use Rattle.sweep.specs.Step.{Stepping, answer_of, step_mesh}

-- ---- the steps
-- the mesh under way, how many points have been answered, and whether a flip was refused
pub record Sweeping : Type 0 where
  pub counts : Counts
  pub links : Links
  pub positions : ℕ → Point
  pub answered : ℕ
  pub full : Bool

-- 01: "Its steps start from the seed"
abbrev pub sweep_start : Counts → Links → (ℕ → Point) → Sweeping
sweep_start C L p = record { counts = C; links = L; positions = p; answered = 0; full = false }

-- the step of a point on the mesh as it stands
abbrev pub step_on : ℕ → Float → Float → Sweeping → Point → Stepping
step_on room cx cy s v = step_mesh room cx cy s.counts s.links s.positions v

-- 01: "each gets the mesh and ring that the one before left, whatever fate that one had"; after a refused flip no point follows
unfoldable pub sweep_point : ℕ → Float → Float → Sweeping → Point → Sweeping
sweep_point room cx cy s v =
    let t = step_on room cx cy s v in
    cond s.full s
    (record {
      counts = t.mesh.counts;
      links = t.mesh.links;
      positions = t.positions;
      answered = cond t.mesh.full s.answered (suc s.answered);
      full = t.mesh.full;
    })

-- 01: "A run takes its points in list order.": the mesh after the first n of them
unfoldable pub sweep_after : ℕ → Float → Float → Counts → Links → (ℕ → Point) → (ℕ → Point) → ℕ → Sweeping
sweep_after room cx cy C L p point zero = sweep_start C L p
sweep_after room cx cy C L p point (suc n) = sweep_point room cx cy (sweep_after room cx cy C L p point n) (point n)

-- the step of point i
abbrev pub step_at : ℕ → Float → Float → Counts → Links → (ℕ → Point) → (ℕ → Point) → ℕ → Stepping
step_at room cx cy C L p point i = step_on room cx cy (sweep_after room cx cy C L p point i) (point i)

-- ---- the finish, with the skipped points
-- 02, Change 2: "points of fates 3, 4 and 5 are inserted in list order"
unfoldable pub is_skipped : Fate → Bool
is_skipped (Added v) = false
is_skipped Dropped = false
is_skipped NotLeft = true
is_skipped Unsound = true
is_skipped AtCenter = true

-- 01: "the finish gets the mesh that then stands"; after a refused flip there is none
unfoldable pub complete_after : ℕ → Sweeping → (ℕ → Bool) → (ℕ → Point) → ℕ → Completing
complete_after room s skipped point n =
    cond s.full
    (record {
      mesh = record { counts = s.counts; links = s.links; faces = 0; convexflips = 0; closingflips = 0; full = true };
      positions = s.positions;
      place = s.answered;
      inserted = 0;
    })
    (complete_mesh room s.counts s.links s.positions skipped point n)

-- ---- the answers row
-- 01: "one answer (fate, vertex, faces, flips) per point": so many words
abbrev pub answer_words : ℕ
answer_words = 4

-- word k of the answer of point i
abbrev pub answer_in : List ℕ → ℕ → ℕ → ℕ
answer_in answers i k = row_of answers (answer_words * i + k)

unfoldable pub answer_word : Answer → ℕ → ℕ
answer_word r zero = fate_number r.fate
answer_word r (suc zero) = fate_vertex r.fate
answer_word r (suc (suc zero)) = r.faces
answer_word r (suc (suc (suc k))) = r.flips

-- 01, of 9: "Earlier points' answers stay, those from that index on are all 0"; "answer entries past the counts in use are untouched"
unfoldable pub answers_after : (ℕ → Stepping) → ℕ → ℕ → (ℕ → ℕ) → ℕ → ℕ
answers_after step answered count row x =
    cond (ltb x (answer_words * count))
    (cond (ltb (x / answer_words) answered) (answer_word (answer_of (step (x / answer_words))) (x % answer_words)) 0)
    (row x)

-- the same after the finish, where `answer` gives the words of the skipped points; of these, those below `inserted` are in.
-- 02: "after any 9 a skipped point not yet in answers 0, and from convexity on the rest stand"
unfoldable pub completed_answers : (ℕ → ℕ → ℕ) → (ℕ → Bool) → ℕ → ℕ → (ℕ → ℕ) → ℕ → ℕ
completed_answers answer skipped inserted count row x =
    cond (ltb x (answer_words * count) && skipped (x / answer_words))
    (cond (ltb (x / answer_words) inserted) (answer (x / answer_words) (x % answer_words)) 0)
    (row x)

-- ---- the call
-- what is lent to a run
pub record RunLent : Type 0 where
  pub counts : Counts
  pub mesh : MeshRows
  pub ring : RingRows
  pub pending : List ℕ
  pub answers : List ℕ
  pub center : Point2
  pub points : List ℤ

abbrev pub run_lent : Counts → MeshRows → RingRows → List ℕ → List ℕ → Point2 → List ℤ → RunLent
run_lent C m ring pending answers center points = record {
  counts = C;
  mesh = m;
  ring = ring;
  pending = pending;
  answers = answers;
  center = center;
  points = points;
}

-- its answer, and what the rows that it may write hold afterwards
pub record RunOutcome : Type 0 where
  pub answer : FinishAnswer
  pub mesh : MeshRows
  pub ring : RingRows
  pub pending : List ℕ
  pub answers : List ℕ

abbrev pub ran_with : FinishAnswer → MeshRows → RingRows → List ℕ → List ℕ → RunOutcome
ran_with r m ring pending answers = record { answer = r; mesh = m; ring = ring; pending = pending; answers = answers }

-- 01's refusals 1 to 7; 2, of the answers row: "one answer .. per point"
unfoldable pub run_checked : RunLent → Checked
run_checked l =
    sweep_checked l.points (ltb (length l.answers) (answer_words * point_count l.points)) l.counts l.mesh
    (length l.ring.nodes) (length l.ring.freed) (length l.ring.buckets) (length l.pending) l.center

-- the mesh after the first n points, and the step of point i
abbrev pub sweep_of : RunLent → ℕ → Sweeping
sweep_of l n =
    sweep_after (length l.pending) l.center.x l.center.y
    l.counts (links_in l.mesh) (places_in l.mesh) (position_of l.points) n

abbrev pub steps_of : RunLent → ℕ → Stepping
steps_of l i =
    step_at (length l.pending) l.center.x l.center.y
    l.counts (links_in l.mesh) (places_in l.mesh) (position_of l.points) i

-- whether the step of point i skipped it
abbrev pub skipped_of : RunLent → ℕ → Bool
skipped_of l i = is_skipped (steps_of l i).fate

-- the finish after the last
abbrev pub run_completes : RunLent → Completing
run_completes l =
    let n = point_count l.points in
    complete_after (length l.pending) (sweep_of l n) (skipped_of l) (position_of l.points) n

-- the mesh after the last step and the first convexity passes, and when point i goes in
abbrev pub passed_of : RunLent → Extended
passed_of l =
    let s = sweep_of l (point_count l.points) in
    convexity (length l.pending) s.counts s.positions s.links

abbrev pub fill_of : RunLent → ℕ → Filling
fill_of l i =
    fill_after (length l.pending) (passed_of l).counts (passed_of l).links (sweep_of l (point_count l.points)).positions
    (skipped_of l) (position_of l.points) i

-- the insertion of point i, which was skipped, and its answer
abbrev pub insert_of : RunLent → ℕ → Inserting
insert_of l i = insert_on (length l.pending) (fill_of l i) (position_of l.points i)

abbrev pub inserted_word : RunLent → ℕ → ℕ → ℕ
inserted_word l i k = insert_word (fill_of l i).counts (insert_of l i) k

-- the answers row of a run
abbrev pub run_answers : RunLent → ℕ → ℕ
run_answers l =
    let n = point_count l.points in
    completed_answers (inserted_word l) (skipped_of l) (run_completes l).inserted n
    (answers_after (steps_of l) (sweep_of l n).answered n (row_of l.answers))

-- 01: "All but 9 change nothing lent"; "9 answers the point's index (.. the point count in a finish within a run ..)"; 02: "A 9 met here
-- names that point's index". 01: "After 9 and after every accepted call the ring, freed, bucket and pending rows hold zeros, and mesh and
-- answer entries past the counts in use are untouched": the functions have every entry of their rows
unfoldable pub run_outcome : RunLent → Checked → RunOutcome
run_outcome l (Err r) =
    ran_with (record { counts = l.counts; finished = Err r }) l.mesh l.ring l.pending l.answers
run_outcome l (Ok _) =
    let c = run_completes l in
    ran_with (record { counts = c.mesh.counts; finished = finished_from c.place c.mesh })
    (mesh_rows_from l.mesh c.mesh.links c.positions) (ring_zeros l.ring) (replicate (length l.pending) 0)
    (row_from_of (length l.answers) (run_answers l))

-- THE RUN, for whatever is lent
unfoldable pub run_of : RunLent → RunOutcome
run_of l = run_outcome l (run_checked l)
