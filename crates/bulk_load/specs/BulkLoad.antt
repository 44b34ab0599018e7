-- The call `bulk_load`: a list of bare points, to a finished mesh or a line of points. The seed grows from the front of the list; the rest
-- of it is a run. Definitions only, and each computes; `Demand3Laws` says what a finished mesh means.
-- 02, Change 6: "If the list ends first, the answer is the mesh so far, finished if it has a triangle, else marked as a line of points.";
-- "the 1,000,000 limit counts all points, and fewer than 3 is no refusal in this call. It needs a run's rows and starts the change count
-- at 0".
use Rattle.std.specs.Prelude.{Bool, true, false, cond, ◌||◌, List, ℕ, ◌+◌, ◌-◌, ◌*◌, ◌/◌, ◌%◌, ltb, ℤ, length, replicate, drop, Ok, Err}
use Rattle.convexity.specs.Convexity.{convexity}
use Rattle.dcel.specs.MeshRows.{MeshRows, links_in, places_in, mesh_rows_from}
use Rattle.dcel.specs.Rows.{position_of, row_of, row_from_of}
use Rattle.finish.specs.declared.FinishAnswer.{FinishAnswer}
use Rattle.finish.specs.Finished.{Finished}
use Rattle.finish.specs.Finish.{finish_mesh, finished_from}
use Rattle.heights.specs.Heights.{height_of, heights_short, heights_outside}
use Rattle.hull_center.specs.HullCenter.{hull_center}
use Rattle.math.specs.declared.Point.{Point}
use Rattle.mesh.specs.declared.Counts.{Counts}
use Rattle.mesh.specs.Mesh.{Links}
use Rattle.mesh_check.specs.Checked.{Checked}
use Rattle.mesh_check.specs.Check.{refused, first_outside, point_count, rows_short}
use Rattle.ring_rows.specs.RingRows.{RingRows, ring_zeros}
use Rattle.start.specs.Start.{sweep_rows_short}
use Rattle.surface.specs.StoredHeights.{finished_heights}
use Rattle.sweep.specs.Run.{answer_words, RunLent, run_lent, run_completes, run_answers}
use Rattle.bulk_load.specs.declared.BulkLoadAnswer.{BulkLoadAnswer}
use Rattle.bulk_load.specs.Seed.{Seeding, seed_after, grow_at, grow_word}

-- ---- what is lent: a run's rows, a height for each vertex and each point, and the points
pub record BulkLoadLent : Type 0 where
  pub mesh : MeshRows
  pub heights : List ℤ
  pub ring : RingRows
  pub pending : List ℕ
  pub answers : List ℕ
  pub points : List ℤ
  pub point_heights_of : List ℤ

abbrev pub bulk_load_lent : MeshRows → List ℤ → RingRows → List ℕ → List ℕ → List ℤ → List ℤ → BulkLoadLent
bulk_load_lent m heights ring pending answers points point_heights_of = record {
  mesh = m;
  heights = heights;
  ring = ring;
  pending = pending;
  answers = answers;
  points = points;
  point_heights_of = point_heights_of;
}

-- N is the number of points
abbrev pub count : BulkLoadLent → ℕ
count l = point_count l.points

-- ---- the refusals 1, 2, 3 and 10
-- 2, "a run's rows"; 02, Change 1: a height for each vertex and each point
unfoldable pub bulk_load_short : BulkLoadLent → Bool
bulk_load_short l =
    sweep_rows_short (ltb (length l.answers) (answer_words * count l)) (count l)
    (length l.ring.nodes) (length l.ring.freed) (length l.ring.buckets) (length l.pending)
    || (rows_short (count l) l.points l.mesh
    || (heights_short (count l) l.heights || heights_short (count l) l.point_heights_of))

unfoldable pub bulk_load_checked : BulkLoadLent → Checked
bulk_load_checked l =
    cond (ltb 1000000 (count l)) (refused 1 0)
    (cond (bulk_load_short l) (refused 2 0)
    (cond (ltb (first_outside (count l) (position_of l.points)) (count l)) (refused 3 (first_outside (count l) (position_of l.points)))
    (cond (heights_outside (count l) l.point_heights_of) (refused 10 0)
    (Ok tt))))

-- ---- the seed
-- after the first n points, and point i as it goes in
abbrev pub seed_of : BulkLoadLent → ℕ → Seeding
seed_of l n = seed_after (length l.pending) (links_in l.mesh) (places_in l.mesh) (position_of l.points) n

abbrev pub seeded_word : BulkLoadLent → ℕ → ℕ → ℕ
seeded_word l i k = grow_word (grow_at (length l.pending) (links_in l.mesh) (places_in l.mesh) (position_of l.points) i) k

-- as far as it grows
abbrev pub seeded : BulkLoadLent → Seeding
seeded l = seed_of l (count l)

-- the answers of the points that it took; the rest are 0. "answer entries past the counts in use are untouched"
unfoldable pub seed_answers : BulkLoadLent → ℕ → ℕ
seed_answers l x =
    cond (ltb x (answer_words * count l))
    (cond (ltb (x / answer_words) (seeded l).answered) (seeded_word l (x / answer_words) (x % answer_words)) 0)
    (row_of l.answers x)

-- ---- what follows it: the answer, the mesh that is left, and the answers of the points
pub record Loading : Type 0 where
  pub answer : BulkLoadAnswer
  pub links : Links
  pub positions : ℕ → Point
  pub answers : ℕ → ℕ

abbrev pub counts : BulkLoadLent → Counts
counts l = (seeded l).growing.mesh.counts

abbrev pub links : BulkLoadLent → Links
links l = (seeded l).growing.mesh.links

abbrev pub positions : BulkLoadLent → ℕ → Point
positions l = (seeded l).growing.positions

-- the sweep: a run with the seed that has grown, the centre of its last three vertices, and the points that are left
unfoldable pub rest_of : BulkLoadLent → RunLent
rest_of l =
    run_lent (counts l) (mesh_rows_from l.mesh (links l) (positions l)) l.ring l.pending
    (drop (answer_words * (seeded l).answered) l.answers) (hull_center (counts l) (positions l))
    (drop (2 * (seeded l).answered) l.points)

unfoldable pub swept_answers : BulkLoadLent → ℕ → ℕ
swept_answers l x =
    cond (ltb x (answer_words * (seeded l).answered))
    (seeded_word l (x / answer_words) (x % answer_words))
    (run_answers (rest_of l) (x - answer_words * (seeded l).answered))

-- C6.7: a 9 names the point's index in the whole list, or the number of all points
unfoldable pub swept : BulkLoadLent → Loading
swept l =
    let c = run_completes (rest_of l) in
    record {
      answer = record {
        finish = record { counts = c.mesh.counts; finished = finished_from ((seeded l).answered + c.place) c.mesh };
        line = false;
      };
      links = c.mesh.links;
      positions = c.positions;
      answers = swept_answers l;
    }

-- the list ends first, with a triangle: "the mesh so far, finished"
unfoldable pub ended : BulkLoadLent → Loading
ended l =
    let f = finish_mesh (length l.pending) (counts l) (positions l) (links l) in
    record {
      answer = record { finish = record { counts = f.counts; finished = finished_from (count l) f }; line = false };
      links = f.links;
      positions = positions l;
      answers = seed_answers l;
    }

-- without one: "marked as a line of points"
unfoldable pub lined : BulkLoadLent → Loading
lined l = record {
  answer = record {
    finish = record { counts = counts l; finished = Ok (record { faces = 0; convexflips = 0; closingflips = 0 }) };
    line = true;
  };
  links = links l;
  positions = positions l;
  answers = seed_answers l;
}

-- a flip was refused while the seed grew
unfoldable pub stopped : BulkLoadLent → Loading
stopped l = record {
  answer = record {
    finish = record { counts = counts l; finished = Err (record { number = 9; place = (seeded l).answered }) };
    line = false;
  };
  links = links l;
  positions = positions l;
  answers = seed_answers l;
}

unfoldable pub loading_of : BulkLoadLent → Loading
loading_of l =
    cond (seeded l).growing.mesh.full (stopped l)
    (cond (seeded l).ready (swept l)
    (cond (ltb 1 (counts l).faces) (ended l) (lined l)))

-- ---- the call
-- its answer, and what the rows that it may write hold afterwards
pub record BulkLoadOutcome : Type 0 where
  pub answer : BulkLoadAnswer
  pub mesh : MeshRows
  pub heights : List ℤ
  pub ring : RingRows
  pub pending : List ℕ
  pub answers : List ℕ

abbrev pub loaded_with : BulkLoadAnswer → MeshRows → List ℤ → RingRows → List ℕ → List ℕ → BulkLoadOutcome
loaded_with r m heights ring pending answers = record {
  answer = r;
  mesh = m;
  heights = heights;
  ring = ring;
  pending = pending;
  answers = answers;
}

-- no mesh is given: C6.4, "None: 0, 0, 0"
abbrev pub no_counts : Counts
no_counts = record { vertices = 0; edges = 0; faces = 0 }

-- 01: "After 9 and after every accepted call the ring, freed, bucket and pending rows hold zeros, and mesh and answer entries past the counts
-- in use are untouched": the functions have every entry of their rows. A point's height goes to the vertex in its answer: 02, Change 1:
-- "Every call that carries a vertex carries it through."; Change 2, of fate 9: "that vertex takes the new height"
unfoldable pub loaded_by : BulkLoadLent → Loading → BulkLoadOutcome
loaded_by l w =
    let answers = row_from_of (length l.answers) w.answers in
    loaded_with w.answer (mesh_rows_from l.mesh w.links w.positions)
    (row_from_of (length l.heights)
    (finished_heights w.answer.finish answers (height_of l.point_heights_of) (height_of l.heights) (count l)))
    (ring_zeros l.ring) (replicate (length l.pending) 0) answers

-- 01: "All but 9 change nothing lent"
unfoldable pub bulk_load_outcome : BulkLoadLent → Checked → BulkLoadOutcome
bulk_load_outcome l (Err r) =
    loaded_with (record { finish = record { counts = no_counts; finished = Err r }; line = false })
    l.mesh l.heights l.ring l.pending l.answers
bulk_load_outcome l (Ok _) = loaded_by l (loading_of l)

-- THE BULK LOAD, for whatever is lent
unfoldable pub bulk_load_of : BulkLoadLent → BulkLoadOutcome
bulk_load_of l = bulk_load_outcome l (bulk_load_checked l)
