-- Rows as a bulk load is given them after its seed, and what each function leaves. Definitions only.
use Rattle.std.specs.Prelude.{Bool, true, false, cond, ◌&&◌, List, ◌++◌, ◌≡◌, ℕ, ◌+◌, ◌*◌, ◌^◌, ◌<◌, ◌≤◌, ltb, leb, ℤ, length, take, drop, Ok, Err}
use Rattle.angle.specs.declared.Point2.{Point2}
use Rattle.bulk_load.specs.declared.BulkLoadAnswer.{BulkLoadAnswer}
use Rattle.convexity.specs.ConvexityRows.{MeshReady}
use Rattle.dcel.specs.MeshRows.{MeshRows, places_in}
use Rattle.dcel.specs.Rows.{links_of, position_of, row_of}
use Rattle.finish.specs.declared.FinishAnswer.{FinishAnswer}
use Rattle.finish.specs.Finished.{Finished}
use Rattle.finish.specs.Finish.{finish_mesh, finished_from}
use Rattle.hull_center.specs.HullCenter.{hull_center}
use Rattle.hull_center_rows.specs.CenterRows.{LastThreeIn}
use Rattle.math.specs.declared.Point.{Point}
use Rattle.mesh.specs.declared.Counts.{Counts}
use Rattle.mesh.specs.Mesh.{Links}
use Rattle.mesh_check.specs.declared.Refusal.{Refusal}
use Rattle.mesh_check.specs.Check.{point_count}
use Rattle.ring_rows.specs.RingRows.{RingRows}
use Rattle.seed.specs.declared.SeedEnd.{SeedEnd}
use Rattle.sweep.specs.Run.{RunLent, RunOutcome, run_lent, answer_words, run_checked, run_of}

-- ---- the list ended, or a flip was refused: the answer, and the links that are left
pub record Ending : Type 0 where
  pub answer : BulkLoadAnswer
  pub links : Links

-- of a seed with these counts, links and positions; `answered` points have their answers, of n
unfoldable pub end_of : ℕ → Counts → Links → (ℕ → Point) → Bool → ℕ → ℕ → Ending
end_of room C L p full answered n =
    let f = finish_mesh room C p L in
    cond full
    (record {
      answer = record {
        finish = record { counts = C; finished = Err (record { number = 9; place = answered }) };
        line = false;
      };
      links = L;
    })
    (cond (ltb 1 C.faces)
    (record {
      answer = record { finish = record { counts = f.counts; finished = finished_from n f }; line = false };
      links = f.links;
    })
    (record {
      answer = record {
        finish = record { counts = C; finished = Ok (record { faces = 0; convexflips = 0; closingflips = 0 }) };
        line = true;
      };
      links = L;
    }))

pub record EndReady (q : List ℤ) (o h a row w : List ℕ) (s : SeedEnd) (n : ℕ) : Type 0 where
  pub mesh : s.full ≡ false → 1 < s.counts.faces → MeshReady q o h a row s.counts
  pub answered : s.answered ≤ n
  pub answers-room : answer_words * n ≤ length w

-- zeros for the points from `answered` on, where a flip was refused
unfoldable pub zero_from : Bool → ℕ → ℕ → (ℕ → ℕ) → ℕ → ℕ
zero_from full answered n row x = cond (full && (leb (answer_words * answered) x && ltb x (answer_words * n))) 0 (row x)

pub record EndLeaves (q : List ℤ) (o h a row w : List ℕ) (s : SeedEnd) (n : ℕ)
    (o' h' a' w' : List ℕ) (r : BulkLoadAnswer) : Type 0 where
  pub answer : r ≡ (end_of (length row) s.counts (links_of o h a) (position_of q) s.full s.answered n).answer
  pub links : links_of o' h' a' ≡ (end_of (length row) s.counts (links_of o h a) (position_of q) s.full s.answered n).links
  pub answers-are : (x : ℕ) → row_of w' x ≡ zero_from s.full s.answered n (row_of w) x

-- ---- the sweep of the points that are left
-- a refusal's place, counted from the k points that the seed took
unfoldable pub placed_after : ℕ → Finished → Finished
placed_after k (Ok t) = Ok t
placed_after k (Err x) = Err (record { number = x.number; place = k + x.place })

abbrev pub answer_after : ℕ → FinishAnswer → FinishAnswer
answer_after k r = record { counts = r.counts; finished = placed_after k r.finished }

-- what is placed fits
abbrev pub PlaceFits : ℕ → FinishAnswer → Type 0
PlaceFits k r = (x : Refusal) → r.finished ≡ Err x → k + x.place < 2 ^ 32

-- the run of the rest
abbrev pub rest_lent : Counts → MeshRows → RingRows → List ℕ → List ℕ → List ℤ → ℕ → RunLent
rest_lent C m ring pending answers points k =
    run_lent C m ring pending (drop (answer_words * k) answers) (hull_center C (places_in m)) (drop (2 * k) points)

pub record RestReady (C : Counts) (m : MeshRows) (ring : RingRows) (pending answers : List ℕ) (points : List ℤ) (k : ℕ) : Type 0 where
  pub checked : run_checked (rest_lent C m ring pending answers points k) ≡ Ok tt
  pub center : LastThreeIn C m.positions
  pub answers-room : answer_words * k ≤ length answers
  pub points-room : 2 * k ≤ length points
  pub most : k + point_count (drop (2 * k) points) ≤ 1000000

-- R: what the run comes to
pub record RestLeaves (k : ℕ) (R : RunOutcome) (answers : List ℕ) (m : MeshRows) (ring : RingRows) (pending' answers' : List ℕ)
    (r : FinishAnswer) : Type 0 where
  pub answer : r ≡ answer_after k R.answer
  pub mesh : m ≡ R.mesh
  pub ring-is : ring ≡ R.ring
  pub pending-is : pending' ≡ R.pending
  pub answers-are : answers' ≡ take (answer_words * k) answers ++ R.answers
