-- The call in the rows: what its parts ask of rows that the checks let pass, and what it comes to. Assumes nothing.
use Rattle.std.specs.Prelude.{Ok, Err}
use mathlib.Core.Bool.{true, false}
use mathlib.Core.List.{List, [], ◌∷◌}
use mathlib.Core.Path.{◌≡◌, refl, sym, ◌∙◌, ap}
use Prim.Native.Nat.{ℕ, ◌+◌}
use native.Mathlib.Omega.{arith}
use lib.IntN.{ℤ}
use lib.ListN.{length, replicate}
use Rattle.angle.specs.declared.Point2.{Point2}
use Rattle.dcel.specs.MeshRows.{MeshRows, mesh_rows, SameLengths}
use Rattle.dcel.specs.Rows.{position_of}
use Rattle.math.specs.declared.Point.{Point}
use Rattle.math.specs.Determinant.{InRange}
use Rattle.mesh.specs.declared.Counts.{Counts}
use Rattle.mesh_check.specs.Checked.{Checked}
use Rattle.mesh_check.specs.declared.Refusal.{Refusal}
use Rattle.mesh_check.specs.Check.{vertex_count, point_count}
use Rattle.ring_rows.specs.declared.Node.{Node}
use Rattle.ring_rows.specs.declared.Hull.{Hull}
use Rattle.ring_rows.proofs.Laws.{zeros-same}
use Rattle.ring_rows.specs.RingRows.{RingRows, ring_rows}
use Rattle.start.specs.Start.{point_row, sweep_checked}
use Rattle.start.specs.StartLaws.{AcceptedSweep, sweep-accepts}
use Rattle.start.specs.StartRows.{ToStart, Started, RowsCleared}
use Rattle.step.specs.declared.Progress.{Progress}
use Rattle.sweep.specs.declared.StepAnswer.{StepAnswer}
use Rattle.sweep.specs.Stepped.{Stepped}
use Rattle.sweep.specs.StepCall.{answer_from, step_checked, stepped_with, step_outcome, step_of}
use Rattle.step.specs.StepRows.{stepping_of, StepReady, StepLeaves, SweptOnce}
use Rattle.step.specs.StepOnce.{swept-outcome}

-- ---- the answer
module _ (r : Progress) (place : ℕ) (m : MeshRows) where
  pub answer-full : r.full ≡ true
      → record { counts = r.counts; stepped = Err (record { number = 9; place = place }) } ≡ answer_from place (stepping_of m r)
  unfolding answer_from stepping_of
  answer-full e = rw e

  pub answer-done : r.full ≡ false
      → record { counts = r.counts; stepped = Ok r.answer } ≡ answer_from place (stepping_of m r)
  unfolding answer_from stepping_of
  answer-done e = rw e refl

-- ---- the checks
-- the row that is lent holds the point's coordinates
pub point-checked : {x y : ℤ} {v : Point} → x ≡ v.x → y ≡ v.y
    → (C : Counts) (m : MeshRows) (nodes freed buckets pending : ℕ) (center : Point2) {r : Checked}
    → r ≡ sweep_checked (x ∷ y ∷ []) false C m nodes freed buckets pending center
    → r ≡ step_checked C m nodes freed buckets pending center v
unfolding step_checked
point-checked e f C m nodes freed buckets pending center z = rw (z, e, f)

-- ---- the ring, the step, and zeros
-- seed plus point
count-is : (C : Counts) (v : Point) → vertex_count C (point_row v) ≡ C.vertices + 1
unfolding vertex_count point_count
count-is C v = refl

module _ {C : Counts} {m : MeshRows} {n f b k : ℕ} {center : Point2} {v : Point}
    (A : AcceptedSweep (point_row v) false C m n f b k center) where
  in-range : InRange v
  unfolding point_count position_of
  in-range = A.start.mesh.range {i = 0} (omega arith)

  pub to_start : ToStart C m.positions m.halves m.faces n b center
  to_start = record {
    points = point_row v;
    outs = m.outs;
    start = A.start;
    node-room = let c = count-is C v in let r = A.ring-rows.nodes-fit in omega arith;
    bucket-room = let r = A.ring-rows.sixteen in omega arith;
  }

  -- with the ring in its rows
  module _ {nodes : List Node} {buckets : List ℕ} {hull : Hull}
      (S : Started C m.positions m.halves m.faces nodes buckets hull center)
      (ln : length nodes ≡ n) (lb : length buckets ≡ b) where
    pub to_step : {freed row : List ℕ} → length freed ≡ f → length row ≡ k
        → StepReady C m row (ring_rows nodes freed buckets) hull center v
    to_step lf lr =
        let c = count-is C v in
        let w = A.start.mesh.most in
        let r = A.start.mesh.rows in
        let g = A.ring-rows in
        record {
          sweep = S.sweep A.start (omega arith);
          range = in-range;
          vertices = C.vertices + 1;
          room = record {
            more = omega arith;
            most = omega arith;
            positions = omega arith;
            outs = omega arith;
            sized = record { halves = omega arith; faces = omega arith; pending = let p = A.pending-rows in omega arith; small = omega arith };
            node-room = omega arith;
            freed-room = omega arith;
            bucket-room = omega arith;
            nodes-most = let s = S.nodes-most in omega arith;
          };
        }

-- the ring's rows are built, then stepped on, then cleared; each keeps their lengths
pub swept_once : {C : Counts} {q q' : List ℤ} {o h a row o' h' a' row₂ : List ℕ}
    {nodes nodes₁ nodes₂ : List Node} {freed buckets buckets₁ freed₂ buckets₂ : List ℕ}
    {hull : Hull} {center : Point2} {v : Point} {r : Progress}
    → StepLeaves C (mesh_rows q o h a) row (ring_rows nodes₁ freed buckets₁) hull center v
    (mesh_rows q' o' h' a') (ring_rows nodes₂ freed₂ buckets₂) r
    → length nodes₂ ≡ length nodes₁ → length nodes₁ ≡ length nodes → length freed₂ ≡ length freed
    → length buckets₂ ≡ length buckets₁ → length buckets₁ ≡ length buckets → length row₂ ≡ length row
    → {ring' : RingRows} {row' : List ℕ} → RowsCleared (ring_rows nodes₂ freed₂ buckets₂) row₂ ring' row'
    → SweptOnce C (mesh_rows q o h a) (ring_rows nodes freed buckets) row (mesh_rows q' o' h' a') ring' row' center v r
swept_once K i i' j k k' l Z = record {
  is = K.is;
  zeros = record {
    ring-zero = Z.ring-zero ∙ zeros-same _ _ (i ∙ i') j (k ∙ k');
    pending-zero = Z.pending-zero ∙ ap (λ (n : ℕ). replicate n 0) l;
  };
}

-- ---- the call
-- k is what the checks answer
pub once-accepted : {k : Checked} → k ≡ Ok tt
    → {C : Counts} {m : MeshRows} {nodes freed buckets pending : ℕ} {center : Point2} {v : Point}
    → k ≡ step_checked C m nodes freed buckets pending center v
    → AcceptedSweep (point_row v) false C m nodes freed buckets pending center
unfolding step_checked
once-accepted e f = sweep-accepts (sym f ∙ e)

module _ (C : Counts) (m : MeshRows) (ring : RingRows) (pending : List ℕ) (center : Point2) (v : Point) where
  abbrev checks : Checked
  checks = step_checked C m (length ring.nodes) (length ring.freed) (length ring.buckets) (length pending) center v

  pub refused-outcome : {k : Checked} {x : Refusal} → k ≡ Err x → k ≡ checks
      → stepped_with (record { counts = C; stepped = Err x }) m ring pending ≡ step_of C m ring pending center v
  unfolding step_of step_outcome
  refused-outcome e f = rw (← f, e) refl

  pub accepted-outcome : {k : Checked} → k ≡ Ok tt → k ≡ checks
      → {x : StepAnswer} {m' : MeshRows} {ring' : RingRows} {pending' : List ℕ} {r : Progress}
      → SweptOnce C m ring pending m' ring' pending' center v r → SameLengths m m' → x ≡ answer_from 0 (stepping_of m' r)
      → stepped_with x m' ring' pending' ≡ step_of C m ring pending center v
  accepted-outcome e f = swept-outcome C m ring pending center v (sym f ∙ e)
