-- No refusal of a call has the number 0, so a result whose `refusal` is 0 is that of an accepted call; and a run whose `refusal` is 0
-- meets demand 3 and has carried the heights through. Assumes nothing.
use Rattle.std.specs.Prelude.{Bool, true, false, cond, List, [], ◌≡◌, refl, ℕ, ◌<◌, Float, ℤ, Ok, Err}
use Rattle.std.proofs.Common.{sym, ◌∙◌, ap, subst, arith}
use Rattle.angle.specs.declared.Point2.{Point2}
use Rattle.angle.specs.Angle.{valid_angle}
use Rattle.area.specs.Sided.{Sided}
use Rattle.area.specs.Totalled.{Totalled}
use Rattle.area.specs.AreaTotal.{area_total_of}
use Rattle.area.proofs.AreaTotalLaws.{area-refused}
use Rattle.area.specs.SideQuery.{side_query_of}
use Rattle.area.proofs.SideQueryLaws.{side-refused}
use Rattle.ask.specs.Asked.{Asked}
use Rattle.ask.specs.Ask.{quote_of, ask_checked, ask_outcome, ask_of}
use Rattle.ask.proofs.AskLaws.{point-numbered}
use Rattle.commit.specs.Commit.{commit_checked, commit_outcome, commit_of}
use Rattle.commit.specs.CommitParts.{step-point}
use Rattle.finish.specs.Finished.{Finished}
use Rattle.finish.specs.declared.Totals.{Totals}
use Rattle.finish.specs.Finish.{Finishing, totals_from, finished_from, seed_checked, finish_outcome}
use Rattle.heights.specs.Heights.{SurfaceRows, surface_checked}
use Rattle.heights.proofs.HeightsLaws.{heights-numbered, surface-numbered}
use Rattle.locate.specs.Located.{Located}
use Rattle.locate.specs.declared.Place.{Place}
use Rattle.locate.specs.Locate.{check_angle, locate_outcome}
use Rattle.locate.proofs.StartLaws.{start-numbered}
use Rattle.math.specs.declared.Point.{Point}
use Rattle.mesh.specs.declared.Counts.{Counts}
use Rattle.mesh_check.specs.Checked.{Checked}
use Rattle.mesh_check.specs.declared.Refusal.{Refusal}
use Rattle.mesh_check.specs.Check.{refused, check_with}
use Rattle.mesh_check.specs.CheckLaws.{NumberedTo, accepts, refuses}
use Rattle.mesh_check.proofs.CheckLawsFacts.{numbered-at, numbered_more, check-numbered, then-numbered}
use Rattle.quote.specs.declared.Quote.{Quote}
use Rattle.quote.specs.QuoteLaws.{changes-numbered, quote-numbered}
use Rattle.ring_rows.specs.RingRows.{RingRows}
use Rattle.start.specs.StartLaws.{sweep-numbered}
use Rattle.surface.specs.Surface.{surface_locate, surface_finish, surface_step_checked, surface_step}
use Rattle.surface.specs.Surface.{SurfaceRunLent, surface_run_checked, surface_run}
use Rattle.surface.specs.CarriedHeights.{CarriedHeights}
use Rattle.surface.proofs.SurfaceRunLaws.{surface-demand-3, carried-heights}
use Rattle.sweep.specs.Demand3.{Demand3}
use Rattle.sweep.specs.Run.{run_checked, run_outcome}
use Rattle.sweep.specs.Stepped.{Stepped}
use Rattle.sweep.specs.Step.{Stepping, answer_of}
use Rattle.sweep.specs.StepCall.{answer_from, step_checked, step_outcome}
use Rattle.volume.specs.Measured.{Measured}
use Rattle.volume.specs.declared.Volumes.{Volumes}
use Rattle.volume.specs.Volume.{measured_of, volume_of}
use Rattle.fithmoul.specs.declared.results.RunResult.{RunResult}
use Rattle.fithmoul.specs.Results.{finished_result, ran_with_changes, run_result, reported}

-- ---- the calls
-- a refusal of the table, and one that the table does not know
same_number : {n : ℕ} {y x : Refusal} → NumberedTo n (Err y) → y ≡ x → 0 < x.number
same_number g e = subst (λ (r : Refusal). 0 < r.number) e (numbered-at g).0

pub check-named : (C : Counts) (s : SurfaceRows) (x : Refusal) → surface_checked false C s ≡ Err x → 0 < x.number
check-named C s x e = (numbered-at (subst (NumberedTo 10) e (surface-numbered false C s))).0

pub locate-named : (C : Counts) (s : SurfaceRows) (ring : RingRows) (center : Point2) (angle : Float) (x : Refusal)
    → (surface_locate C s ring center angle).answer ≡ Err x → 0 < x.number
unfolding surface_locate locate_outcome check_angle
locate-named C s ring center angle x e =
    by _ (then-numbered (heights-numbered _ C s) (then-numbered (numbered_more (omega arith) (start-numbered [] _ C s.mesh center)) (at (valid_angle angle)))) _ e
  where
    at : (b : Bool) → NumberedTo 10 (cond b (Ok tt) (refused 8 0))
    at true = accepts
    at false = refuses {r = record { number = 8; place = 0 }} (omega arith) (omega arith)

    by : (c : Checked) → NumberedTo 10 c → (p : Place) → (locate_outcome c p ring).answer ≡ Err x → 0 < x.number
    by (Ok tt) g p z = absurd (let w : ◌≡◌ {A = ℕ} 0 1 = cc in omega arith)
    by (Err y) g p z = same_number {x = x} g cc

pub volume-named : (C : Counts) (s : SurfaceRows) (level : ℤ) (x : Refusal) → volume_of C s level ≡ Err x → 0 < x.number
unfolding volume_of measured_of
volume-named C s level x e = by _ (surface-numbered _ C s) _ e
  where
    by : (c : Checked) → NumberedTo 10 c → (v : Volumes) → measured_of c v ≡ Err x → 0 < x.number
    by (Ok tt) g v z = absurd (let w : ◌≡◌ {A = ℕ} 0 1 = cc in omega arith)
    by (Err y) g v z = same_number {x = x} g cc

pub area-total-named : (C : Counts) (s : SurfaceRows) (x : Refusal) → area_total_of C s ≡ Err x → 0 < x.number
area-total-named C s x e = check-named C s x (area-refused C s e)

pub side-query-named : (p1 p2 q : Point) (x : Refusal) → side_query_of p1 p2 q ≡ Err x → 0 < x.number
side-query-named p1 p2 q x e = let n = (side-refused p1 p2 q e).0 in omega arith

-- a finish and a run: a number of the checks, or 9
finished-nine : (place : ℕ) (f : Finishing) (x : Refusal) → finished_from place f ≡ Err x → 0 < x.number
unfolding finished_from
finished-nine place f x e = by f.full e
  where
    by : (b : Bool) → cond b (Err (record { number = 9; place = place })) (Ok (totals_from f)) ≡ Err x
        → 0 < x.number
    by true z = let w : ◌≡◌ {A = ℕ} 9 x.number = cc in omega arith
    by false z = absurd (let w : ◌≡◌ {A = ℕ} 0 1 = cc in omega arith)

pub finish-named : (C : Counts) (s : SurfaceRows) (pending : List ℕ) (x : Refusal)
    → (surface_finish C s pending).answer.finished ≡ Err x → 0 < x.number
unfolding surface_finish finish_outcome seed_checked check_with
finish-named C s pending x e =
    by _ (then-numbered (heights-numbered _ C s) (numbered_more (omega arith) (check-numbered _ _ C _ _))) _ e
  where
    by : (c : Checked) → NumberedTo 10 c → (f : Finishing) → (finish_outcome C s.mesh pending c f).answer.finished ≡ Err x
        → 0 < x.number
    by (Ok tt) g f z = finished-nine 0 f x z
    by (Err y) g f z = same_number {x = x} g cc

pub run-named : (g : SurfaceRunLent) (x : Refusal) → (surface_run g).call.answer.finished ≡ Err x → 0 < x.number
unfolding surface_run surface_run_checked run_checked run_outcome
run-named g x e =
    by _ (then-numbered (heights-numbered _ _ _) (numbered_more (omega arith) (sweep-numbered _ _ _ _ _ _ _ _ _))) e
  where
    by : (c : Checked) → NumberedTo 10 c → (run_outcome g.run c).answer.finished ≡ Err x → 0 < x.number
    by (Ok tt) n z = finished-nine _ _ x z
    by (Err y) n z = same_number {x = x} n cc

-- so is a step
pub step-named : (C : Counts) (s : SurfaceRows) (ring : RingRows) (pending : List ℕ) (center : Point2) (v : Point) (z : ℤ) (x : Refusal)
    → (surface_step C s ring pending center v z).call.answer.stepped ≡ Err x → 0 < x.number
unfolding surface_step surface_step_checked step_checked step_outcome answer_from
step-named C s ring pending center v z x e =
    by _ (then-numbered (heights-numbered _ C s) (numbered_more (omega arith) (sweep-numbered _ _ C _ _ _ _ _ center))) _ e
  where
    nine : (t : Stepping) (b : Bool) → cond b (Err (record { number = 9; place = 0 })) (Ok (answer_of t)) ≡ Err x
        → 0 < x.number
    nine t true w = let w : ◌≡◌ {A = ℕ} 9 x.number = cc in omega arith
    nine t false w = absurd (let w : ◌≡◌ {A = ℕ} 0 1 = cc in omega arith)

    by : (c : Checked) → NumberedTo 10 c → (t : Stepping) → (step_outcome C s.mesh ring pending c t).answer.stepped ≡ Err x
        → 0 < x.number
    by (Ok tt) g t w = nine t t.mesh.full w
    by (Err y) g t w = same_number {x = x} g cc

-- asking
pub ask-named : (changes : ℕ) (C : Counts) (s : SurfaceRows) (ring : RingRows) (center : Point2) (v : Point) (z : ℤ) (x : Refusal)
    → (ask_of changes C s ring center v z).answer ≡ Err x → 0 < x.number
unfolding ask_of ask_outcome ask_checked
ask-named changes C s ring center v z x e =
    by _ (then-numbered (numbered_more (omega arith) (point-numbered _ C s center v z)) (changes-numbered changes)) e
  where
    by : (c : Checked) → NumberedTo 12 c → (ask_outcome c (quote_of changes C s.mesh center v z) s ring).answer ≡ Err x
        → 0 < x.number
    by (Ok tt) g w = absurd (let i : ◌≡◌ {A = ℕ} 0 1 = cc in omega arith)
    by (Err y) g w = same_number {x = x} g cc

-- and a commit: a number of the checks, or one of the step
pub commit-named : (changes : ℕ) (C : Counts) (s : SurfaceRows) (ring : RingRows) (pending : List ℕ) (center : Point2) (v : Point) (z : ℤ)
    (q : Quote) (x : Refusal)
    → (commit_of changes C s ring pending center v z q).step.call.answer.stepped ≡ Err x → 0 < x.number
unfolding commit_of commit_outcome commit_checked
commit-named changes C s ring pending center v z q x e =
    by _
    (then-numbered (subst (NumberedTo 12) (sym (step-point C s _ _ _ _ center v z)) (numbered_more (omega arith) (point-numbered _ C s center v z)))
    (then-numbered (quote-numbered q (quote_of changes C s.mesh center v z)) (changes-numbered changes))) e
  where
    by : (c : Checked) → NumberedTo 12 c
        → (commit_outcome changes C s ring pending c (surface_step C s ring pending center v z)).step.call.answer.stepped ≡ Err x
        → 0 < x.number
    by (Ok tt) g w = step-named C s ring pending center v z x w
    by (Err y) g w = same_number {x = x} g cc

-- ---- demand 3 and the heights, of a run's result
module _ (g : SurfaceRunLent) (r : RunResult) (changes : ℕ) (e : r ≡ run_result changes (surface_run g).call.answer) (z : r.refusal ≡ 0) where
  pub accepted-run : Demand3 g.run (surface_run g).call (reported r) × CarriedHeights g (surface_run g)
  accepted-run = by (surface_run g).call.answer.finished refl
    where
      ran : Finished → RunResult
      ran y = ran_with_changes changes (finished_result (surface_run g).call.answer.counts y)

      by : (f : Finished) → (surface_run g).call.answer.finished ≡ f
          → Demand3 g.run (surface_run g).call (reported r) × CarriedHeights g (surface_run g)
      by (Ok t) k =
          let same : reported r ≡ t = ap reported e ∙ ap (λ (y : Finished). reported (ran y)) k in
          (subst (λ (u : Totals). Demand3 g.run (surface_run g).call u) (sym same) (surface-demand-3 g t k), carried-heights g t k)
      by (Err x) k =
          let same = ap (λ (y : Finished). (ran y).refusal) k in
          let n : x.number ≡ 0 = sym (ap (λ (u : RunResult). u.refusal) e ∙ same) ∙ z in
          let m : 0 < x.number = run-named g x k in
          absurd (omega arith)
