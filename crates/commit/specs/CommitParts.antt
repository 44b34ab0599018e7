-- The table of a commit as its parts meet it, what an accepted commit has, and the call by its parts. Assumes nothing.
use Rattle.std.specs.Prelude.{Bool, false, List, [], ◌∷◌, ◌≢◌, ◌≡◌, ℕ, ◌+◌, ◌<◌, ◌^◌, ℤ, length, Ok, Err}
use Rattle.std.proofs.Math.Path.{refl}
use Rattle.std.proofs.Common.{sym, ◌∙◌, ap, arith}
use Rattle.angle.specs.declared.Point2.{Point2}
use Rattle.ask.specs.Ask.{quote_from, quote_of, point_checked}
use Rattle.heights.specs.Heights.{SurfaceRows, height_of, heights_in, heights_lent, heights_checked, heights_tested}
use Rattle.heights.proofs.HeightsLaws.{checked-tested}
use Rattle.math.specs.declared.Point.{Point}
use Rattle.mesh.specs.declared.Counts.{Counts}
use Rattle.mesh_check.specs.Checked.{Checked}
use Rattle.mesh_check.specs.declared.Refusal.{Refusal}
use Rattle.mesh_check.specs.Check.{refused, and_then, point_count, vertex_count}
use Rattle.mesh_check.proofs.CheckLawsFacts.{then_next, then-refused, then-accepts}
use Rattle.quote.specs.declared.Quote.{Quote}
use Rattle.quote.specs.Quote.{check_quote, check_changes, last_change}
use Rattle.quote.specs.QuoteLaws.{quote-fresh, quote-stale, quote-accepted, changes-at-end, changes-accepted}
use Rattle.ring_rows.specs.RingRows.{RingRows}
use Rattle.start.specs.Start.{point_row, sweep_rows_short, sweep_checked}
use Rattle.start.specs.StartLaws.{AcceptedSweep, sweep-accepts}
use Rattle.surface.specs.StoredHeights.{height_stored}
use Rattle.surface.specs.Surface.{SurfaceStepped, surface_stepped, surface_step_checked, surface_step}
use Rattle.surface.proofs.SurfaceLawsFacts.{step_room, step-own, step-heights}
use Rattle.sweep.specs.Stepped.{Stepped}
use Rattle.sweep.specs.Step.{Stepping}
use Rattle.sweep.specs.StepCall.{StepOutcome, answer_from, step_checked, step_of}
use Rattle.commit.specs.Commit.{commit_checked, commit_changes, committed_with, nothing_done}
use Rattle.commit.specs.Commit.{commit_outcome, commit_of}

-- ---- the checks
module _ (C : Counts) (s : SurfaceRows) (nodes freed buckets pending : ℕ) (center : Point2) (v : Point) (z : ℤ) where
  -- a step's, by the lengths for one vertex more
  pub step-point : surface_step_checked C s nodes freed buckets pending center v z
      ≡ point_checked (sweep_rows_short false (C.vertices + 1) nodes freed buckets pending) C s center v z
  unfolding surface_step_checked step_checked sweep_checked point_checked vertex_count point_count
  step-point = refl

  module _ (changes : ℕ) (q : Quote) {short : Bool} (short-is : short ≡ sweep_rows_short false (C.vertices + 1) nodes freed buckets pending) where
    pub commit-point-refused : {r : Refusal} → point_checked short C s center v z ≡ Err r
        → commit_checked changes C s nodes freed buckets pending center v z q ≡ Err r
    unfolding commit_checked
    commit-point-refused e = then-refused _ (step-point ∙ rw short-is at e)

    pub commit-point-accepted : point_checked short C s center v z ≡ Ok tt
        → {present : Quote} → present ≡ quote_of changes C s.mesh center v z
        → commit_checked changes C s nodes freed buckets pending center v z q
        ≡ and_then (check_quote q present) (check_changes present.changes)
    unfolding commit_checked quote_of quote_from
    commit-point-accepted e {present} p = then_next _ (step-point ∙ rw short-is at e) ∙ rw p refl

-- ---- what is accepted
module _ (changes : ℕ) (C : Counts) (s : SurfaceRows) (nodes freed buckets pending : ℕ) (center : Point2) (v : Point) (z : ℤ) (q : Quote)
    (e : commit_checked changes C s nodes freed buckets pending center v z q ≡ Ok tt) where
  parts : (surface_step_checked C s nodes freed buckets pending center v z ≡ Ok tt)
      × (and_then (check_quote q (quote_of changes C s.mesh center v z)) (check_changes changes) ≡ Ok tt)
  unfolding commit_checked
  parts = then-accepts _ _ e

  -- a step's checks accept,
  pub commit-step : surface_step_checked C s nodes freed buckets pending center v z ≡ Ok tt
  commit-step = parts.0

  -- the quote is the one that asking gives now,
  pub commit-quote : q ≡ quote_of changes C s.mesh center v z
  commit-quote = quote-accepted (then-accepts _ (check_changes changes) parts.1).0

  -- and the count is not at its end
  pub commit-not-at-end : changes ≢ last_change
  commit-not-at-end = changes-accepted (then-accepts (check_quote q (quote_of changes C s.mesh center v z)) _ parts.1).1

  -- so it can rise
  pub commit-below : changes < 2 ^ 32 → changes < last_change
  commit-below l = let d = commit-not-at-end in omega arith

  own : (heights_checked (heights_lent (point_row v) (z ∷ []) (sweep_rows_short false (vertex_count C (point_row v)) nodes freed buckets pending) false) C s
      ≡ Ok tt) × (step_checked C s.mesh nodes freed buckets pending center v ≡ Ok tt)
  unfolding surface_step_checked
  own = then-accepts _ _ commit-step

  pub commit-own : step_checked C s.mesh nodes freed buckets pending center v ≡ Ok tt
  commit-own = own.1

  pub commit-sweep : AcceptedSweep (point_row v) false C s.mesh nodes freed buckets pending center
  unfolding step_checked
  commit-sweep = sweep-accepts commit-own

  pub commit-heights :
      heights_tested (heights_lent (point_row v) (z ∷ []) (sweep_rows_short false (vertex_count C (point_row v)) nodes freed buckets pending) false) C s
      ≡ Ok tt
  commit-heights = checked-tested _ C s own.0

  pub commit-room : C.vertices < length s.heights
  commit-room = step_room v z _ C s commit-heights

-- ---- the call
module _ (changes : ℕ) (C : Counts) (s : SurfaceRows) (ring : RingRows) (pending : List ℕ) (center : Point2) (v : Point) (z : ℤ) (q : Quote)
  where
    abbrev pub checks : Checked
    checks = commit_checked changes C s (length ring.nodes) (length ring.freed) (length ring.buckets) (length pending) center v z q

    abbrev step : SurfaceStepped
    step = surface_step C s ring pending center v z

    pub commit-none : {r : Refusal} → checks ≡ Err r
        → commit_of changes C s ring pending center v z q ≡ nothing_done changes C s ring pending (Err r)
    unfolding commit_of commit_outcome
    commit-none e = rw e refl

    pub commit-is : checks ≡ Ok tt
        → commit_of changes C s ring pending center v z q
        ≡ (let w = surface_step C s ring pending center v z in committed_with w (commit_changes changes w.call.answer.stepped))
    unfolding commit_of commit_outcome
    commit-is e = rw e refl

    -- by the call on the mesh alone, and the row of heights
    pub commit-made : checks ≡ Ok tt → {y : StepOutcome} → y ≡ step_of C s.mesh ring pending center v
        → (row : List ℤ) → length row ≡ length s.heights
        → height_of row ≡ height_stored (heights_in s) C.vertices y.answer.counts.vertices z
        → committed_with (surface_stepped y row) (commit_changes changes y.answer.stepped) ≡ commit_of changes C s ring pending center v z q
    commit-made e {y} k row l h =
        let t = commit-heights changes C s _ _ _ _ center v z q e in
        let own = step-own C s ring pending center v z t in
        let whole : surface_stepped y row ≡ step = rw (
          k ∙ sym own,
          sym (step-heights C s ring pending center v z t y.answer (ap (λ (x : StepOutcome). x.answer) (sym k)) row l h),
        ) refl in
        ap (λ (w : SurfaceStepped). committed_with w (commit_changes changes w.call.answer.stepped)) whole ∙ sym (commit-is e)

-- ---- the table by its last rows
module _ (changes : ℕ) (C : Counts) (s : SurfaceRows) (nodes freed buckets pending : ℕ) (center : Point2) (v : Point) (z : ℤ) (q : Quote)
  where
    -- a step's own, where the quote is the present one and the count not at its end
    pub commit-table : q ≡ quote_of changes C s.mesh center v z → check_changes changes ≡ Ok tt
        → commit_checked changes C s nodes freed buckets pending center v z q
        ≡ surface_step_checked C s nodes freed buckets pending center v z
    unfolding commit_checked and_then
    commit-table e k = rw (e, quote-fresh (quote_of changes C s.mesh center v z), k) (alone _)
      where
        alone : (c : Checked) → and_then c (Ok tt) ≡ c
        alone (Ok tt) = refl
        alone (Err r) = refl

    pub stale-table : surface_step_checked C s nodes freed buckets pending center v z ≡ Ok tt → q ≢ quote_of changes C s.mesh center v z
        → commit_checked changes C s nodes freed buckets pending center v z q ≡ refused 11 0
    unfolding commit_checked
    stale-table e d = then_next _ e ∙ then-refused (check_changes changes) (quote-stale d)

    pub end-table : surface_step_checked C s nodes freed buckets pending center v z ≡ Ok tt → q ≡ quote_of changes C s.mesh center v z
        → changes ≡ last_change → commit_checked changes C s nodes freed buckets pending center v z q ≡ refused 12 0
    unfolding commit_checked
    end-table e k l = then_next _ e ∙ rw k (then_next _ (quote-fresh (quote_of changes C s.mesh center v z))) ∙ changes-at-end l

pub plus_none : (n : ℕ) → n ≡ n + 0
plus_none n = omega arith

pub counts_of : (t : Stepping) → (answer_from 0 t).counts ≡ t.mesh.counts
unfolding answer_from
counts_of t = refl
