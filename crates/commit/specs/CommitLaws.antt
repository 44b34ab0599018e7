-- A commit beside the step. One of a quote that was asked for on the same mesh is the step (`commit-fresh`); with any other quote, so after
-- any change of the count, it is refused 11 (`commit-stale`, `commit-late`), and at the count's end 12 (`commit-end`). An accepted one has
-- the quote's fate and faces (`commit-told`). A refusal other than 9 changes nothing (`commit-refused`). The count rises with the vertices
-- (`commit-counts`). Assumes nothing.
use Rattle.std.specs.Prelude.{Bool, true, false, List, ◌≢◌, ◌≡◌, ℕ, ◌+◌, ℤ, length, Ok, Err}
use Rattle.std.proofs.Math.Path.{refl}
use Rattle.std.proofs.Common.{sym, ◌∙◌, ap, arith, ne_eqb}
use Rattle.angle.specs.declared.Point2.{Point2}
use Rattle.ask.specs.Asked.{Asked}
use Rattle.ask.specs.Ask.{quote_from, quote_of, ask_of}
use Rattle.ask.proofs.AskLaws.{ask-quoted}
use Rattle.dcel.specs.MeshRows.{links_in, places_in}
use Rattle.decide.specs.Decide.{fate_number}
use Rattle.heights.specs.Heights.{SurfaceRows}
use Rattle.math.specs.declared.Point.{Point}
use Rattle.mesh.specs.declared.Counts.{Counts}
use Rattle.mesh_check.specs.Checked.{Checked}
use Rattle.mesh_check.specs.declared.Refusal.{Refusal}
use Rattle.mesh_check.specs.Check.{refused}
use Rattle.quote.specs.declared.Quote.{Quote}
use Rattle.quote.specs.Quote.{check_changes, last_change}
use Rattle.ring_rows.specs.RingRows.{RingRows}
use Rattle.sums.specs.Bit.{bit}
use Rattle.surface.specs.Surface.{SurfaceStepped, surface_step}
use Rattle.sweep.specs.declared.Answer.{Answer}
use Rattle.sweep.specs.declared.StepAnswer.{StepAnswer}
use Rattle.sweep.specs.Stepped.{Stepped}
use Rattle.sweep.specs.Step.{Stepping, answer_of, is_added}
use Rattle.sweep.specs.StepCall.{answer_from, step_checked}
use Rattle.sweep.proofs.StepCallLawsFacts.{step-fate, full-added, step_range, step-swept}
use Rattle.sweep.proofs.SweepLawsFacts.{step_count}
use Rattle.commit.specs.Commit.{is_counted, commit_changes, CommitOutcome, committed_with, nothing_done}
use Rattle.commit.specs.Commit.{commit_of}
use Rattle.commit.specs.CommitParts.{checks, commit-step, commit-quote, commit-none, commit-is, commit-table, stale-table, end-table, plus_none, counts_of}
use Rattle.commit.specs.QuoteAnswer.{step_checks, made, told, step-never, step-none, mesh-accepts, answer-is, answered, quote-answer}

-- ---- the commit beside the step
module _ (changes : ℕ) (C : Counts) (s : SurfaceRows) (ring : RingRows) (pending : List ℕ) (center : Point2) (v : Point) (z : ℤ) where
  -- A COMMIT OF A FRESH QUOTE IS THE STEP: of one that was asked for on the same mesh, refusals and all
  pub commit-fresh : (q : Quote) (ring' : RingRows) → (ask_of changes C s ring' center v z).answer ≡ Ok q
      → commit_of changes C s ring pending center v z q
      ≡ (let w = surface_step C s ring pending center v z in committed_with w (commit_changes changes w.call.answer.stepped))
  unfolding commit_changes is_counted
  commit-fresh q ring' a = go (step_checks C s ring pending center v z) refl
    where
      w : SurfaceStepped
      w = surface_step C s ring pending center v z

      fresh : (check_changes changes ≡ Ok tt) × (q ≡ quote_of changes C s.mesh center v z)
      fresh = ask-quoted changes C s ring' center v z q a

      go : (c : Checked) → step_checks C s ring pending center v z ≡ c
          → commit_of changes C s ring pending center v z q ≡ committed_with w (commit_changes changes w.call.answer.stepped)
      go (Ok tt) k = commit-is changes C s ring pending center v z q (commit-table changes C s _ _ _ _ center v z q fresh.1 fresh.0 ∙ k)
      go (Err r) k =
          let d = step-never C s ring pending center v z r k in
          commit-none changes C s ring pending center v z q (commit-table changes C s _ _ _ _ center v z q fresh.1 fresh.0 ∙ k)
          ∙ rw (step-none C s ring pending center v z k, ne_eqb r.number 9 d) (ap (committed_with _) (plus_none changes))

  module _ (accepted : step_checks C s ring pending center v z ≡ Ok tt) (q : Quote) where
    -- with any other quote it is refused 11
    pub commit-stale : q ≢ quote_of changes C s.mesh center v z
        → commit_of changes C s ring pending center v z q
        ≡ nothing_done changes C s ring pending (Err (record { number = 11; place = 0 }))
    commit-stale d = commit-none changes C s ring pending center v z q (stale-table changes C s _ _ _ _ center v z q accepted d)

    -- so after any change of the count
    pub commit-late : q.changes ≢ changes
        → commit_of changes C s ring pending center v z q
        ≡ nothing_done changes C s ring pending (Err (record { number = 11; place = 0 }))
    unfolding quote_of quote_from
    commit-late d = commit-stale (λ e. d (ap (λ (p : Quote). p.changes) e))

    -- and at the count's end 12, whatever the fate
    pub commit-end : changes ≡ last_change → q ≡ quote_of changes C s.mesh center v z
        → commit_of changes C s ring pending center v z q
        ≡ nothing_done changes C s ring pending (Err (record { number = 12; place = 0 }))
    commit-end e k = commit-none changes C s ring pending center v z q (end-table changes C s _ _ _ _ center v z q accepted k e)

  module _ (q : Quote) where
    -- WHAT WAS QUOTED IS WHAT IS DONE: an accepted commit's answer has the fate and the faces of its quote
    pub commit-told : (x : Answer) → (commit_of changes C s ring pending center v z q).step.call.answer.stepped ≡ Ok x
        → (q.fate ≡ fate_number x.fate) × (q.faces ≡ x.faces)
    commit-told x e = go (checks changes C s ring pending center v z q) refl
      where
        go : (c : Checked) → checks changes C s ring pending center v z q ≡ c → (q.fate ≡ fate_number x.fate) × (q.faces ≡ x.faces)
        go (Err r) k =
            let w : Err r ≡ Ok x
            = ap (λ (y : CommitOutcome). y.step.call.answer.stepped) (sym (commit-none changes C s ring pending center v z q k)) ∙ e in
            absurd (let i : ◌≡◌ {A = ℕ} 0 1 = cc in omega arith)
        go (Ok tt) k =
            let same = commit-quote changes C s _ _ _ _ center v z q k in
            let w = quote-answer C s ring pending center v z changes x
            (ap (λ (y : CommitOutcome). y.step.call.answer.stepped) (sym (commit-is changes C s ring pending center v z q k)) ∙ e) in
            (ap (λ (p : Quote). p.fate) same ∙ w.0, ap (λ (p : Quote). p.faces) same ∙ w.1)

    -- A REFUSED COMMIT OTHER THAN 9 CHANGES NOTHING, the count neither
    pub commit-refused : (r : Refusal) → (commit_of changes C s ring pending center v z q).step.call.answer.stepped ≡ Err r
        → r.number ≢ 9 → commit_of changes C s ring pending center v z q ≡ nothing_done changes C s ring pending (Err r)
    commit-refused r e d = go (checks changes C s ring pending center v z q) refl
      where
        go : (c : Checked) → checks changes C s ring pending center v z q ≡ c
            → commit_of changes C s ring pending center v z q ≡ nothing_done changes C s ring pending (Err r)
        go (Err x) k =
            let n = commit-none changes C s ring pending center v z q k in
            let w : Err x ≡ Err r = ap (λ (y : CommitOutcome). y.step.call.answer.stepped) (sym n) ∙ e in
            n ∙ ap (nothing_done changes C s ring pending) w
        go (Ok tt) k = absurd (by (made C s ring pending center v z).mesh.full refl)
          where
            K : step_checks C s ring pending center v z ≡ Ok tt
            K = commit-step changes C s _ _ _ _ center v z q k

            answer : (answer_from 0 (made C s ring pending center v z)).stepped ≡ Err r
            answer =
                ap (λ (y : StepAnswer). y.stepped) (sym (answer-is C s ring pending center v z K))
                ∙ ap (λ (y : CommitOutcome). y.step.call.answer.stepped) (sym (commit-is changes C s ring pending center v z q k)) ∙ e

            by : (b : Bool) → (made C s ring pending center v z).mesh.full ≡ b → ⊥
            by true f =
                let u : Err (record { number = 9; place = 0 }) ≡ Err r
                = sym (answered C s ring pending center v z true f) ∙ answer in
                d (let i : ◌≡◌ {A = ℕ} r.number 9 = cc in i)
            by false f =
                let u : Ok (answer_of (made C s ring pending center v z)) ≡ Err r
                = sym (answered C s ring pending center v z false f) ∙ answer in
                let i : ◌≡◌ {A = ℕ} 0 1 = cc in
                omega arith

    -- the count rises as the vertices do: by one with each commit that adds a vertex or is refused 9
    pub commit-counts : (commit_of changes C s ring pending center v z q).changes + C.vertices
        ≡ changes + (commit_of changes C s ring pending center v z q).step.call.answer.counts.vertices
    unfolding commit_changes is_counted
    commit-counts = go (checks changes C s ring pending center v z q) refl
      where
        t : Stepping
        t = made C s ring pending center v z

        go : (c : Checked) → checks changes C s ring pending center v z q ≡ c
            → (commit_of changes C s ring pending center v z q).changes + C.vertices
            ≡ changes + (commit_of changes C s ring pending center v z q).step.call.answer.counts.vertices
        go (Err x) k = rw (commit-none changes C s ring pending center v z q k) refl
        go (Ok tt) k = rw (commit-is changes C s ring pending center v z q k, answer-is C s ring pending center v z K) (by t.mesh.full refl)
          where
            K : step_checks C s ring pending center v z ≡ Ok tt
            K = commit-step changes C s _ _ _ _ center v z q k

            M : step_checked C s.mesh (length ring.nodes) (length ring.freed) (length ring.buckets) (length pending) center v ≡ Ok tt
            M = mesh-accepts C s ring pending center v z K

            more : t.mesh.counts.vertices ≡ C.vertices + bit (is_added t.fate)
            more =
                step_count (step-swept C s.mesh ring pending center v M) (step_range C s.mesh ring pending center v M) (length pending)

            fate : t.fate ≡ (told C s ring pending center v z).fate
            fate = step-fate (length pending) center.x center.y C (links_in s.mesh) (places_in s.mesh) v

            by : (b : Bool) → t.mesh.full ≡ b
                → changes + bit (is_counted (answer_from 0 t).stepped) + C.vertices ≡ changes + (answer_from 0 t).counts.vertices
            by true f =
                let a = ap is_added fate ∙ full-added (length pending) center.x center.y C (links_in s.mesh) (places_in s.mesh) v f in
                let m = rw a at more in
                rw (answered C s ring pending center v z true f, counts_of t) (omega arith)
            by false f =
                let m = more in
                rw (answered C s ring pending center v z false f, counts_of t) (omega arith)
