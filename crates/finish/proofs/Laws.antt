-- What the calls ensure, one after another, as the definitions of a finish have it. Assumes nothing.
use Rattle.std.specs.Prelude.{Ok, Err}
use mathlib.Core.Bool.{true, false}
use mathlib.Core.List.{List}
use mathlib.Core.Path.{◌≡◌, refl, sym, ◌∙◌, ap, subst}
use Prim.Native.Nat.{ℕ, ◌+◌, ◌*◌, ◌^◌, ◌<◌, ◌≤◌}
use native.Mathlib.Omega.{arith}
use lib.IntN.{ℤ}
use lib.ListN.{length, replicate}
use Rattle.corner.specs.declared.Extension.{Extension}
use Rattle.corner.specs.Corner.{Extended}
use Rattle.corner.specs.CornerRows.{extended_of}
use Rattle.circle_test.specs.GoodRows.{GoodRows}
use Rattle.closing.specs.Closing.{closing_pass}
use Rattle.closing.specs.ClosingRows.{closing_of}
use Rattle.convexity.specs.Convexity.{convexity}
use Rattle.convexity.proofs.ConvexityLawsFacts.{convexity-good, convexity-counts}
use Rattle.convexity.specs.ConvexityRows.{MeshReady}
use Rattle.dcel.specs.MeshRows.{MeshRows, mesh_rows, links_in, places_in}
use Rattle.dcel.specs.Rows.{links_of, position_of}
use Rattle.dcel.specs.Views.{mesh-rows-from}
use Rattle.mesh.specs.declared.Counts.{Counts}
use Rattle.mesh.proofs.CountsLaws.{count-edges, count-faces}
use Rattle.mesh.specs.Good.{Good}
use Rattle.mesh_check.specs.Checked.{Checked}
use Rattle.mesh_check.specs.declared.Refusal.{Refusal}
use Rattle.finish.specs.declared.FinishAnswer.{FinishAnswer}
use Rattle.finish.specs.declared.Ended.{Ended}
use Rattle.finish.specs.Finished.{Finished}
use Rattle.finish.specs.Finish.{close_after, finish_mesh, totals_from, finished_from, finished_with, finish_outcome, seed_checked, finish_of}
use Rattle.finish.specs.FinishRows.{finishing_of}

-- ---- the answer
module _ (r : Ended) (place : ℕ) (o h a : List ℕ) where
  pub answer-full : r.full ≡ true → ◌≡◌ {A = FinishAnswer} (record { counts = r.counts; finished = Err (record { number = 9; place = place }) }) (record { counts = r.counts; finished = finished_from place (finishing_of o h a r) })
  unfolding finished_from finishing_of
  answer-full e = rw e

  pub answer-done : r.full ≡ false
      → ◌≡◌ {A = FinishAnswer} (record { counts = r.counts; finished = Ok r.totals }) (record { counts = r.counts; finished = finished_from place (finishing_of o h a r) })
  unfolding finished_from totals_from finishing_of
  answer-done e = rw e refl

-- ---- the passes
module _ {q : List ℤ} {o h a row : List ℕ} {C : Counts} (R : MeshReady q o h a row C) (o₁ h₁ a₁ : List ℕ) (r : Extension)
    (e : extended_of o₁ h₁ a₁ r ≡ convexity (length row) C (position_of q) (links_of o h a)) where
  -- refused a flip
  pub passes-full : r.full ≡ true
      → finishing_of o₁ h₁ a₁ (record { counts = r.counts; totals = record { faces = r.faces; convexflips = r.flips; closingflips = 0 }; full = true }) ≡ finish_mesh (length row) C (position_of q) (links_of o h a)
  unfolding finish_mesh close_after finishing_of extended_of
  passes-full f = rw (← e, f) refl

  -- what the closing pass asks
  pub passes-rows : length o₁ ≡ length o → length h₁ ≡ length h → length a₁ ≡ length a → GoodRows r.counts q o₁ h₁ a₁ × (r.counts.faces ≤ 2 ^ 25)
  unfolding extended_of
  passes-rows x y z =
      let G : Good r.counts (links_of o₁ h₁ a₁) (position_of q) = subst (λ (v : Extended). Good v.counts v.links (position_of q)) (sym e) (convexity-good (length row) C (position_of q) (links_of o h a) R.rows.good) in
      let c = ap (λ (v : Extended). v.counts.vertices) e ∙ ap (λ (K : Counts). K.vertices) (convexity-counts (length row) C (position_of q) (links_of o h a) R.rows.good) in
      let s = R.sized in
      let n = R.rows.room in
      let u = count-edges G.wf in
      let w = count-faces G.wf in
      (record { room = record { outs = omega arith; halves = omega arith; faces = omega arith; small = omega arith }; positions = let t = R.rows.positions in omega arith; good = G }, omega arith)

  pub passes-closed : (o₂ h₂ a₂ : List ℕ) (k : ℕ) → closing_of o₂ h₂ a₂ k ≡ closing_pass r.counts (position_of q) (links_of o₁ h₁ a₁) → r.full ≡ false
      → finishing_of o₂ h₂ a₂ (record { counts = r.counts; totals = record { faces = r.faces; convexflips = r.flips; closingflips = k }; full = false }) ≡ finish_mesh (length row) C (position_of q) (links_of o h a)
  unfolding finish_mesh close_after finishing_of extended_of closing_of
  passes-closed o₂ h₂ a₂ k d f = rw (← e, f, ← d) refl

-- ---- the call
module _ (C : Counts) (m : MeshRows) (pending : List ℕ) where
  pub refused-outcome : (x : Refusal) → Err x ≡ seed_checked C m pending
      → finished_with (record { counts = C; finished = Err x }) m pending ≡ finish_of C m pending
  unfolding finish_of finish_outcome
  refused-outcome x e = rw (← e) refl

  outcome-is : {x x' : FinishAnswer} {m₁ m₂ : MeshRows} {p₁ p₂ : List ℕ} → x ≡ x' → m₁ ≡ m₂ → p₁ ≡ p₂
      → finished_with x m₁ p₁ ≡ finished_with x' m₂ p₂
  outcome-is a b c = rw (a, b, c) refl

  pub accepted-outcome : (Ok tt) ≡ seed_checked C m pending → (o h a pending' : List ℕ) (r : Ended) (x : FinishAnswer)
      → finishing_of o h a r ≡ finish_mesh (length pending) C (places_in m) (links_in m)
      → length o ≡ length m.outs → length h ≡ length m.halves → length a ≡ length m.faces → pending' ≡ replicate (length pending) 0
      → x ≡ record { counts = r.counts; finished = finished_from 0 (finishing_of o h a r) }
      → finished_with x (mesh_rows m.positions o h a) pending' ≡ finish_of C m pending
  unfolding finish_of finish_outcome finishing_of
  accepted-outcome e o h a pending' r x d i j k z y =
      rw (← e, ← d) (outcome-is y (mesh-rows-from (record { positions = refl; outs = i; halves = j; faces = k }) refl refl) z)
