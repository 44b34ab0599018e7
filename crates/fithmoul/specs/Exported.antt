-- From the contracts of a call's parts to that of the export. Heights refuse: the call is refused and nothing has changed. They do not:
-- the call on the mesh alone is made, whose contract says that an outcome `x`, which a definition gives, is made of the call's answer `y`
-- and the rows; the export's result `r` is `y` in numbers, and `w` is the outcome with heights. So `r` is the answer of `w` in numbers,
-- and the rows are those of `w`. Assumes nothing.
use Rattle.std.specs.Prelude.{List, ◌≡◌, refl, ℕ, ℤ}
use Rattle.std.proofs.Common.{sym, ◌∙◌, ap, ap₂}
use Rattle.ask.specs.Asked.{Asked}
use Rattle.ask.specs.Ask.{AskOutcome, asked_with}
use Rattle.bulk_load.specs.declared.BulkLoadAnswer.{BulkLoadAnswer}
use Rattle.bulk_load.specs.BulkLoad.{BulkLoadOutcome, loaded_with}
use Rattle.commit.specs.Commit.{CommitOutcome, committed_with, run_changes}
use Rattle.dcel.specs.MeshRows.{MeshRows}
use Rattle.finish.specs.declared.FinishAnswer.{FinishAnswer}
use Rattle.finish.specs.Finish.{FinishOutcome, finished_with}
use Rattle.heights.specs.Heights.{SurfaceRows}
use Rattle.locate.specs.Located.{Located}
use Rattle.locate.specs.Locate.{LocateOutcome, located_with}
use Rattle.ring_rows.specs.RingRows.{RingRows}
use Rattle.surface.specs.Surface.{SurfaceStepped, surface_stepped, SurfaceRan, surface_ran}
use Rattle.sweep.specs.declared.StepAnswer.{StepAnswer}
use Rattle.sweep.specs.Run.{RunOutcome, ran_with}
use Rattle.sweep.specs.StepCall.{StepOutcome, stepped_with}
use Rattle.fithmoul.specs.declared.results.AskResult.{AskResult}
use Rattle.fithmoul.specs.declared.results.BulkLoadResult.{BulkLoadResult}
use Rattle.fithmoul.specs.declared.results.CommitResult.{CommitResult}
use Rattle.fithmoul.specs.declared.results.FinishResult.{FinishResult}
use Rattle.fithmoul.specs.declared.results.LocateResult.{LocateResult}
use Rattle.fithmoul.specs.declared.results.RunResult.{RunResult}
use Rattle.fithmoul.specs.declared.results.StepResult.{StepResult}
use Rattle.fithmoul.specs.Results.{locate_result, step_result, finish_result, run_result, ask_result, commit_result, bulk_load_result}

-- for every type of answer, result and outcome
exported : {A R X : Type 0} (answer : X → A) (make : A → X) → ((y : A) → answer (make y) ≡ y) → (number : A → R)
    → {x : X} {y : A} {r : R} → make y ≡ x → r ≡ number y → (r ≡ number (answer x)) × (make (answer x) ≡ x)
exported answer make same number {x} {y} e z =
    let a : y ≡ answer x = sym (same y) ∙ ap answer e in
    (z ∙ ap number a, ap make (sym a) ∙ e)

pub locate-exported : {g : RingRows} {x : LocateOutcome} {y : Located} {r : LocateResult} → located_with y g ≡ x → r ≡ locate_result y
    → (r ≡ locate_result x.answer) × (located_with x.answer g ≡ x)
locate-exported {g} e z = exported (λ (x : LocateOutcome). x.answer) (λ (y : Located). located_with y g) (λ y. refl) locate_result e z

pub finish-exported : {m : MeshRows} {p : List ℕ} {x : FinishOutcome} {y : FinishAnswer} {r : FinishResult}
    → finished_with y m p ≡ x → r ≡ finish_result y → (r ≡ finish_result x.answer) × (finished_with x.answer m p ≡ x)
finish-exported {m} {p} e z = exported (λ (x : FinishOutcome). x.answer) (λ (y : FinishAnswer). finished_with y m p) (λ y. refl) finish_result e z

-- a step and a run leave heights besides
pub step-exported : {m : MeshRows} {g : RingRows} {p : List ℕ} {row : List ℤ} {w : SurfaceStepped} {y : StepAnswer} {r : StepResult}
    → surface_stepped (stepped_with y m g p) row ≡ w → r ≡ step_result y
    → (r ≡ step_result w.call.answer) × (surface_stepped (stepped_with w.call.answer m g p) row ≡ w)
step-exported {m} {g} {p} {row} e z =
    exported (λ (w : SurfaceStepped). w.call.answer) (λ (y : StepAnswer). surface_stepped (stepped_with y m g p) row) (λ y. refl) step_result e z

pub run-exported : {m : MeshRows} {g : RingRows} {p a : List ℕ} {row : List ℤ} {w : SurfaceRan} {y : FinishAnswer} {r : RunResult}
    (changes : ℕ) → surface_ran (ran_with y m g p a) row ≡ w → r ≡ run_result (run_changes changes y.finished) y
    → (r ≡ run_result (run_changes changes w.call.answer.finished) w.call.answer)
    × (surface_ran (ran_with w.call.answer m g p a) row ≡ w)
run-exported {m} {g} {p} {a} {row} changes e z =
    exported (λ (w : SurfaceRan). w.call.answer) (λ (y : FinishAnswer). surface_ran (ran_with y m g p a) row) (λ y. refl)
    (λ (y : FinishAnswer). run_result (run_changes changes y.finished) y) e z

-- a bulk load
pub load-exported : {m : MeshRows} {hs : List ℤ} {g : RingRows} {p a : List ℕ} {w : BulkLoadOutcome} {y : BulkLoadAnswer} {r : BulkLoadResult}
    → loaded_with y m hs g p a ≡ w → r ≡ bulk_load_result y → (r ≡ bulk_load_result w.answer) × (loaded_with w.answer m hs g p a ≡ w)
load-exported {m} {hs} {g} {p} {a} e z =
    exported (λ (w : BulkLoadOutcome). w.answer) (λ (y : BulkLoadAnswer). loaded_with y m hs g p a) (λ y. refl) bulk_load_result e z

-- asking leaves the mesh and the heights
pub ask-exported : {s : SurfaceRows} {g : RingRows} {x : AskOutcome} {y : Asked} {r : AskResult} → asked_with y s g ≡ x → r ≡ ask_result y
    → (r ≡ ask_result x.answer) × (asked_with x.answer s g ≡ x)
ask-exported {s} {g} e z = exported (λ (x : AskOutcome). x.answer) (λ (y : Asked). asked_with y s g) (λ y. refl) ask_result e z

-- a commit has the change count besides
pub commit-exported : {m : MeshRows} {g : RingRows} {p : List ℕ} {row : List ℤ} {n : ℕ} {w : CommitOutcome} {y : StepAnswer}
    {r : CommitResult} → committed_with (surface_stepped (stepped_with y m g p) row) n ≡ w → r ≡ commit_result n y
    → (r ≡ commit_result w.changes w.step.call.answer)
    × (committed_with (surface_stepped (stepped_with w.step.call.answer m g p) row) w.changes ≡ w)
commit-exported {m} {g} {p} {row} {n} {w} {y} e z =
    let a : y ≡ w.step.call.answer = ap (λ (x : CommitOutcome). x.step.call.answer) e in
    let b : n ≡ w.changes = ap (λ (x : CommitOutcome). x.changes) e in (
      z ∙ ap₂ commit_result b a,
      ap₂ (λ (k : ℕ) (x : StepAnswer). committed_with (surface_stepped (stepped_with x m g p) row) k) (sym b) (sym a) ∙ e,
    )

-- from the call on the mesh alone and the row of heights
pub step-whole : {w : SurfaceStepped} {x y : StepOutcome} {row : List ℤ} → w.call ≡ x → y ≡ x → w.heights ≡ row → surface_stepped y row ≡ w
step-whole a b c = ap₂ surface_stepped (b ∙ sym a) (sym c)

pub run-whole : {w : SurfaceRan} {x y : RunOutcome} {row : List ℤ} → w.call ≡ x → y ≡ x → w.heights ≡ row → surface_ran y row ≡ w
run-whole a b c = ap₂ surface_ran (b ∙ sym a) (sym c)
