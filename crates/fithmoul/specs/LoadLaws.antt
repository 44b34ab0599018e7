-- What a bulk load's result means for a caller who has its numbers: demand 3 with an empty seed and the heights, or a line. Assumes nothing.
use Rattle.std.specs.Prelude.{Bool, true, false, ◌≡◌, refl, ℕ, ◌<◌, Ok, Err}
use Rattle.std.proofs.Common.{sym, ◌∙◌, ap, subst, arith}
use Rattle.std.proofs.Math.Path.{subst⁻¹}
use Rattle.bulk_load.specs.declared.BulkLoadAnswer.{BulkLoadAnswer}
use Rattle.bulk_load.specs.BulkLoad.{BulkLoadLent, BulkLoadOutcome, loaded_with, bulk_load_of}
use Rattle.bulk_load.specs.Demand3.{LineLoaded, LoadFinished}
use Rattle.bulk_load.proofs.LoadLaws.{bulk-loaded}
use Rattle.bulk_load.proofs.Named.{load-named}
use Rattle.dcel.specs.MeshRows.{MeshRows}
use Rattle.finish.specs.Finished.{Finished}
use Rattle.finish.specs.declared.Totals.{Totals}
use Rattle.mesh_check.specs.declared.Refusal.{Refusal}
use Rattle.sums.specs.Bit.{bit}
use Rattle.fithmoul.specs.declared.results.BulkLoadResult.{BulkLoadResult}
use Rattle.fithmoul.specs.declared.results.FinishResult.{FinishResult}
use Rattle.fithmoul.specs.Results.{finished_result, loaded_result, bulk_load_result, load_reported}

-- the mark, as it is worked out
pub load-marked : (line : Bool) (x : FinishResult) {m : ℕ} → m ≡ bit line
    → ◌≡◌ {A = BulkLoadResult} (record {
      refusal = x.refusal;
      place = x.place;
      vertices = x.vertices;
      edges = x.edges;
      faces = x.faces;
      changes = 0;
      line = m;
      faces_added = x.faces_added;
      convex_flips = x.convex_flips;
      closing_flips = x.closing_flips;
    }) (loaded_result line x)
load-marked line x e = rw e refl

module _ (l : BulkLoadLent) (r : BulkLoadResult) (e : r ≡ bulk_load_result (bulk_load_of l).answer) where
  abbrev w : BulkLoadOutcome
  w = bulk_load_of l

  mark : r.line ≡ bit w.answer.line
  mark = ap (λ (x : BulkLoadResult). x.line) e

  not_line : r.line ≡ 0 → w.answer.line ≡ false
  not_line z = go w.answer.line refl
    where
      go : (b : Bool) → w.answer.line ≡ b → w.answer.line ≡ false
      go false q = q
      go true q = absurd (let m = mark in let n = ap bit q in omega arith)

  is-line : r.line ≡ 1 → w.answer.line ≡ true
  is-line z = go w.answer.line refl
    where
      go : (b : Bool) → w.answer.line ≡ b → w.answer.line ≡ true
      go true q = q
      go false q = absurd (let m = mark in let n = ap bit q in omega arith)

  pub accepted-load : r.refusal ≡ 0 → r.line ≡ 0 → LoadFinished l (bulk_load_of l) (load_reported r)
  accepted-load z y = by w.answer.finish.finished refl
    where
      told : Finished → BulkLoadResult
      told f = loaded_result w.answer.line (finished_result w.answer.finish.counts f)

      by : (f : Finished) → w.answer.finish.finished ≡ f → LoadFinished l (bulk_load_of l) (load_reported r)
      by (Ok t) k =
          let same : load_reported r ≡ t = ap load_reported e ∙ ap (λ (f : Finished). load_reported (told f)) k in
          subst (λ (u : Totals). LoadFinished l (bulk_load_of l) u) (sym same) ((bulk-loaded l (bulk_load_of l) refl).finished t k (not_line y))
      by (Err x) k =
          let same = ap (λ (f : Finished). (told f).refusal) k in
          let n : x.number ≡ 0 = sym (ap (λ (u : BulkLoadResult). u.refusal) e ∙ same) ∙ z in
          let m : 0 < x.number = load-named l x k in
          absurd (omega arith)

  pub lined-load : r.line ≡ 1 → LineLoaded l (bulk_load_of l)
  lined-load y = (bulk-loaded l (bulk_load_of l) refl).lined (is-line y)
