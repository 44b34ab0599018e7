-- No refusal of a bulk load has the number 0. Assumes nothing.
use Rattle.std.specs.Prelude.{Bool, true, false, cond, refl, ℕ, ◌<◌, Ok, Err}
use Rattle.std.proofs.Math.Path.{◌≡◌}
use Rattle.std.proofs.Common.{sym, ◌∙◌, ap, subst}
use native.Mathlib.Omega.{arith}
use Rattle.finish.specs.Finished.{Finished}
use Rattle.finish.specs.Finish.{Finishing, finish_mesh, totals_from, finished_from}
use Rattle.mesh_check.specs.Checked.{Checked}
use Rattle.mesh_check.specs.declared.Refusal.{Refusal}
use Rattle.mesh_check.specs.CheckLaws.{NumberedTo}
use Rattle.mesh_check.proofs.CheckLawsFacts.{numbered-at}
use Rattle.sweep.specs.Run.{run_completes}
use Rattle.bulk_load.specs.BulkLoad.{BulkLoadLent, BulkLoadOutcome, bulk_load_checked, bulk_load_of, rest_of, swept, ended, lined, stopped, loaded_by}
use Rattle.bulk_load.proofs.LoadLaws.{at-flip, at-start, at-mesh, at-line}
use Rattle.bulk_load.proofs.LoadLaws.{End, end_of, load_is, refused-not}
use Rattle.bulk_load.proofs.Numbered.{load-numbered}

-- a finish is refused 9
nine : (place : ℕ) (z : Finishing) (x : Refusal) → finished_from place z ≡ Err x → 0 < x.number
unfolding finished_from
nine place z x = go z.full
  where
    go : (b : Bool) → cond b (Err (record { number = 9; place = place })) (Ok (totals_from z)) ≡ Err x → 0 < x.number
    go true e = let w : record { number = 9; place = place } ≡ x = cc in let k = ap (λ (r : Refusal). r.number) w in omega arith
    go false e = absurd (let w : ◌≡◌ {A = ℕ} 0 1 = cc in omega arith)

module _ (l : BulkLoadLent) (x : Refusal) where
  abbrev Named : BulkLoadOutcome → Type 0
  Named r = r.answer.finish.finished ≡ Err x → 0 < x.number

  stopped_named : Named (loaded_by l (stopped l))
  unfolding loaded_by stopped
  stopped_named e = let w : ◌≡◌ {A = ℕ} 9 x.number = cc in omega arith

  swept-named : Named (loaded_by l (swept l))
  unfolding loaded_by swept
  swept-named e = nine _ (run_completes (rest_of l)).mesh x e

  ended_named : Named (loaded_by l (ended l))
  unfolding loaded_by ended
  ended_named e = nine _ _ x e

  lined-named : Named (loaded_by l (lined l))
  unfolding loaded_by lined
  lined-named e = absurd (let w : ◌≡◌ {A = ℕ} 0 1 = cc in omega arith)

  by_end : (e : bulk_load_checked l ≡ Ok tt) → End l e → Named (bulk_load_of l)
  by_end e (at-flip f q) = subst Named (sym (load_is l e q)) stopped_named
  by_end e (at-start r q) = subst Named (sym (load_is l e q)) swept-named
  by_end e (at-mesh r f m q) = subst Named (sym (load_is l e q)) ended_named
  by_end e (at-line r f m q) = subst Named (sym (load_is l e q)) lined-named

  pub load-named : (bulk_load_of l).answer.finish.finished ≡ Err x → 0 < x.number
  load-named = go (bulk_load_checked l) refl (load-numbered l)
    where
      go : (c : Checked) → bulk_load_checked l ≡ c → NumberedTo 10 c → Named (bulk_load_of l)
      go (Ok tt) e k = by_end e (end_of l e)
      go (Err y) e k = λ z.
          let w : Err y ≡ Err x = sym (refused-not l e).0 ∙ z in
          let v : y ≡ x = cc in
          subst (λ (r : Refusal). 0 < r.number) v (numbered-at k).0
