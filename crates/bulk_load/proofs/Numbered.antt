-- A refusal of a bulk load's checks has one of the numbers 1, 2, 3 and 10 (`load-numbers`), and so never 0 (`load-numbered`). Assumes
-- nothing.
use Rattle.std.specs.Prelude.{Bool, ◌⊎◌, ℕ, ◌≤◌, ltb, Ok, Err}
use Rattle.std.proofs.Math.Bool.{true, false, cond}
use Rattle.std.proofs.Math.Logic.{inl, inr}
use Rattle.std.proofs.Math.Path.{◌≡◌}
use native.Mathlib.Omega.{arith}
use Rattle.dcel.specs.Rows.{position_of}
use Rattle.heights.specs.Heights.{heights_outside}
use Rattle.mesh_check.specs.Checked.{Checked}
use Rattle.mesh_check.specs.declared.Refusal.{Refusal}
use Rattle.mesh_check.specs.Check.{refused, first_outside}
use Rattle.mesh_check.specs.CheckLaws.{NumberedTo, accepts}
use Rattle.mesh_check.proofs.CheckLawsFacts.{numbered-cond}
use Rattle.bulk_load.specs.BulkLoad.{BulkLoadLent, count, bulk_load_short, bulk_load_checked}

module _ (l : BulkLoadLent) where
  pub load-numbered : NumberedTo 10 (bulk_load_checked l)
  unfolding bulk_load_checked
  load-numbered =
      let n = count l in
      let i = first_outside n (position_of l.points) in
      numbered-cond (ltb 1000000 n) 1 0 (omega arith) (omega arith)
      (numbered-cond (bulk_load_short l) 2 0 (omega arith) (omega arith)
      (numbered-cond (ltb i n) 3 i (omega arith) (omega arith)
      (numbered-cond (heights_outside n l.point_heights_of) 10 0 (omega arith) (omega arith) accepts)))

  -- 9 comes out of the work alone
  pub load-numbers : {r : Refusal} → bulk_load_checked l ≡ Err r → ((1 ≤ r.number) × (r.number ≤ 3)) ⊎ (r.number ≡ 10)
  unfolding bulk_load_checked
  load-numbers {r} e =
      let i = first_outside (count l) (position_of l.points) in
      go i (ltb 1000000 (count l)) (bulk_load_short l) (ltb i (count l)) (heights_outside (count l) l.point_heights_of) e
    where
      go : (i : ℕ) (a b c d : Bool)
          → cond a (refused 1 0) (cond b (refused 2 0) (cond c (refused 3 i) (cond d (refused 10 0) (Ok tt)))) ≡ Err r
          → ((1 ≤ r.number) × (r.number ≤ 3)) ⊎ (r.number ≡ 10)
      go i true b c d e = let z : ◌≡◌ {A = ℕ} 1 r.number = cc in inl (omega arith, omega arith)
      go i false true c d e = let z : ◌≡◌ {A = ℕ} 2 r.number = cc in inl (omega arith, omega arith)
      go i false false true d e = let z : ◌≡◌ {A = ℕ} 3 r.number = cc in inl (omega arith, omega arith)
      go i false false false true e = let z : ◌≡◌ {A = ℕ} 10 r.number = cc in inr (omega arith)
      go i false false false false e = absurd (let z : ◌≡◌ {A = ℕ} 0 1 = cc in omega arith)
