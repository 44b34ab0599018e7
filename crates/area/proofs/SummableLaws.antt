-- Sums of doubled areas: how large they can be, and that the rows of an accepted mesh can be summed. Assumes nothing.
use Rattle.std.specs.Prelude.{List, ◌≡◌, ℕ, suc, ◌-◌, ◌*◌, ◌^◌, ◌<◌, ◌≤◌, ℤ, nat_abs}
use Rattle.std.proofs.Common.{◌∙◌, ap, le_refl, le_trans, lt_of_le_of_lt, lt_of_lt_of_le, mul-le-mul_right, arith, lit<, lit≤}
use Rattle.dcel.specs.MeshRows.{MeshRows}
use Rattle.dcel.specs.Rows.{links_of, position_of}
use Rattle.int128.specs.declared.Int128.{Int128}
use Rattle.int128.specs.Int128.{int128_of, in_halves}
use Rattle.int128.proofs.Int128LawsFacts.{fits-abs, halves-mean}
use Rattle.math.proofs.AreaBound.{area-bound}
use Rattle.mesh.specs.declared.Counts.{Counts}
use Rattle.mesh.specs.Area.{over_faces, area_total}
use Rattle.mesh.proofs.CountsLaws.{faces-fit}
use Rattle.mesh_check.specs.Accepted.{AcceptedMesh}
use Rattle.mesh_check.specs.Readable.{Readable}
use Rattle.mesh_check.proofs.ReadableLaws.{readable-rows}
use Rattle.sums.proofs.SumLaws.{sum-small}
use Rattle.area.specs.Summable.{Summable, areas_to}

module _ {C : Counts} {p : List ℤ} {h a : List ℕ} (R : Readable C p h a) (o : List ℕ) where
  -- each is at most 2 ^ 50
  pub areas-most : (n : ℕ) → n ≤ C.faces - 1 → nat_abs (areas_to n p o h a) ≤ n * 2 ^ 50
  unfolding areas_to links_of
  areas-most n l = sum-small n (2 ^ 50) _ (λ f k.
      let K = R.corners (suc f) (omega arith) in
      area-bound K.one.range K.two.range K.three.range)

  pub total-most : nat_abs (area_total C (links_of o h a) (position_of p)) ≤ (C.faces - 1) * 2 ^ 50
  unfolding areas_to over_faces
  total-most = areas-most (C.faces - 1) (le_refl (C.faces - 1))

module _ {C : Counts} {p : List ℤ} {h a : List ℕ} (S : Summable C p h a) (o : List ℕ) where
  pub areas-less : (n : ℕ) → n ≤ C.faces - 1 → nat_abs (areas_to n p o h a) < 2 ^ 71
  areas-less n l =
      let few : n ≤ 2000000 = let m = S.few in omega arith in
      lt_of_le_of_lt (le_trans (areas-most S.readable o n l) (mul-le-mul_right (2 ^ 50) few)) (lit< tt)

  pub total-less : nat_abs (area_total C (links_of o h a) (position_of p)) < 2 ^ 71
  unfolding areas_to over_faces
  total-less = areas-less (C.faces - 1) (le_refl (C.faces - 1))

  -- what its halves mean
  pub total-meant : {n : Int128} → n ≡ in_halves (area_total C (links_of o h a) (position_of p))
      → int128_of n ≡ area_total C (links_of o h a) (position_of p)
  total-meant e = ap int128_of e ∙ halves-mean _ (fits-abs _ (lt_of_lt_of_le total-less (lit≤ tt)))

pub accepted-summable : {C : Counts} {m : MeshRows} → AcceptedMesh C m → Summable C m.positions m.halves m.faces
accepted-summable {C} {m} A =
    let r = A.rows in
    record {
      readable = readable-rows m.outs m.halves m.faces m.positions A.good.wf
          (λ v l. record { there = omega arith; range = A.good.range l }) r.halves r.faces;
      few = let u = faces-fit A.good.wf A.most in omega arith;
    }
