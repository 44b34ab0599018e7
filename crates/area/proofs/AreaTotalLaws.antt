-- What an answer of the call `area_total` means: its halves are those of the doubled areas' total, which is the boundary's doubled area,
-- positive and below 2 ^ 71; and it is refused exactly as the call `check` is. Assumes nothing.
use Rattle.std.specs.Prelude.{false, ℕ, ◌^◌, ◌<◌, ℤ, pos, nat_abs, ◌<ℤ◌, Ok, Err}
use Rattle.std.proofs.Math.Path.{◌≡◌, refl}
use Rattle.std.proofs.Common.{arith}
use Rattle.dcel.specs.MeshRows.{links_in, places_in}
use Rattle.heights.specs.Heights.{SurfaceRows, surface_checked}
use Rattle.heights.proofs.HeightsLaws.{surface-accepts}
use Rattle.int128.specs.declared.Int128.{Int128}
use Rattle.int128.specs.Int128.{int128_of, in_halves}
use Rattle.mesh.specs.declared.Counts.{Counts}
use Rattle.mesh.specs.Area.{area_total, boundary_area}
use Rattle.mesh.proofs.AreaLaws.{area-theorem}
use Rattle.mesh.proofs.LeftLaws.{area-positive}
use Rattle.mesh_check.specs.Checked.{Checked}
use Rattle.mesh_check.specs.declared.Refusal.{Refusal}
use Rattle.area.specs.Totalled.{Totalled}
use Rattle.area.specs.AreaTotal.{totalled_of, area_total_of}
use Rattle.area.specs.Summable.{Summable}
use Rattle.area.proofs.SummableLaws.{total-less, total-meant, accepted-summable}

module _ (C : Counts) (s : SurfaceRows) where
  -- of the lent mesh
  abbrev total : ℤ
  total = area_total C (links_in s.mesh) (places_in s.mesh)

  abbrev checked : Checked
  checked = surface_checked false C s

  pub record AreaAccepted (n : Int128) : Type 0 where
    pub check : checked ≡ Ok tt
    pub halves : int128_of n ≡ total
    pub boundary : total ≡ boundary_area C (links_in s.mesh) (places_in s.mesh)
    pub positive : pos 0 <ℤ total
    pub less : nat_abs total < 2 ^ 71

  pub checked-summable : checked ≡ Ok tt → Summable C s.mesh.positions s.mesh.halves s.mesh.faces
  checked-summable e = accepted-summable (surface-accepts false C s e).0

  found : checked ≡ Ok tt → AreaAccepted (in_halves total)
  found e =
      let G = (surface-accepts false C s e).0.good in
      record {
        check = e;
        halves = total-meant (checked-summable e) s.mesh.outs refl;
        boundary = area-theorem G.wf (places_in s.mesh);
        positive = area-positive G.wf G.turning;
        less = total-less (checked-summable e) s.mesh.outs;
      }

  pub area-accepted : {n : Int128} → area_total_of C s ≡ Ok n → AreaAccepted n
  unfolding area_total_of totalled_of
  area-accepted {n} e = go checked refl e
    where
      go : (c : Checked) → checked ≡ c → totalled_of c (in_halves total) ≡ Ok n → AreaAccepted n
      go (Err r) k e = absurd (let z : ◌≡◌ {A = ℕ} 0 1 = cc in omega arith)
      go (Ok tt) k e = let w : in_halves total ≡ n = cc in rw w at (found k)

  -- refused exactly as a check is
  pub area-refused : {r : Refusal} → area_total_of C s ≡ Err r → checked ≡ Err r
  unfolding area_total_of totalled_of
  area-refused {r} e = go checked refl e
    where
      go : (c : Checked) → checked ≡ c → totalled_of c (in_halves total) ≡ Err r → checked ≡ Err r
      go (Err q) k e = cc
      go (Ok tt) k e = absurd (let z : ◌≡◌ {A = ℕ} 0 1 = cc in omega arith)

  pub refused-area : {r : Refusal} → checked ≡ Err r → Err r ≡ area_total_of C s
  unfolding area_total_of totalled_of
  refused-area e = rw e refl

  pub accepted-area : checked ≡ Ok tt → {n : Int128} → n ≡ in_halves total → Ok n ≡ area_total_of C s
  unfolding area_total_of totalled_of
  accepted-area e k = rw (e, ← k) refl
