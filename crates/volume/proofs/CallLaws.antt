-- What an answer of the call `volume` means: its halves are those of six times the volume, its cubic metres that volume's,
-- and a refusal is the check's. Assumes nothing.
use Rattle.std.specs.Prelude.{not, ℕ, ℤ, Ok, Err}
use Rattle.std.proofs.Math.Path.{◌≡◌, refl}
use Rattle.std.proofs.Common.{lt_of_lt_of_le, arith, lit≤}
use Rattle.dcel.specs.MeshRows.{links_in, places_in}
use Rattle.heights.specs.Heights.{SurfaceRows, heights_in, is_valid_height, surface_checked}
use Rattle.int128.specs.CubicMetres.{cubic_metres_of}
use Rattle.int128.specs.Int128.{int128_of}
use Rattle.int128.proofs.Int128LawsFacts.{fits-abs, halves-mean}
use Rattle.mesh.specs.declared.Counts.{Counts}
use Rattle.mesh_check.specs.Checked.{Checked}
use Rattle.mesh_check.specs.declared.Refusal.{Refusal}
use Rattle.volume.specs.Measured.{Measured}
use Rattle.volume.specs.declared.Volumes.{Volumes}
use Rattle.volume.proofs.MeasurableLaws.{checked-measurable}
use Rattle.volume.specs.Volume.{six_volumes_of, volumes_of, measured_of, volume_of}

module _ (C : Counts) (s : SurfaceRows) (level : ℤ) where
  -- six times the volume of the lent mesh
  abbrev six : ℤ
  six = six_volumes_of C (links_in s.mesh) (places_in s.mesh) (heights_in s) level

  abbrev checked : Checked
  checked = surface_checked (not (is_valid_height level)) C s

  pub record VolumeAccepted (v : Volumes) : Type 0 where
    pub check : checked ≡ Ok tt
    pub halves : int128_of v.six_volumes ≡ six
    pub metres : v.cubic_metres ≡ cubic_metres_of six

  found : checked ≡ Ok tt → VolumeAccepted (volumes_of six)
  unfolding volumes_of
  found e =
      let less = (checked-measurable C s.mesh s.heights level e).less s.mesh.outs in
      record { check = e; halves = halves-mean six (fits-abs six (lt_of_lt_of_le less (lit≤ tt))); metres = refl }

  pub volume-accepted : {v : Volumes} → volume_of C s level ≡ Ok v → VolumeAccepted v
  unfolding volume_of measured_of
  volume-accepted {v} e = go checked refl e
    where
      go : (c : Checked) → checked ≡ c → measured_of c (volumes_of six) ≡ Ok v → VolumeAccepted v
      go (Err r) k e = absurd (let z : ◌≡◌ {A = ℕ} 0 1 = cc in omega arith)
      go (Ok tt) k e = let w : volumes_of six ≡ v = cc in rw w at (found k)

  pub volume-refused : {r : Refusal} → volume_of C s level ≡ Err r → checked ≡ Err r
  unfolding volume_of measured_of
  volume-refused {r} e = go checked refl e
    where
      go : (c : Checked) → checked ≡ c → measured_of c (volumes_of six) ≡ Err r → checked ≡ Err r
      go (Err q) k e = cc
      go (Ok tt) k e = absurd (let z : ◌≡◌ {A = ℕ} 0 1 = cc in omega arith)
