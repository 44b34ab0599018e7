-- The two numbers as they are found, and the call's answers. Assumes nothing.
use Rattle.std.specs.Prelude.{Ok, Err}
use mathlib.Core.Bool.{Bool, not}
use mathlib.Core.List.{List}
use mathlib.Core.Path.{◌≡◌, refl, sym, ◌∙◌, ap, ap₂, subst}
use Prim.Native.Nat.{ℕ, ◌-◌, ◌^◌, ◌<◌}
use native.Mathlib.Nat.{le_refl}
use lib.IntN.{ℤ, nat_abs}
use mir.Syntax.{w64}
use mir.Val.{SFits, to_z, of_z}
use mir.Facts.{to_z-of_z}
use Rattle.dcel.specs.MeshRows.{MeshRows, links_in, places_in}
use Rattle.dcel.specs.Rows.{links_of, position_of}
use Rattle.heights.specs.Heights.{surface_rows, height_of, is_valid_height, surface_checked}
use Rattle.int128.specs.declared.Int128.{Int128}
use Rattle.int128.specs.CubicMetres.{cubic_metres_of}
use Rattle.int128.specs.Int128.{int128_of}
use Rattle.int128.proofs.Int128LawsFacts.{halves_are}
use Rattle.mesh.specs.declared.Counts.{Counts}
use Rattle.mesh_check.specs.Checked.{Checked}
use Rattle.mesh_check.specs.declared.Refusal.{Refusal}
use Rattle.volume.specs.declared.DigitSums.{DigitSums}
use Rattle.volume.specs.Measured.{Measured}
use Rattle.volume.specs.declared.Volumes.{Volumes}
use Rattle.volume.specs.DigitSums.{whole_of, SmallSums}
use Rattle.volume.specs.Measurable.{Measurable, face_sums}
use Rattle.volume.proofs.MeasurableLaws.{faces-small, faces-whole, checked-measurable}
use Rattle.volume.specs.Volume.{six_volumes_of, volumes_of, measured_of, volume_of}

-- ---- the sums r over all faces, and the number n that they make up
module _ {C : Counts} {p z : List ℤ} {h a : List ℕ} {level : ℤ} (M : Measurable C p z h a level) {r : DigitSums} (o : List ℕ)
    (e : r ≡ face_sums (C.faces - 1) (links_of o h a) (position_of p) (height_of z) level) where
  pub sums-small : SmallSums r
  sums-small = subst SmallSums (sym e) (faces-small M o (C.faces - 1) (le_refl (C.faces - 1)))

  module _ (n : Int128) (k : int128_of n ≡ whole_of r) where
    six-is : int128_of n ≡ six_volumes_of C (links_of o h a) (position_of p) (height_of z) level
    six-is = k ∙ ap whole_of e ∙ faces-whole M o

    pub six-less : nat_abs (int128_of n) < 2 ^ 94
    six-less = rw six-is (M.less o)

    pub volumes-found : {x : ℤ} → n.high < 2 ^ 64 → n.low < 2 ^ 64 → SFits w64 x → x ≡ cubic_metres_of (int128_of n)
        → record { six_volumes = n; cubic_metres = to_z w64 (of_z w64 x) }
        ≡ volumes_of (six_volumes_of C (links_of o h a) (position_of p) (height_of z) level)
    unfolding volumes_of
    volumes-found b d f q =
        ap₂ (λ (n : Int128) (x : ℤ). record { six_volumes = n; cubic_metres = x })
        (halves_are n b d six-is) (to_z-of_z f ∙ q ∙ ap cubic_metres_of six-is)

-- ---- the call. t: the level is in range
module _ (C : Counts) (m : MeshRows) (z : List ℤ) (level : ℤ) {t : Bool} (v : t ≡ is_valid_height level) where
  pub refused-volume : {r : Refusal} → surface_checked (not t) C (surface_rows m z) ≡ Err r
      → Err r ≡ volume_of C (surface_rows m z) level
  unfolding volume_of measured_of
  refused-volume e = rw (← v, e) refl

  module _ (e : surface_checked (not t) C (surface_rows m z) ≡ Ok tt) where
    pub measurable : Measurable C m.positions z m.halves m.faces level
    measurable = checked-measurable C m z level (rw v at e)

    pub accepted-volume : {w : Volumes} → w ≡ volumes_of (six_volumes_of C (links_in m) (places_in m) (height_of z) level)
        → Ok w ≡ volume_of C (surface_rows m z) level
    unfolding volume_of measured_of
    accepted-volume k = rw (← v, e, ← k) refl
