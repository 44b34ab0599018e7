-- The numbers of a text as they are lent to a run. Assumes nothing.
use mathlib.Core.List.{List}
use mathlib.Core.Path.{◌≡◌, refl, ◌∙◌, ap, ap₂}
use Prim.Native.Nat.{ℕ, ◌+◌, ◌-◌, ◌≤◌}
use native.Mathlib.Omega.{arith}
use lib.Ieee.{Float, of_int, binary64}
use lib.IntN.{ℤ, pos}
use lib.ListN.{length, get_or, take, drop, replicate, length-drop}
use lib.Seq.{sets, take_all}
use mir.Syntax.{w32}
use mir.Val.{SFits, to_z, of_z}
use mir.Facts.{to_z-of_z}
use Rattle.angle.specs.declared.Point2.{Point2}
use Rattle.dcel.specs.MeshRows.{MeshRows, mesh_rows}
use Rattle.mesh_check.specs.Check.{point_count}
use Rattle.ring_rows.specs.Rows.{zero_node}
use Rattle.ring_rows.specs.RingRows.{ring_rows}
use Rattle.sweep.specs.Run.{run_lent}
use Rattle.sweep.specs.SeedTriangle.{seed_counts, seed_outs_of, seed_halves_of, seed_faces_of}
use Rattle.listing_run.specs.ListingRun.{lent_in}

module _ (zs : List ℤ) where
  pub rest-is : take (length zs - 8) (drop 8 zs) ≡ drop 8 zs
  rest-is = take_all (length zs - 8) (drop 8 zs) (let z = length-drop 8 zs in omega arith)

  pub points-few : 8 ≤ length zs → length zs ≤ 802 → 3 + point_count (take (length zs - 8) (drop 8 zs)) ≤ 400
  unfolding point_count
  points-few l m = rw rest-is (let z = length-drop 8 zs in omega arith)

  module _ (m : MeshRows) (freed buckets pending answers : List ℕ) where
    pub seed-lent : {p : List ℤ} {o h a : List ℕ} {center : Point2} → p ≡ sets m.positions 0 (take 6 zs) → o ≡ sets m.outs 0 seed_outs_of
        → h ≡ sets m.halves 0 seed_halves_of → a ≡ sets m.faces 0 seed_faces_of → SFits w32 (get_or zs 6 (pos 0)) → SFits w32 (get_or zs 7 (pos 0))
        → center.x ≡ of_int binary64 (to_z w32 (of_z w32 (get_or zs 6 (pos 0)))) → center.y ≡ of_int binary64 (to_z w32 (of_z w32 (get_or zs 7 (pos 0))))
        → run_lent seed_counts (mesh_rows p o h a) (ring_rows (replicate 401 zero_node) freed buckets) pending answers center
        (take (length zs - 8) (drop 8 zs))
        ≡ lent_in zs m freed buckets pending answers
    seed-lent {center = center} ep eo eh ea fx fy ex ey =
        let c : center ≡ record { x = of_int binary64 (get_or zs 6 (pos 0)); y = of_int binary64 (get_or zs 7 (pos 0)) } =
        ap₂ (λ (x y : Float). record { x = x; y = y }) (ex ∙ ap (of_int binary64) (to_z-of_z fx)) (ey ∙ ap (of_int binary64) (to_z-of_z fy)) in
        rw (ep, eo, eh, ea, c, rest-is) refl
