-- A step's checks on the rows in which a point and its height stand. Assumes nothing.
use Rattle.std.specs.Prelude.{Ok, Err}
use mathlib.Core.Bool.{Bool, false}
use mathlib.Core.List.{[], ◌∷◌}
use mathlib.Core.Path.{◌≡◌, sym, ◌∙◌}
use lib.IntN.{ℤ}
use Rattle.angle.specs.declared.Point2.{Point2}
use Rattle.heights.specs.Heights.{SurfaceRows, heights_lent, heights_tested}
use Rattle.locate.specs.Locate.{check_start}
use Rattle.math.specs.declared.Point.{Point}
use Rattle.mesh.specs.declared.Counts.{Counts}
use Rattle.mesh_check.specs.Checked.{Checked}
use Rattle.mesh_check.specs.declared.Refusal.{Refusal}
use Rattle.ask.specs.Ask.{point_checked}
use Rattle.ask.proofs.AskLaws.{point-refused, point-start}

module _ {x y z z' : ℤ} {v : Point} (x-is : x ≡ v.x) (y-is : y ≡ v.y) (z-is : z' ≡ z)
    (short : Bool) (C : Counts) (s : SurfaceRows) (center : Point2) {k : Checked}
    (tested : k ≡ heights_tested (heights_lent (x ∷ y ∷ []) (z' ∷ []) short false) C s) where
  pub tested-refused : {r : Refusal} → k ≡ Err r → Err r ≡ point_checked short C s center v z
  tested-refused e = sym (point-refused short C s center v z (sym (rw (x-is, y-is, z-is) at tested) ∙ e))

  pub tested-start : {t : Checked} → k ≡ Ok tt → t ≡ check_start (x ∷ y ∷ []) short C s.mesh center
      → t ≡ point_checked short C s center v z
  tested-start e f =
      rw (x-is, y-is) at f ∙ sym (point-start short C s center v z (sym (rw (x-is, y-is, z-is) at tested) ∙ e))
