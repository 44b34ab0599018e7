-- The point as a vertex in the rows, and then in the mesh. Assumes nothing.
use mathlib.Core.List.{List}
use mathlib.Core.Path.{◌≡◌, ◌∙◌, ap}
use Prim.Native.Nat.{ℕ}
use lib.IntN.{ℤ}
use lib.ListN.{length}
use Rattle.apply.specs.Apply.{Applied, add_turns}
use Rattle.apply.specs.ApplyRows.{AddReady, applied_of}
use Rattle.apply.specs.declared.Entered.{Entered}
use Rattle.dcel.specs.Rows.{links_of, position_of}
use Rattle.decide.specs.declared.Decision.{Decision}
use Rattle.math.specs.declared.Point.{Point}
use Rattle.mesh.specs.declared.Counts.{Counts}
use Rattle.sums.specs.Put.{put}
use Rattle.step.specs.StepRows.{PointReady, PointAdded}

pub point-added : (C : Counts) (q q' : List ℤ) (o h a row o' h' a' : List ℕ) (v : Point) (D : Decision) (r : Entered)
    → position_of q' ≡ put (position_of q) C.vertices v
    → applied_of o' h' a' r ≡ add_turns (length row) (position_of q') C (links_of o h a) D.edge D.left D.right
    → PointAdded C q q' o h a row o' h' a' v D r
point-added C q q' o h a row o' h' a' v D r x y = record {
  places = x;
  is = y ∙ ap (λ (p : ℕ → Point). add_turns (length row) p C (links_of o h a) D.edge D.left D.right) x;
}
