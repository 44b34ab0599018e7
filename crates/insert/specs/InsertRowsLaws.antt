-- What `insert_at` leaves is a mesh that the point has gone into, so `PointIn` says the rest of it: it is good, the other
-- vertices keep their positions, and the point's vertex is at the point. Assumes nothing.
use Rattle.std.specs.Prelude.{List, ℕ, ℤ, length}
use Rattle.corner.specs.declared.Extension.{Extension}
use Rattle.corner.specs.CornerRows.{extended_of}
use Rattle.dcel.specs.Rows.{links_of, position_of}
use Rattle.location.specs.declared.PositionInTriangulation.{PositionInTriangulation}
use Rattle.math.specs.declared.Point.{Point}
use Rattle.mesh.specs.declared.Counts.{Counts}
use Rattle.skipped.specs.InsertLaws.{PointIn}
use Rattle.skipped.proofs.InsertLawsFacts.{insert-certified}
use Rattle.insert.specs.InsertRows.{InsertReady, InsertLeaves}

pub leaves-point : {C : Counts} {q : List ℤ} {o h a row : List ℕ} {v : Point} {x : PositionInTriangulation} → InsertReady C q o h a row v x
    → {q' : List ℤ} {o' h' a' : List ℕ} {r : Extension} → InsertLeaves C q o h a row v x q' o' h' a' r
    → PointIn C (links_of o h a) (position_of q) v (record { place = x; positions = position_of q'; mesh = extended_of o' h' a' r })
leaves-point {row = row} {v = v} {x = x} R l =
    rw (l.mesh, l.places) (insert-certified (length row) R.good v R.range x R.certified)
