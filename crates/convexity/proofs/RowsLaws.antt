-- Rows that passes were made on: they hold a good mesh still, with room for what passes can add, and so a caller can go
-- on with them. Assumes nothing.
use Rattle.std.specs.Prelude.{List, ◌≡◌, ℕ, ℤ, length}
use Rattle.std.proofs.Math.Path.{subst⁻¹}
use Rattle.std.proofs.Common.{arith}
use Rattle.conflicts.proofs.FlipsWithinLaws.{within_none}
use Rattle.corner.specs.declared.Extension.{Extension}
use Rattle.corner.specs.CornerLaws.{Closings}
use Rattle.corner.specs.CornerRows.{extended_of, Ready}
use Rattle.corner.specs.RowsLaws.{SameLengths, kept}
use Rattle.dcel.specs.Rows.{links_of, position_of}
use Rattle.mesh.specs.declared.Counts.{Counts}
use Rattle.convexity.specs.Convexity.{unpassed, convexity}
use Rattle.convexity.specs.ConvexityRows.{MeshReady}
use Rattle.convexity.proofs.ConvexityLawsFacts.{convexity-closings}

-- after all passes
pub convexity-ready : {q : List ℤ} {o h a row : List ℕ} {C : Counts} → MeshReady q o h a row C
    → {o' h' a' row' : List ℕ} {g : Extension}
    → extended_of o' h' a' g ≡ convexity (length row) C (position_of q) (links_of o h a)
    → SameLengths o h a row o' h' a' row' → Ready q o' h' a' row' g
convexity-ready {q} {o} {h} {a} {row} {C} R {o'} {h'} {a'} {row'} {g} e l =
    kept (unpassed C (links_of o h a)).mesh R.rows.good within_none (omega arith) R.rows.room.outs R.rows.positions R.sized
    (subst⁻¹ (Closings (position_of q) (unpassed C (links_of o h a)).mesh) e (convexity-closings (length row) C (position_of q) (links_of o h a) R.rows.good)) l
