-- A point that is located goes in at the place that was found, whose certificate is what the insertion asks. Assumes nothing.
use mathlib.Core.Bool.{Bool}
use mathlib.Core.List.{List}
use mathlib.Core.Path.{◌≡◌, refl, sym, subst}
use Prim.Native.Nat.{ℕ}
use lib.IntN.{ℤ}
use lib.ListN.{length}
use Rattle.corner.specs.declared.Extension.{Extension}
use Rattle.corner.specs.CornerRows.{extended_of}
use Rattle.dcel.specs.Rows.{links_of, position_of}
use Rattle.location.specs.declared.PositionInTriangulation.{PositionInTriangulation}
use Rattle.location.proofs.LocateLaws.{locate-good}
use Rattle.location.proofs.PlaceFacts.{Certified}
use Rattle.location.specs.Scan.{locate_point}
use Rattle.math.specs.declared.Point.{Point}
use Rattle.mesh.specs.declared.Counts.{Counts}
use Rattle.search.specs.SearchRows.{SearchReady}
use Rattle.search_near.specs.NearRows.{NearReady}
use Rattle.skipped.specs.Insert.{insert_point}
use Rattle.insert.specs.InsertRows.{InsertReady, InsertLeaves, PointReady, NearPointReady, inserting_of}

module _ {C : Counts} {q : List ℤ} {o h a row : List ℕ} {v : Point} (R : PointReady C q o h a row v) where
  pub point-located : SearchReady C q o h a v
  point-located = record { rows = R.rows; range = R.range }

  module _ {x : PositionInTriangulation} (e : x ≡ locate_point C (links_of o h a) (position_of q) v) where
    pub point-certified : InsertReady C q o h a row v x
    point-certified = record {
      good = R.rows.good;
      range = R.range;
      certified = subst (Certified C (links_of o h a) (position_of q) v) (sym e) (locate-good R.rows.good v);
      outs = R.outs;
      positions = R.positions;
      sized = R.sized;
    }

    pub point-inserted : (q' : List ℤ) (o' h' a' : List ℕ) {r : Extension} → InsertLeaves C q o h a row v x q' o' h' a' r
        → inserting_of q' o' h' a' (record { position = x; added = r }) ≡ insert_point (length row) C (links_of o h a) (position_of q) v
    unfolding insert_point
    point-inserted q' o' h' a' X = rw (X.mesh, X.places, e) refl

-- from an edge near by
pub point-near : {C : Counts} {q : List ℤ} {o h a row : List ℕ} {v : Point} {known : Bool} {u : ℕ} → NearPointReady C q o h a row v known u
    → NearReady C q o h a v known u
point-near R = record { start = record { ready = point-located R.ready; used = R.used }; walkable = R.walkable }
