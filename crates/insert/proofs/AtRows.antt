-- What `insert_at` needs of the rows at each call, and what it leaves, by the kind of place: q are the positions before,
-- q' those with the point stored behind them. Assumes nothing.
use mathlib.Core.Bool.{false}
use mathlib.Core.List.{List}
use mathlib.Core.Path.{◌≡◌, refl, ◌∙◌, ap, subst, subst⁻¹}
use Prim.Native.Nat.{ℕ, ◌<◌}
use native.Mathlib.Omega.{arith}
use lib.IntN.{ℤ}
use lib.ListN.{length}
use Rattle.corner.specs.declared.Extension.{Extension}
use Rattle.corner.specs.CornerRows.{extended_of}
use Rattle.dcel.specs.Rows.{links_of, position_of}
use Rattle.insert_outside.specs.OutsideRows.{OutsideReady}
use Rattle.insertion.specs.Plane.{Between}
use Rattle.location.specs.declared.PositionInTriangulation.{PositionInTriangulation}
use Rattle.location.specs.declared.PositionInTriangulation.TheVariants.{OnVertex, OnFace, OnEdge, OutsideOfConvexHull}
use Rattle.location.specs.Place.{InFace, InEdge}
use Rattle.location.proofs.PlaceFacts.{Certified}
use Rattle.location.proofs.PlaceLaws.{in-edge-at}
use Rattle.math.specs.declared.Point.{Point}
use Rattle.mesh.specs.declared.Counts.{Counts}
use Rattle.mesh.specs.Mesh.{Links, to}
use Rattle.skipped.specs.Insert.{insert_into_face, insert_in_edge, insert_outside, is_new, places_at, mesh_at}
use Rattle.sums.specs.Put.{put}
use Rattle.sums.proofs.PutLaws.{put_same, put_other}
use Rattle.insert.specs.InsertRows.{VertexReady, FaceReady, OnEdgeReady, InsertReady, InsertLeaves}

module _ {C : Counts} {q : List ℤ} {o h a row : List ℕ} {v : Point} {x : PositionInTriangulation} (R : InsertReady C q o h a row v x) where
  abbrev L : Links
  L = links_of o h a

  abbrev p : ℕ → Point
  p = position_of q

  -- ---- on a vertex: nothing changes
  pub at-vertex : {w : ℕ} → x ≡ OnVertex w
      → InsertLeaves C q o h a row v x q o h a (record { counts = C; faces = 0; flips = 0; full = false })
  unfolding extended_of mesh_at places_at is_new
  at-vertex z = rw z (record { mesh = refl; places = refl })

  -- ---- a new vertex, whose position has been stored
  module _ (q' : List ℤ) (n : length q' ≡ length q) (s : position_of q' ≡ put p C.vertices v) where
    old : (u : ℕ) → u < C.vertices → position_of q' u ≡ p u
    old u l = ap (λ (f : ℕ → Point). f u) s ∙ put_other p C.vertices v u (λ y. omega arith)

    new : position_of q' C.vertices ≡ v
    new = ap (λ (f : ℕ → Point). f C.vertices) s ∙ put_same p C.vertices v

    stored : VertexReady C q' o h a row
    stored = record {
      places = p;
      good = R.good;
      same = old;
      range = rw new R.range;
      outs = R.outs;
      positions = (let k = R.positions in omega arith);
      sized = R.sized;
    }

    -- ---- strictly inside a face
    module _ {f : ℕ} (z : x ≡ OnFace f) where
      pub at-face : FaceReady C q' o h a row f
      unfolding stored
      at-face = record { ready = stored; face = subst⁻¹ (λ (u : Point). InFace C L p u f) new (subst (Certified C L p v) z R.certified) }

      pub face-leaves : {o' h' a' : List ℕ} (g : Extension) → extended_of o' h' a' g ≡ insert_into_face (length row) (position_of q') C L f
          → InsertLeaves C q o h a row v x q' o' h' a' g
      unfolding mesh_at places_at is_new
      face-leaves g y = rw z (record { mesh = y ∙ rw s refl; places = s })

    -- ---- on an edge
    module _ {e : ℕ} (z : x ≡ OnEdge e) where
      pub at_edge : OnEdgeReady C q' o h a row e
      unfolding stored
      at_edge =
          let I : InEdge C L p v e = subst (Certified C L p v) z R.certified in
          record {
            ready = stored;
            edge = I.used;
            between =
                subst⁻¹ (λ (u : Point). Between (p (L.origin e)) (p (to L e)) u) new
                (in-edge-at R.good.wf p v R.good.turning I);
          }

      pub edge-leaves : {o' h' a' : List ℕ} (g : Extension) → extended_of o' h' a' g ≡ insert_in_edge (length row) (position_of q') C L e
          → InsertLeaves C q o h a row v x q' o' h' a' g
      unfolding mesh_at places_at is_new
      edge-leaves g y = rw z (record { mesh = y ∙ rw s refl; places = s })

    -- ---- outside
    module _ {e : ℕ} (z : x ≡ OutsideOfConvexHull e) where
      pub at-outside : OutsideReady C q' o h a row v e
      at-outside = record {
        places = p;
        good = R.good;
        same = old;
        here = new;
        range = R.range;
        beyond = subst (Certified C L p v) z R.certified;
        outs = R.outs;
        positions = (let k = R.positions in omega arith);
        sized = R.sized;
      }

      pub outside-leaves : {o' h' a' : List ℕ} (g : Extension) → extended_of o' h' a' g ≡ insert_outside (length row) (position_of q') C L v e
          → InsertLeaves C q o h a row v x q' o' h' a' g
      unfolding mesh_at places_at is_new
      outside-leaves g y = rw z (record { mesh = y ∙ rw s refl; places = s })
