-- What `insert_on_inner_edge` and `insert_on_boundary_edge` need of the rows at each call, and what all of their calls
-- leave. Assumes nothing.
use mathlib.Core.Bool.{false}
use mathlib.Core.List.{List, [], ◌∷◌}
use mathlib.Core.Path.{◌≡◌, refl, sym, ◌∙◌}
use Prim.Native.Nat.{ℕ}
use native.Mathlib.Omega.{arith}
use lib.IntN.{ℤ}
use lib.ListN.{length}
use Rattle.corner.specs.declared.Extension.{Extension}
use Rattle.corner.specs.CornerRows.{extended_of}
use Rattle.corner.specs.RowsLaws.{SameLengths}
use Rattle.dcel.specs.declared.handles.HalfEdgeEntry.{HalfEdgeEntry}
use Rattle.dcel.specs.Rows.{halves_of, links_of, position_of, There, EntryOf}
use Rattle.dcel.specs.MeshHeld.{there, there-rev}
use Rattle.insertion.specs.Operations.{split_edge, split_half_edge, with_inner_vertex}
use Rattle.insertion_operations.specs.Insert.{EdgeReady, EdgeSplit, HalfEdgeReady, HalfEdgeSplit}
use Rattle.insertion_operations.specs.Ready.{edge-ready, half-edge-ready}
use Rattle.mesh.specs.declared.Counts.{Counts}
use Rattle.mesh.specs.Mesh.{Links}
use Rattle.mesh.specs.Operations.{with_vertex}
use Rattle.skipped.specs.Insert.{legalize_each, star_edges, legalize_vertex, unflipped}
use Rattle.skipped.proofs.Stars.{edge-star, half-edge-star}
use Rattle.sums.specs.Half.{rev}
use Rattle.insert.specs.Each.{each_none}
use Rattle.insert.proofs.GrowRows.{grow-held, grow-room, Grown, two_ready, rest-ready, rest-used, all-legalized}
use Rattle.insert.specs.InsertRows.{TwoReady, InnerEdgeReady, BoundaryEdgeReady}

-- ---- with an inner face on both sides
module _ {C : Counts} {q : List ℤ} {o h a row : List ℕ} {e : ℕ} (R : InnerEdgeReady C q o h a row e) where
  abbrev L : Links
  L = links_of o h a

  pub inner-here : There h e
  inner-here = there (grow-held R.grow) R.edge.half-edge

  pub inner-across : {t : ℕ} → t ≡ rev e → There h t
  inner-across z = rw z (there-rev (grow-held R.grow) R.edge.half-edge)

  pub inner-operation : EdgeReady o h a C e
  inner-operation = edge-ready (grow-held R.grow) (grow-room R.grow) R.edge.half-edge

  module _ {t : ℕ} (z : t ≡ rev e) {x y : HalfEdgeEntry} (X : EntryOf (halves_of h) e x) (Y : EntryOf (halves_of h) t y) where
    inner-star : star_edges (with_inner_vertex C) (split_edge L C e) C.vertices ≡ y.next ∷ y.prev ∷ x.next ∷ x.prev ∷ []
    unfolding links_of
    inner-star = edge-star R.grow.rules R.edge ∙ rw (Y.next, Y.prev, X.next, X.prev, z) refl

    module _ {o₁ h₁ a₁ : List ℕ} (l : SameLengths o h a row o₁ h₁ a₁ row) {r : Counts} (N : EdgeSplit o h a o₁ h₁ a₁ C e r) where
      inner-grown : Grown C (with_inner_vertex C) (split_edge L C e) 2 y.next y.prev (x.next ∷ x.prev ∷ []) q o h a row o₁ h₁ a₁ r
      inner-grown = record { grow = R.grow; few = omega arith; star = inner-star; lengths = l; links = N.links; result = N.result }

      pub inner-two : TwoReady q o₁ h₁ a₁ row (record { counts = r; faces = 2; flips = 0; full = false }) y.next y.prev
      inner-two = two_ready inner-grown

      module _ (g : Extension) {o₂ h₂ a₂ row₂ : List ℕ} (k : SameLengths o₁ h₁ a₁ row o₂ h₂ a₂ row₂)
          (v : extended_of o₂ h₂ a₂ g ≡ legalize_each (length row) (position_of q)
          (extended_of o₁ h₁ a₁ (record { counts = r; faces = 2; flips = 0; full = false })) (y.next ∷ y.prev ∷ [])) where
        pub inner-rest : TwoReady q o₂ h₂ a₂ row₂ g x.next x.prev
        inner-rest =
            let u = rest-used inner-grown g k v in
            record { ready = rest-ready inner-grown g k v; first-in = u.0; second-in = u.1.0 }

        pub inner-row : (o₃ h₃ a₃ : List ℕ) (d : Extension)
            → extended_of o₃ h₃ a₃ d ≡ legalize_each (length row₂) (position_of q) (extended_of o₂ h₂ a₂ g) (x.next ∷ x.prev ∷ [])
            → extended_of o₃ h₃ a₃ d
            ≡ legalize_vertex (length row) (position_of q) (unflipped (with_inner_vertex C) (split_edge L C e) 2) C.vertices
        inner-row o₃ h₃ a₃ d w = all-legalized inner-grown g k v (extended_of o₃ h₃ a₃ d) w

-- ---- on the boundary
module _ {C : Counts} {q : List ℤ} {o h a row : List ℕ} {e : ℕ} (R : BoundaryEdgeReady C q o h a row e) where
  pub boundary-here : There h e
  boundary-here = there (grow-held R.grow) R.edge

  pub boundary-operation : HalfEdgeReady o h a C e
  boundary-operation = half-edge-ready (grow-held R.grow) (grow-room R.grow) R.edge

  module _ {x : HalfEdgeEntry} (X : EntryOf (halves_of h) e x) where
    boundary-star : star_edges (with_vertex C) (split_half_edge (links_of o h a) C e) C.vertices ≡ x.next ∷ x.prev ∷ []
    unfolding links_of
    boundary-star = half-edge-star R.grow.rules R.edge R.inner R.outer ∙ rw (X.next, X.prev) refl

    module _ {o₁ h₁ a₁ : List ℕ} (l : SameLengths o h a row o₁ h₁ a₁ row) {r : Counts} (N : HalfEdgeSplit o h a o₁ h₁ a₁ C e r) where
      boundary-grown : Grown C (with_vertex C) (split_half_edge (links_of o h a) C e) 1 x.next x.prev [] q o h a row o₁ h₁ a₁ r
      boundary-grown = record { grow = R.grow; few = omega arith; star = boundary-star; lengths = l; links = N.links; result = N.result }

      pub boundary-two : TwoReady q o₁ h₁ a₁ row (record { counts = r; faces = 1; flips = 0; full = false }) x.next x.prev
      boundary-two = two_ready boundary-grown

      -- the two are all of them
      pub boundary-row : (g : Extension) {o₂ h₂ a₂ row₂ : List ℕ} → SameLengths o₁ h₁ a₁ row o₂ h₂ a₂ row₂
          → extended_of o₂ h₂ a₂ g ≡ legalize_each (length row) (position_of q)
          (extended_of o₁ h₁ a₁ (record { counts = r; faces = 1; flips = 0; full = false })) (x.next ∷ x.prev ∷ [])
          → extended_of o₂ h₂ a₂ g
          ≡ legalize_vertex (length row) (position_of q) (unflipped (with_vertex C) (split_half_edge (links_of o h a) C e) 1) C.vertices
      boundary-row g {o₂} {h₂} {a₂} {row₂} k v =
          all-legalized boundary-grown g k v (extended_of o₂ h₂ a₂ g)
          (sym (each_none (length row₂) (position_of q) (extended_of o₂ h₂ a₂ g)))
