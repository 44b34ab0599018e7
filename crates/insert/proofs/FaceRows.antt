-- What `insert_into_face` needs of the rows at each call, and what all of its calls leave. Assumes nothing.
use mathlib.Core.Bool.{false}
use mathlib.Core.List.{List, [], ◌∷◌}
use mathlib.Core.Path.{◌≡◌, refl, sym, ◌∙◌, ap}
use Prim.Native.Nat.{ℕ, ◌<◌}
use native.Mathlib.Omega.{arith}
use lib.IntN.{ℤ}
use lib.ListN.{length}
use Rattle.corner.specs.declared.Extension.{Extension}
use Rattle.corner.specs.CornerRows.{extended_of}
use Rattle.corner.specs.RowsLaws.{SameLengths}
use Rattle.dcel.specs.Rows.{halves_of, row_of, links_of, position_of, There}
use Rattle.dcel.specs.MeshHeld.{there, there-adjacent, next-in, adjacent-in}
use Rattle.insertion_laws.specs.OnEdge.{Inserted, inserted-into-triangle}
use Rattle.insertion.specs.Operations.{insert_into_triangle, with_inner_vertex}
use Rattle.insertion.specs.Plane.{Inside}
use Rattle.insertion_operations.specs.Insert.{TriangleReady, IntoTriangle}
use Rattle.insertion_operations.specs.Ready.{triangle-ready}
use Rattle.location.proofs.PlaceLaws.{in-face-at}
use Rattle.math.specs.declared.Point.{Point}
use Rattle.mesh.specs.declared.Counts.{Counts}
use Rattle.mesh.specs.Mesh.{Links, In}
use Rattle.mesh.specs.Triangle.{triangle}
use Rattle.skipped.specs.Insert.{legalize_each, star_edges, insert_into_face}
use Rattle.skipped.proofs.Stars.{triangle-star}
use Rattle.insert.proofs.GrowRows.{vertex-held, grow-by, grow-room, Grown, two_ready, rest-ready, rest-used, all-legalized}
use Rattle.insert.specs.InsertRows.{OneReady, TwoReady, GrowReady, FaceReady}

inside_of : {a b b' c c' v : Point} → b ≡ b' → c ≡ c' → Inside a b c v → Inside a b' c' v
inside_of x y I = rw (← x, ← y) I

module _ {C : Counts} {q : List ℤ} {o h a row : List ℕ} {f : ℕ} (R : FaceReady C q o h a row f) where
  abbrev L : Links
  L = links_of o h a

  abbrev p : ℕ → Point
  p = R.ready.places

  face-inserted : Inserted C (with_inner_vertex C) L (insert_into_triangle L C f) p (position_of q)
  face-inserted =
      let I = R.face in
      let W = R.ready.good.wf in
      let l = W.ranges.adjacent< I.below in
      let s = W.faces.stored I.below in
      let T = triangle W l (rw s I.inner) in
      inserted-into-triangle R.ready.good R.ready.same R.ready.range I.inner I.below
      (inside_of (ap p T.to-a) (ap (λ (x : ℕ). p (L.origin x)) (sym T.next-b)) (in-face-at W p (position_of q C.vertices) I l s))

  face-grow : GrowReady C (with_inner_vertex C) (insert_into_triangle L C f) q o h a row
  face-grow = grow-by R.ready face-inserted refl

  -- ---- the edges of the face
  pub face-here : f < length a
  face-here = there-adjacent (vertex-held R.ready) R.face.below

  module _ {e0 : ℕ} (x0 : e0 ≡ row_of a f) where
    first-in : In C e0
    first-in = rw x0 (adjacent-in (vertex-held R.ready) R.face.below)

    pub face-first : There h e0
    face-first = there (vertex-held R.ready) first-in

    pub face-second : {e1 : ℕ} → e1 ≡ (halves_of h).next e0 → There h e1
    face-second x1 = rw x1 (there (vertex-held R.ready) (next-in (vertex-held R.ready) first-in))

  -- ---- the operation
  pub face-operation : TriangleReady o h a C f
  face-operation = triangle-ready (vertex-held R.ready) (grow-room face-grow) R.face.below

  module _ {e0 e1 e2 : ℕ} (x0 : e0 ≡ row_of a f) (x1 : e1 ≡ (halves_of h).next e0) (x2 : e2 ≡ (halves_of h).next e1) where
    face-star : star_edges (with_inner_vertex C) (insert_into_triangle L C f) C.vertices ≡ e1 ∷ e2 ∷ e0 ∷ []
    unfolding links_of
    face-star = triangle-star R.ready.good.wf R.face.inner R.face.below ∙ rw (x2, x1, x0) refl

    module _ {o₁ h₁ a₁ : List ℕ} (l : SameLengths o h a row o₁ h₁ a₁ row) {r : Counts} (N : IntoTriangle o h a o₁ h₁ a₁ C f r) where
      face-grown : Grown C (with_inner_vertex C) (insert_into_triangle L C f) 2 e1 e2 (e0 ∷ []) q o h a row o₁ h₁ a₁ r
      face-grown = record { grow = face-grow; few = omega arith; star = face-star; lengths = l; links = N.links; result = N.result }

      pub face-two : TwoReady q o₁ h₁ a₁ row (record { counts = r; faces = 2; flips = 0; full = false }) e1 e2
      face-two = two_ready face-grown

      module _ (g : Extension) {o₂ h₂ a₂ row₂ : List ℕ} (k : SameLengths o₁ h₁ a₁ row o₂ h₂ a₂ row₂)
          (x : extended_of o₂ h₂ a₂ g ≡ legalize_each (length row) (position_of q)
          (extended_of o₁ h₁ a₁ (record { counts = r; faces = 2; flips = 0; full = false })) (e1 ∷ e2 ∷ [])) where
        pub face-one : OneReady q o₂ h₂ a₂ row₂ g e0
        face-one = record { ready = rest-ready face-grown g k x; edge = (rest-used face-grown g k x).0 }

        pub face-row : (o₃ h₃ a₃ : List ℕ) (d : Extension)
            → extended_of o₃ h₃ a₃ d ≡ legalize_each (length row₂) (position_of q) (extended_of o₂ h₂ a₂ g) (e0 ∷ [])
            → extended_of o₃ h₃ a₃ d ≡ insert_into_face (length row) (position_of q) C L f
        unfolding insert_into_face
        face-row o₃ h₃ a₃ d y = all-legalized face-grown g k x (extended_of o₃ h₃ a₃ d) y
