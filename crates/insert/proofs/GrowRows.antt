-- Rows in which an operation has added a vertex, and then the edges around it are legalized: two of them, and the rest of
-- them. Over plain rows, so that the needs of the code are single applications. Assumes nothing.
use mathlib.Core.Bool.{false}
use mathlib.Core.List.{List, [], ◌∷◌}
use mathlib.Core.Path.{◌≡◌, refl, sym, ◌∙◌, ap₂, subst, subst⁻¹}
use Prim.Native.Nat.{ℕ, ◌+◌, ◌≤◌}
use native.Mathlib.Nat.{le_refl}
use native.Mathlib.Omega.{arith}
use lib.IntN.{ℤ}
use lib.ListN.{length}
use Rattle.conflicts.proofs.FlipsWithinLaws.{within_none}
use Rattle.corner.specs.declared.Extension.{Extension}
use Rattle.corner.specs.Corner.{Extended}
use Rattle.corner.specs.CornerRows.{extended_of, MeshRoom, Ready}
use Rattle.corner.specs.RowsLaws.{SameLengths, sized-room}
use Rattle.dcel.specs.Rows.{links_of, position_of}
use Rattle.dcel.specs.MeshHeld.{Room, MeshHeld}
use Rattle.insertion_laws.specs.OnEdge.{Inserted}
use Rattle.mesh.specs.declared.Counts.{Counts}
use Rattle.mesh.specs.Mesh.{Links, In}
use Rattle.mesh.proofs.CountsLaws.{halves-fit, faces-fit}
use Rattle.mesh.specs.Wf.{Wf}
use Rattle.skipped.specs.Insert.{legalize_each, star_edges, legalize_vertex, unflipped}
use Rattle.skipped.proofs.LegalizeVertexLaws.{star-in}
use Rattle.sums.proofs.Cases.{All}
use Rattle.insert.specs.InsertRows.{TwoReady, GrowReady, VertexReady}
use Rattle.insert.proofs.EachRows.{each_counts, each-ready, each_more}

-- rows that are sized for one vertex more hold the mesh as it is
sized-held : {C : Counts} {o h a row : List ℕ} → Wf C (links_of o h a) → C.vertices + 1 ≤ length o → MeshRoom (C.vertices + 1) h a row
    → MeshHeld C o h a
sized-held W u s =
    let e = halves-fit W (le_refl _) in let f = faces-fit W (le_refl _) in
    record { room = record { outs = omega arith; halves = omega arith; faces = omega arith; small = omega arith }; rules = W }

-- ---- before the operation
module _ {C : Counts} {q : List ℤ} {o h a row : List ℕ} (R : VertexReady C q o h a row) where
  pub vertex-held : MeshHeld C o h a
  vertex-held = sized-held R.good.wf R.outs R.sized

  -- an operation that puts the vertex in
  pub grow-by : {K : Counts} {M : Links} → Inserted C K (links_of o h a) M R.places (position_of q) → K.vertices ≡ C.vertices + 1
      → GrowReady C K M q o h a row
  grow-by N v = record { rules = R.good.wf; good = N.good; grown = v; outs = R.outs; positions = R.positions; sized = R.sized }

module _ {C K : Counts} {M : Links} {q : List ℤ} {o h a row : List ℕ} (R : GrowReady C K M q o h a row) where
  pub grow-held : MeshHeld C o h a
  grow-held = sized-held R.rules R.outs R.sized

  pub grow-room : Room K o h a
  grow-room = sized-room o o h a R.outs R.sized R.grown R.good refl refl refl

-- ---- after the operation, which has made n faces: it has left the links M and the counts K in the rows, and the edges
-- around the new vertex are the first, the second and the rest
pub record Grown (C K : Counts) (M : Links) (n first second : ℕ) (rest : List ℕ) (q : List ℤ) (o h a row o₁ h₁ a₁ : List ℕ) (r : Counts) : Type 0 where
  pub grow : GrowReady C K M q o h a row
  pub few : n ≤ K.faces
  pub star : star_edges K M C.vertices ≡ first ∷ second ∷ rest
  pub lengths : SameLengths o h a row o₁ h₁ a₁ row
  pub links : links_of o₁ h₁ a₁ ≡ M
  pub result : r ≡ K

module _ {C K : Counts} {M : Links} {n first second : ℕ} {rest : List ℕ} {q : List ℤ} {o h a row o₁ h₁ a₁ : List ℕ} {r : Counts}
    (G : Grown C K M n first second rest q o h a row o₁ h₁ a₁ r) where
  abbrev added : Extension
  added = record { counts = r; faces = n; flips = 0; full = false }

  added_is : extended_of o₁ h₁ a₁ added ≡ unflipped K M n
  unfolding extended_of
  added_is = rw (G.result, G.links) refl

  star-used : All (In r) (first ∷ second ∷ rest)
  star-used =
      subst⁻¹ (λ (D : Counts). All (In D) (first ∷ second ∷ rest)) G.result
      (subst (All (In K)) G.star (star-in G.grow.good.wf (let v = G.grow.grown in omega arith)))

  added-ready : Ready q o₁ h₁ a₁ row added
  added-ready =
      let R = G.grow in let l = G.lengths in let s = R.sized in let v = R.grown in
      rw G.result (record {
        rows = record {
          room = sized-room o o₁ h₁ a₁ R.outs s v R.good l.outs l.halves l.faces;
          positions = (let k = R.positions in omega arith);
          good = rw G.links R.good;
        };
        sized = record { halves = omega (arith, l.halves); faces = omega (arith, l.faces); pending = s.pending; small = omega arith };
        flips = within_none;
        faces = G.few;
      })

  pub two_ready : TwoReady q o₁ h₁ a₁ row added first second
  two_ready = record { ready = added-ready; first-in = star-used.0; second-in = star-used.1.0 }

  -- ---- after two of them
  module _ (g : Extension) {o₂ h₂ a₂ row₂ : List ℕ} (k : SameLengths o₁ h₁ a₁ row o₂ h₂ a₂ row₂)
      (x : extended_of o₂ h₂ a₂ g ≡ legalize_each (length row) (position_of q) (extended_of o₁ h₁ a₁ added) (first ∷ second ∷ [])) where
    two-used : All (In r) (first ∷ second ∷ [])
    two-used = (star-used.0, (star-used.1.0, tt))

    pub rest-ready : Ready q o₂ h₂ a₂ row₂ g
    rest-ready = each-ready added-ready (first ∷ second ∷ []) two-used k g x

    pub rest-used : All (In g.counts) rest
    rest-used =
        subst⁻¹ (λ (D : Counts). All (In D) rest) (each_counts added-ready (first ∷ second ∷ []) two-used k g x) star-used.1.1

    -- ---- and after the rest
    pub all-legalized : (m : Extended) → m ≡ legalize_each (length row₂) (position_of q) (extended_of o₂ h₂ a₂ g) rest
        → m ≡ legalize_vertex (length row) (position_of q) (unflipped K M n) C.vertices
    unfolding legalize_vertex
    all-legalized m y =
        each_more added-ready (first ∷ second ∷ []) two-used k g x rest y
        ∙ ap₂ (λ (m : Extended) (l : List ℕ). legalize_each (length row) (position_of q) m l) added_is (sym G.star)
