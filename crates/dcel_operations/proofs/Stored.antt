-- The stores of each operation make the links of its definition: what its calls ensure, over plain lists, joined in one step. Assumes nothing.
use Prim.Native.Nat.{ℕ, ◌+◌, ◌*◌}
use mathlib.Core.Path.{◌≡◌}
use mathlib.Core.List.{List}
use Rattle.sums.specs.Put.{put}
use Rattle.mesh.specs.declared.Counts.{Counts}
use Rattle.mesh.specs.Operations.{flip_between, flip_cw, face_between, create_single_face_between_edge_and_next, face_adjacent, create_new_face_adjacent_to_edge}
use Rattle.sums.specs.Half.{rev}
use Rattle.dcel.specs.declared.handles.HalfEdgeEntry.{HalfEdgeEntry}
use Rattle.dcel.specs.Rows.{halves_of, row_of, links_of, There, EntryOf, set_next, set_prev, set_face, set_origin}
use Rattle.dcel_operations.specs.Flip.{flip_links, flip_marks}
use Rattle.dcel_operations.specs.Face.{single_links, single_marks, SingleReady, new_edges, new_links}

pub flipped : (u : ℕ) (o o₁ o₂ h h₁ h₂ a a₁ a₂ : List ℕ) {e t : HalfEdgeEntry} → EntryOf (halves_of h) (2 * u) e → EntryOf (halves_of h) (2 * u + 1) t
    → halves_of h₁ ≡ flip_marks (halves_of h) (2 * u) e.prev (2 * u + 1) t.prev e.face t.face
    → halves_of h₂ ≡ flip_links (halves_of h₁) (2 * u) e.next e.prev (2 * u + 1) t.next t.prev
    → row_of o₁ ≡ put (row_of o) e.origin t.next → row_of o₂ ≡ put (row_of o₁) t.origin e.next
    → row_of a₁ ≡ put (row_of a) e.face (2 * u) → row_of a₂ ≡ put (row_of a₁) t.face (2 * u + 1)
    → links_of o₂ h₂ a₂ ≡ flip_cw (links_of o h a) u
unfolding links_of flip_cw flip_between flip_marks flip_links set_next set_prev set_face set_origin
flipped u o o₁ o₂ h h₁ h₂ a a₁ a₂ p q m l r₁ r₂ s₁ s₂ =
    rw (l, m, r₂, r₁, s₂, s₁, p.next, p.prev, p.face, p.origin, q.next, q.prev, q.face, q.origin)

-- the half-edge after next is in the row
pub after-there : {h a : List ℕ} {C : Counts} {e q : ℕ} {w : HalfEdgeEntry} → SingleReady h a C e → EntryOf (halves_of h) e w → q ≡ (halves_of h).next w.next
    → There h q
after-there R E x = rw (x, E.next) R.after

pub single-face : (C : Counts) (e : ℕ) (o h h₁ h₂ a a₁ a₂ : List ℕ) {w : HalfEdgeEntry} {q io : ℕ} → EntryOf (halves_of h) e w
    → q ≡ (halves_of h).next w.next → io ≡ (halves_of h).origin (rev w.next)
    → halves_of h₁ ≡ single_marks (halves_of h) e w.next (2 * C.edges) (2 * C.edges + 1) C.faces io w.origin
    → halves_of h₂ ≡ single_links (halves_of h₁) w.prev e w.next q (2 * C.edges) (2 * C.edges + 1)
    → row_of a₁ ≡ put (row_of a) 0 (2 * C.edges + 1) → row_of a₂ ≡ put (row_of a₁) C.faces (2 * C.edges)
    → links_of o h₂ a₂ ≡ create_single_face_between_edge_and_next (links_of o h a) C e
unfolding links_of create_single_face_between_edge_and_next face_between single_marks single_links set_next set_prev set_face set_origin
single-face C e o h h₁ h₂ a a₁ a₂ E x y m l s₁ s₂ = rw (l, m, s₂, s₁, x, y, E.next, E.prev, E.origin)

pub new-face : (C : Counts) (e : ℕ) (o o₁ h h₁ h₂ a a₁ a₂ : List ℕ) {w : HalfEdgeEntry} {to : ℕ} → EntryOf (halves_of h) e w → to ≡ (halves_of h).origin (rev e)
    → halves_of h₁ ≡ new_edges (halves_of h) (2 * C.edges) e C.faces C.vertices to w
    → halves_of h₂ ≡ new_links (halves_of h₁) (2 * C.edges) w.prev e w.next C.faces
    → row_of o₁ ≡ put (row_of o) C.vertices (2 * C.edges + 2)
    → row_of a₁ ≡ put (row_of a) C.faces e → row_of a₂ ≡ put (row_of a₁) w.face (2 * C.edges + 2 + 1)
    → links_of o₁ h₂ a₂ ≡ create_new_face_adjacent_to_edge (links_of o h a) C e
unfolding links_of create_new_face_adjacent_to_edge face_adjacent new_edges new_links set_next set_prev set_face set_origin
new-face C e o o₁ h h₁ h₂ a a₁ a₂ E y n l r s₁ s₂ = rw (l, n, r, s₂, s₁, y, E.next, E.prev, E.face, E.origin)
