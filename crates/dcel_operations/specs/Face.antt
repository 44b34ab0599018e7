-- What the two operations that add a face store in the row of half-edges, what they touch, and what they ensure. The
-- links that they make are `create_single_face_between_edge_and_next` and `create_new_face_adjacent_to_edge` in the mesh's
-- `Operations`.
use Rattle.std.specs.Prelude.{ℕ, ◌+◌, ◌*◌, ◌<◌, ◌^◌, ◌≡◌, List, length}
use Rattle.sums.specs.Half.{rev}
use Rattle.mesh.specs.declared.Counts.{Counts}
use Rattle.mesh.specs.Operations.{create_single_face_between_edge_and_next, create_new_face_adjacent_to_edge, with_face, with_vertex}
use Rattle.dcel.specs.declared.handles.HalfEdgeEntry.{HalfEdgeEntry}
use Rattle.dcel.specs.Rows.{Halves, halves_of, links_of, There, set_next, set_prev, set_face, set_origin, set_link, set_half_edge}
use Rattle.dcel_operations.specs.declared.NewEdge.{NewEdge}

-- `create_single_face_between_edge_and_next`: the new half-edge i closes the triangle e, n, i, and o takes the place of
-- e and n between p and q
unfoldable pub single_links : Halves → ℕ → ℕ → ℕ → ℕ → ℕ → ℕ → Halves
single_links H p e n q i o = set_link (set_link (set_link (set_link H i e) n i) o q) p o

-- the faces of the triangle g and of o, and the origins io of i and oo of o
unfoldable pub single_marks : Halves → ℕ → ℕ → ℕ → ℕ → ℕ → ℕ → ℕ → Halves
single_marks H e n i o g io oo = set_origin (set_origin (set_face (set_face (set_face (set_face H i g) o 0) e g) n g) i io) o oo

-- all that it touches is in the rows, and the new numbers fit
pub record SingleReady (h a : List ℕ) (C : Counts) (e : ℕ) : Type 0 where
  pub edges : 2 * C.edges + 1 < 2 ^ 32
  pub faces : C.faces + 1 < 2 ^ 32
  pub added : There h (2 * C.edges + 1)
  pub stored : C.faces < length a
  pub here : There h e
  pub prev : There h ((halves_of h).prev e)
  pub next : There h ((halves_of h).next e)
  pub after : There h ((halves_of h).next ((halves_of h).next e))
  pub back : There h (rev ((halves_of h).next e))

-- what it leaves: the links, whatever the out edges, which it does not touch; the counts with one edge and one face
-- more; the new half-edge of the outer face
pub record SingleFace (h a h' a' : List ℕ) (C : Counts) (e : ℕ) (r : NewEdge) : Type 0 where
  pub links : (o : List ℕ) → links_of o h' a' ≡ create_single_face_between_edge_and_next (links_of o h a) C e
  pub result : r ≡ record { counts = with_face C; edge = 2 * C.edges + 1 }

-- `create_new_face_adjacent_to_edge`: the four new half-edges, a = new_next and b = new_prev with their reverses, about
-- the outer half-edge e between p and n, with the new face g and the new vertex v. w is what stood at e, to is where e
-- leads
unfoldable pub new_edges : Halves → ℕ → ℕ → ℕ → ℕ → ℕ → HalfEdgeEntry → Halves
new_edges H a e g v to w =
    let b = a + 2 in
    let H₁ = set_half_edge H a (record { next = b; prev = e; face = g; origin = to }) in
    let H₂ = set_half_edge H₁ (a + 1) (record { next = w.next; prev = b + 1; face = w.face; origin = v }) in
    let H₃ = set_half_edge H₂ b (record { next = e; prev = a; face = g; origin = v }) in
    set_half_edge H₃ (b + 1) (record { next = a + 1; prev = w.prev; face = w.face; origin = w.origin })

-- e and its old neighbours p and n lead to the new half-edges
unfoldable pub new_links : Halves → ℕ → ℕ → ℕ → ℕ → ℕ → Halves
new_links H a p e n g =
    let b = a + 2 in
    set_next (set_prev (set_face (set_prev (set_next H e a) e b) e g) n (a + 1)) p (b + 1)

-- all that it touches is in the rows, and the new numbers fit
pub record NewReady (o h a : List ℕ) (C : Counts) (e : ℕ) : Type 0 where
  pub edges : 2 * C.edges + 3 < 2 ^ 32
  pub faces : C.faces + 1 < 2 ^ 32
  pub vertices : C.vertices + 1 < 2 ^ 32
  pub added : There h (2 * C.edges + 3)
  pub stored : C.faces < length a
  pub based : C.vertices < length o
  pub here : There h e
  pub prev : There h ((halves_of h).prev e)
  pub next : There h ((halves_of h).next e)
  pub back : There h (rev e)
  pub face : (halves_of h).face e < length a

-- what it leaves: the links, and the counts with one vertex, two edges and one face more
pub record NewFace (o h a o' h' a' : List ℕ) (C : Counts) (e : ℕ) (r : Counts) : Type 0 where
  pub links : links_of o' h' a' ≡ create_new_face_adjacent_to_edge (links_of o h a) C e
  pub result : r ≡ with_vertex C
