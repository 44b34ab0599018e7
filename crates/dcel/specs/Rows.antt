-- The rows of a mesh that the caller lends, seen as functions: a contract says what becomes of these functions, and
-- nothing of how a row is laid out.
-- The rows come in the order of the signatures: out edges, half-edges, faces. Definitions only; their laws are in `Views`.
--
-- A function sees every entry of its row, and 0 past the end: entry 4x + k of the row of half-edges is field k of
-- half-edge x for every x, whether or not x is in use, and also where the row's end cuts x off. So an equation of
-- functions and the kept lengths fix each row over its whole length (`halves-from`, `outs-from` and `faces-from` in
-- `Views`), an entry that no store names keeps its value, and no contract needs a second clause on lists.
use Rattle.std.specs.Prelude.{ℕ, zero, suc, ◌+◌, ◌*◌, ◌/◌, ◌%◌, ◌<◌, ◌≡◌, List, [], ◌∷◌, ℤ, pos, length, get_or}
use Rattle.sums.specs.Put.{put}
use Rattle.math.specs.declared.Point.{Point}
use Rattle.math.specs.Determinant.{InRange}
use Rattle.mesh.specs.Mesh.{Links}
use Rattle.dcel.specs.declared.handles.HalfEdgeEntry.{HalfEdgeEntry}

-- 01: "Each has next, prev, face, origin." These four functions are what the row of half-edges is seen as
pub record Halves : Type 0 where
  pub next : ℕ → ℕ
  pub prev : ℕ → ℕ
  pub face : ℕ → ℕ
  pub origin : ℕ → ℕ

-- the row of half-edges has four numbers to each
unfoldable pub halves_of : List ℕ → Halves
halves_of h = record {
  next = λ x. get_or h (4 * x) 0;
  prev = λ x. get_or h (4 * x + 1) 0;
  face = λ x. get_or h (4 * x + 2) 0;
  origin = λ x. get_or h (4 * x + 3) 0;
}

-- a row of one number to each place: out edges by vertex, stored edges by face
unfoldable pub row_of : List ℕ → ℕ → ℕ
row_of l x = get_or l x 0

-- the row of positions, two numbers to each vertex, as the points that the mesh's area and height take
unfoldable pub position_of : List ℤ → ℕ → Point
position_of p v = record { x = get_or p (2 * v) (pos 0); y = get_or p (2 * v + 1) (pos 0) }

-- the three rows together: out edges, half-edges, faces
unfoldable pub links_of : List ℕ → List ℕ → List ℕ → Links
links_of o h a =
    let H = halves_of h in
    record { next = H.next; prev = H.prev; face = H.face; origin = H.origin; out = row_of o; adjacent = row_of a }

-- the four numbers of half-edge e are in the row
abbrev pub There : List ℕ → ℕ → Type 0
There h e = 4 * e + 3 < length h

-- vertex v has a position in the row, and it is in range
pub record Placed (q : List ℤ) (v : ℕ) : Type 0 where
  pub there : 2 * v + 1 < length q
  pub range : InRange (position_of q v)

-- stores to one field of one half-edge
unfoldable pub set_next : Halves → ℕ → ℕ → Halves
set_next H e v = record { next = put H.next e v; prev = H.prev; face = H.face; origin = H.origin }

unfoldable pub set_prev : Halves → ℕ → ℕ → Halves
set_prev H e v = record { next = H.next; prev = put H.prev e v; face = H.face; origin = H.origin }

unfoldable pub set_face : Halves → ℕ → ℕ → Halves
set_face H e v = record { next = H.next; prev = H.prev; face = put H.face e v; origin = H.origin }

unfoldable pub set_origin : Halves → ℕ → ℕ → Halves
set_origin H e v = record { next = H.next; prev = H.prev; face = H.face; origin = put H.origin e v }

-- half-edge e as a whole, in the fields' order
abbrev pub set_half_edge : Halves → ℕ → HalfEdgeEntry → Halves
set_half_edge H e w = set_origin (set_face (set_prev (set_next H e w.next) e w.prev) e w.face) e w.origin

-- w is what stands at half-edge e
pub record EntryOf (H : Halves) (e : ℕ) (w : HalfEdgeEntry) : Type 0 where
  pub next : w.next ≡ H.next e
  pub prev : w.prev ≡ H.prev e
  pub face : w.face ≡ H.face e
  pub origin : w.origin ≡ H.origin e

-- b follows a
abbrev pub set_link : Halves → ℕ → ℕ → Halves
set_link H a b = set_prev (set_next H a b) b a

-- b follows a, c follows b and a follows c
abbrev pub set_cycle : Halves → ℕ → ℕ → ℕ → Halves
set_cycle H a b c = set_link (set_link (set_link H a b) b c) c a

-- Back from functions to rows, for a statement on whole rows: the row of n entries
unfoldable pub row_from_of : {A : Type 0} → ℕ → (ℕ → A) → List A
row_from_of zero f = []
row_from_of (suc n) f = f 0 ∷ row_from_of n (λ i. f (suc i))

-- field k of half-edge x
unfoldable pub field : Halves → ℕ → ℕ → ℕ
field H x zero = H.next x
field H x (suc zero) = H.prev x
field H x (suc (suc zero)) = H.face x
field H x (suc (suc (suc k))) = H.origin x

unfoldable pub halves_in : Links → Halves
halves_in L = record { next = L.next; prev = L.prev; face = L.face; origin = L.origin }

unfoldable pub halves_from : ℕ → Links → List ℕ
halves_from n L = row_from_of n (λ i. field (halves_in L) (i / 4) (i % 4))

unfoldable pub coordinate : Point → ℕ → ℤ
coordinate w zero = w.x
coordinate w (suc k) = w.y

unfoldable pub positions_from : ℕ → (ℕ → Point) → List ℤ
positions_from n P = row_from_of n (λ i. coordinate (P (i / 2)) (i % 2))
