-- The three operations that change links, each link as dcel_operations.rs stores it. Definitions only.
use Rattle.std.specs.Prelude.{ℕ, ◌+◌, ◌*◌}
use Rattle.mesh.specs.declared.Counts.{Counts}
use Rattle.mesh.specs.Mesh.{Links}
use Rattle.sums.specs.Half.{rev}
use Rattle.sums.specs.Put.{put}

-- a leads to b, b to c and c to a
abbrev pub cycle : (ℕ → ℕ) → ℕ → ℕ → ℕ → ℕ → ℕ
cycle f a b c = put (put (put f a b) b c) c a

-- and back: b leads to a, c to b and a to c
abbrev pub back_cycle : (ℕ → ℕ) → ℕ → ℕ → ℕ → ℕ → ℕ
back_cycle f a b c = put (put (put f b a) c b) a c

-- `flip_cw` of the edge with the half-edges e and t, whose neighbours are named: its triangles e, en, ep and t, tn, tp
-- become e, tp, en and t, ep, tn
unfoldable pub flip_between : Links → ℕ → ℕ → ℕ → ℕ → ℕ → ℕ → Links
flip_between L e en ep t tn tp = record {
  next = cycle (cycle L.next e tp en) t ep tn;
  prev = back_cycle (back_cycle L.prev e tp en) t ep tn;
  face = put (put L.face tp (L.face e)) ep (L.face t);
  origin = put (put L.origin e (L.origin ep)) t (L.origin tp);
  out = put (put L.out (L.origin e) tn) (L.origin t) en;
  adjacent = put (put L.adjacent (L.face e) e) (L.face t) t;
}

-- `flip_cw` of the edge u
unfoldable pub flip_cw : Links → ℕ → Links
flip_cw L u = flip_between L (2 * u) (L.next (2 * u)) (L.prev (2 * u)) (2 * u + 1) (L.next (2 * u + 1)) (L.prev (2 * u + 1))

-- `create_single_face_between_edge_and_next` of the outer half-edge e, between p and n, with q after n: the new edge's
-- half-edge i lies in the new face g, its half-edge o in the outer face
unfoldable pub face_between : Links → Counts → ℕ → ℕ → ℕ → ℕ → Links
face_between L C p e n q =
    let i = 2 * C.edges in
    let o = 2 * C.edges + 1 in
    let g = C.faces in
    record {
      next = put (put (put (put L.next i e) n i) o q) p o;
      prev = put (put (put (put L.prev e i) i n) q o) o p;
      face = put (put (put (put L.face i g) o 0) e g) n g;
      origin = put (put L.origin i (L.origin (rev n))) o (L.origin e);
      out = L.out;
      adjacent = put (put L.adjacent 0 o) g i;
    }

unfoldable pub create_single_face_between_edge_and_next : Links → Counts → ℕ → Links
create_single_face_between_edge_and_next L C e = face_between L C (L.prev e) e (L.next e) (L.next (L.next e))

-- one edge and one face more
abbrev pub with_face : Counts → Counts
with_face C = record { vertices = C.vertices; edges = C.edges + 1; faces = C.faces + 1 }

-- `create_new_face_adjacent_to_edge` of the outer half-edge e, between p and n, with the new vertex: a = new_next and
-- b = new_prev lie in the new face g with e, their reverses a + 1 and b + 1 in the outer face
unfoldable pub face_adjacent : Links → Counts → ℕ → ℕ → ℕ → Links
face_adjacent L C p e n =
    let a = 2 * C.edges in
    let b = 2 * C.edges + 2 in
    let g = C.faces in
    let v = C.vertices in
    record {
      next = put (put (put (put (put (put L.next a b) (a + 1) n) b e) (b + 1) (a + 1)) e a) p (b + 1);
      prev = put (put (put (put (put (put L.prev a e) (a + 1) (b + 1)) b a) (b + 1) p) e b) n (a + 1);
      face = put (put (put (put (put L.face a g) (a + 1) (L.face e)) b g) (b + 1) (L.face e)) e g;
      origin = put (put (put (put L.origin a (L.origin (rev e))) (a + 1) v) b v) (b + 1) (L.origin e);
      out = put L.out v b;
      adjacent = put (put L.adjacent g e) (L.face e) (b + 1);
    }

unfoldable pub create_new_face_adjacent_to_edge : Links → Counts → ℕ → Links
create_new_face_adjacent_to_edge L C e = face_adjacent L C (L.prev e) e (L.next e)

-- one vertex, two edges and one face more
abbrev pub with_vertex : Counts → Counts
with_vertex C = record { vertices = C.vertices + 1; edges = C.edges + 2; faces = C.faces + 1 }
