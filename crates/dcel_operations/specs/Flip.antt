-- What `flip_cw` stores in the row of half-edges, and what it touches. `flip_cw` in the mesh's `Operations` says what it does to the links.
use Rattle.std.specs.Prelude.{ℕ, ◌+◌, ◌*◌, ◌<◌, ◌^◌, List, length}
use Rattle.dcel.specs.Rows.{Halves, halves_of, There, set_face, set_origin, set_cycle}

-- the triangles e, en, ep and t, tn, tp become e, tp, en and t, ep, tn
unfoldable pub flip_links : Halves → ℕ → ℕ → ℕ → ℕ → ℕ → ℕ → Halves
flip_links H e en ep t tn tp = set_cycle (set_cycle H e tp en) t ep tn

-- e now starts where ep does and t where tp does; tp comes to the face ef, ep to the face tf
unfoldable pub flip_marks : Halves → ℕ → ℕ → ℕ → ℕ → ℕ → ℕ → Halves
flip_marks H e ep t tp ef tf = set_face (set_face (set_origin (set_origin H e (H.origin ep)) t (H.origin tp)) tp ef) ep tf

-- half-edge e and what it names are in the rows
pub record Names (o h a : List ℕ) (e : ℕ) : Type 0 where
  pub here : There h e
  pub next : There h ((halves_of h).next e)
  pub prev : There h ((halves_of h).prev e)
  pub face : (halves_of h).face e < length a
  pub origin : (halves_of h).origin e < length o

-- all that `flip_cw` of edge u touches is in the rows
pub record FlipReady (o h a : List ℕ) (u : ℕ) : Type 0 where
  pub small : 2 * u + 1 < 2 ^ 32
  pub e : Names o h a (2 * u)
  pub t : Names o h a (2 * u + 1)
