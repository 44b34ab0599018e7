-- The stores of each operation make the links of its definition: what its calls ensure, over plain lists, joined in one
-- step. Assumes nothing.
use mathlib.Core.Bool.{Bool, true, false}
use Prim.Native.Nat.{ℕ, ◌+◌, ◌*◌}
use mathlib.Core.Path.{◌≡◌}
use mathlib.Core.List.{List}
use lib.Dec.{eqb}
use Rattle.sums.specs.Put.{put}
use Rattle.sums.specs.Half.{rev}
use Rattle.mesh.specs.declared.Counts.{Counts}
use Rattle.line.specs.Operations.{setup_initial_two_vertices, extend_at, extend_line, split_at_of, split_edge_when_all_vertices_on_line}
use Rattle.dcel.specs.declared.handles.HalfEdgeEntry.{HalfEdgeEntry}
use Rattle.dcel.specs.Rows.{halves_of, row_of, links_of, There, EntryOf, set_next, set_prev, set_face, set_origin}
use Rattle.line_operations.specs.OnLine.{set_edge, new_edge, split_halves, ExtendReady, HalvesReady, HalvesSplit}

pub initial : (first second : ℕ) (o o₁ o₂ h h₁ a a₁ : List ℕ) → halves_of h₁ ≡ set_edge (halves_of h) 0 0 first 1 1 second 0 0
    → row_of o₁ ≡ put (row_of o) first 0 → row_of o₂ ≡ put (row_of o₁) second 1 → row_of a₁ ≡ put (row_of a) 0 0
    → links_of o₂ h₁ a₁ ≡ setup_initial_two_vertices (links_of o h a) first second
unfolding links_of setup_initial_two_vertices set_edge set_next set_prev set_face set_origin
initial first second o o₁ o₂ h h₁ a a₁ l r s u = rw (l, s, r, u)

-- the half-edge to the end vertex is in the row
pub in-edge-there : {o h : List ℕ} {C : Counts} {end x i : ℕ} → ExtendReady o h C end → x ≡ row_of o end → i ≡ rev x → There h i
in-edge-there R p q = rw (q, p) R.back

pub extended : (C : Counts) (end x i f : ℕ) (a o o₁ h h₁ h₂ h₃ : List ℕ) → x ≡ row_of o end → i ≡ rev x → f ≡ (halves_of h).face x
    → halves_of h₁ ≡ set_prev (halves_of h) x (2 * C.edges) → halves_of h₂ ≡ set_next (halves_of h₁) i (2 * C.edges + 1)
    → halves_of h₃ ≡ set_edge (halves_of h₂) (2 * C.edges) f C.vertices x (2 * C.edges + 1) end (2 * C.edges) i
    → row_of o₁ ≡ put (row_of o) C.vertices (2 * C.edges)
    → links_of o₁ h₃ a ≡ extend_line (links_of o h a) C end
unfolding links_of extend_line extend_at set_edge set_next set_prev set_face set_origin
extended C end x i f a o o₁ h h₁ h₂ h₃ p q r l m n s = rw (n, m, l, s, r, q, p)

-- what stands at the half-edges names what is in the row
module _ {h : List ℕ} {n e : ℕ} (R : HalvesReady h n e) where
  pub next-there : {x : HalfEdgeEntry} → EntryOf (halves_of h) e x → There h x.next
  next-there X = rw X.next R.next

  pub prev-there : {t : ℕ} {y : HalfEdgeEntry} → t ≡ rev e → EntryOf (halves_of h) t y → There h y.prev
  prev-there k Y = rw (Y.prev, k) R.prev

pub halves-split : (n v e t : ℕ) (h h₁ h₂ h₃ h₄ : List ℕ) {x y : HalfEdgeEntry} → t ≡ rev e
    → EntryOf (halves_of h) e x → EntryOf (halves_of h) t y
    → halves_of h₁ ≡ set_next (halves_of h) e n → halves_of h₂ ≡ set_prev (halves_of h₁) t (n + 1)
    → halves_of h₃ ≡ set_origin (halves_of h₂) t v
    → halves_of h₄ ≡ new_edge (eqb x.next t) (halves_of h₃) n x.face v y.origin e t x.next y.prev
    → HalvesSplit h h₄ n v e y.origin
unfolding split_halves
halves-split n v e t h h₁ h₂ h₃ h₄ k X Y l m s w = record {
  links = rw (w, s, m, l, X.next, X.face, Y.prev, Y.origin, k);
  to = rw (Y.origin, k);
}

-- the same for both cases of the definition: whether or not e led to an end of the line
split_at : (b : Bool) (C : Counts) (e t en tp : ℕ) (a o o₁ h h₁ : List ℕ)
    → halves_of h₁ ≡ new_edge b (set_origin (set_prev (set_next (halves_of h) e (2 * C.edges)) t (2 * C.edges + 1)) t C.vertices)
    (2 * C.edges) ((halves_of h).face e) C.vertices ((halves_of h).origin t) e t en tp
    → row_of o₁ ≡ put (put (row_of o) ((halves_of h).origin t) (2 * C.edges + 1)) C.vertices (2 * C.edges)
    → links_of o₁ h₁ a ≡ split_at_of b (links_of o h a) C e t en tp
unfolding links_of split_at_of new_edge set_edge set_next set_prev set_face set_origin
split_at true C e t en tp a o o₁ h h₁ l r = rw (l, r)
split_at false C e t en tp a o o₁ h h₁ l r = rw (l, r)

pub split : (C : Counts) (e to : ℕ) (a o o₁ o₂ h h₁ : List ℕ) → HalvesSplit h h₁ (2 * C.edges) C.vertices e to
    → row_of o₁ ≡ put (row_of o) to (2 * C.edges + 1) → row_of o₂ ≡ put (row_of o₁) C.vertices (2 * C.edges)
    → links_of o₂ h₁ a ≡ split_edge_when_all_vertices_on_line (links_of o h a) C e
unfolding links_of split_edge_when_all_vertices_on_line split_halves
split C e to a o o₁ o₂ h h₁ S r s = split_at _ C e _ _ _ a o o₂ h h₁ S.links (rw (s, r, S.to))
