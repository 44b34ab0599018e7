-- The search while all vertices lie on one line: `locate_when_all_vertices_on_line` of triangulation_ext.rs, and what each
-- answer claims. Definitions only, and the search computes; `LocateLaws` proves the claims.
use Rattle.std.specs.Prelude.{Bool, true, false, not, cond, ◌&&◌, ◌≡◌, ◌⊎◌, ℕ, suc, ◌<◌, T, ltb, eqb, pos, ◌<ℤ◌}
use Rattle.math.specs.declared.Point.{Point}
use Rattle.math.specs.Determinant.{orient2d, by_sign}
use Rattle.mesh.specs.declared.Counts.{Counts}
use Rattle.mesh.specs.Mesh.{Links, In, to, turn}
use Rattle.sums.specs.Bounded.{all_below, first_below}
use Rattle.sums.specs.Half.{rev}
use Rattle.line.specs.declared.PositionWhenAllVerticesOnLine.{PositionWhenAllVerticesOnLine}
use Rattle.line.specs.declared.PositionWhenAllVerticesOnLine.TheVariants.{OnEdge, OnVertex, NotOnLine, ExtendingLine}
use Rattle.line.specs.Order.{comes_before, is_same_of}
use Rattle.line.specs.Line.{Line}

-- no vertex stands between the positions a and b
unfoldable pub none_between : Counts → (ℕ → Point) → Point → Point → Bool
none_between C p a b = all_below C.vertices (λ u. not (comes_before a (p u) && comes_before (p u) b))

-- `vertices.sort_by(..)`, `vertices.binary_search_by(..)`: of the vertices in the order of their positions the one at q,
-- the last before q, and the first after q; the number of vertices where there is none
unfoldable pub vertex_on : Counts → (ℕ → Point) → Point → ℕ
vertex_on C p q = first_below C.vertices (λ v. is_same_of (p v) q)

unfoldable pub last_before : Counts → (ℕ → Point) → Point → ℕ
last_before C p q = first_below C.vertices (λ v. comes_before (p v) q && none_between C p (p v) q)

unfoldable pub first_after : Counts → (ℕ → Point) → Point → ℕ
first_after C p q = first_below C.vertices (λ v. comes_before q (p v) && none_between C p q (p v))

-- `get_edge_from_neighbors`: of the out edges of v, in turning order from the stored one, the first that leads to u. On a
-- line there are two at most
unfoldable pub edge_from_neighbors : Links → ℕ → ℕ → ℕ
edge_from_neighbors L v u = cond (eqb (to L (L.out v)) u) (L.out v) (turn L (L.out v))

-- `index_to_insert` is 0 where no vertex is before q, and the number of vertices where none is after it
unfoldable pub locate_on_line : Counts → Links → (ℕ → Point) → Point → PositionWhenAllVerticesOnLine
locate_on_line C L p q =
    let v = vertex_on C p q in
    let a = last_before C p q in
    let b = first_after C p q in
    cond (ltb v C.vertices) (OnVertex v)
    (cond (eqb a C.vertices) (ExtendingLine b)
    (cond (eqb b C.vertices) (ExtendingLine a) (OnEdge (edge_from_neighbors L b a))))

-- `query.is_on_left_side()`, `query.is_on_right_side()` of the first half-edge
unfoldable pub locate_when_all_vertices_on_line : Counts → Links → (ℕ → Point) → Point → PositionWhenAllVerticesOnLine
locate_when_all_vertices_on_line C L p q =
    by_sign (orient2d (p (L.origin 0)) (p (to L 0)) q) (NotOnLine 0) (NotOnLine (rev 0)) (locate_on_line C L p q)

-- ---- what an answer claims
-- insert_outside_of_convex_hull
pub record Off (C : Counts) (L : Links) (p : ℕ → Point) (q : Point) (e : ℕ) : Type 0 where
  pub used : In C e
  pub left : pos 0 <ℤ orient2d (p (L.origin e)) (p (to L e)) q

pub record AtVertex (C : Counts) (p : ℕ → Point) (q : Point) (v : ℕ) : Type 0 where
  pub used : v < C.vertices
  pub here : p v ≡ q
