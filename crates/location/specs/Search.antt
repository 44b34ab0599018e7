-- The search for the place of q, as `locate_with_hint_fixed_core` makes it: first the walk to a nearest vertex, then
-- the rotating walk. Definitions only; `SearchLaws` has the laws.
use Rattle.std.specs.Prelude.{Bool, true, false, not, cond, ℕ, ◌*◌, eqb, ltb, ℤ}
use Rattle.std.specs.Int.Signed.{lt_z}
use Rattle.sums.specs.Bounded.{first_below, count}
use Rattle.sums.specs.Half.{rev}
use Rattle.sums.specs.Iterate.{iter, period_below}
use Rattle.sums.specs.Until.{until}
use Rattle.math.specs.declared.Point.{Point}
use Rattle.math.specs.Determinant.{by_sign, length2, is_position}
use Rattle.mesh.specs.declared.Counts.{Counts}
use Rattle.mesh.specs.Mesh.{Links, to, turn}
use Rattle.location.specs.declared.PositionInTriangulation.TheVariants.{OnVertex, OnFace, OnEdge, OutsideOfConvexHull}
use Rattle.location.specs.declared.SearchState.{SearchState}
use Rattle.location.specs.declared.SearchState.TheVariants.{Found, Onward}
use Rattle.location.specs.Place.{area_at, is_left, is_right_of}

abbrev pub is_outer : Links → ℕ → Bool
is_outer L e = eqb (L.face e) 0

-- ---- 1. a nearest vertex: from vertex 0, to the end of the first out edge that is strictly closer to q, while there is one
abbrev pub spokes : Counts → Links → ℕ → ℕ
spokes C L v = period_below (2 * C.edges) (turn L) (L.out v)

abbrev pub spoke_end : Links → ℕ → ℕ → ℕ
spoke_end L v k = to L (iter k (turn L) (L.out v))

abbrev pub closer : (ℕ → Point) → Point → ℕ → ℕ → Bool
closer p q v w = lt_z (length2 (p w) q) (length2 (p v) q)

unfoldable pub first_closer : Counts → Links → (ℕ → Point) → Point → ℕ → ℕ
first_closer C L p q v = first_below (spokes C L v) (λ k. closer p q v (spoke_end L v k))

unfoldable pub is_nearest : Counts → Links → (ℕ → Point) → Point → ℕ → Bool
is_nearest C L p q v = not (ltb (first_closer C L p q v) (spokes C L v))

unfoldable pub nearer : Counts → Links → (ℕ → Point) → Point → ℕ → ℕ
nearer C L p q v = spoke_end L v (first_closer C L p q v)

-- how many vertices are strictly closer than v: the walk's measure
unfoldable pub closer_count : Counts → (ℕ → Point) → Point → ℕ → ℕ
closer_count C p q v = count C.vertices (closer p q v)

-- with 2E turns at most
unfoldable pub nearest : Counts → Links → (ℕ → Point) → Point → ℕ
nearest C L p q = until (is_nearest C L p q) (nearer C L p q) (2 * C.edges) 0

-- ---- 2. one turn from the half-edge e. Left, right and on the line are the sign of the doubled area of an edge's ends and q
-- q is strictly right of e2: on to its reverse, or in the triangle there to the half-edge before that
unfoldable pub beyond : Links → ℕ → SearchState
beyond L e2 = Onward (cond (is_outer L (rev e2)) (rev e2) (L.prev (rev e2)))

-- q is strictly left of e1, and of the edge of e1's triangle that is neither e1 nor e2; area is that of e2
unfoldable pub across_edge : Links → ℕ → ℕ → ℤ → SearchState
across_edge L e1 e2 area = by_sign area (Found (OnFace (L.face e1))) (beyond L e2) (Found (OnEdge e2))

-- q is strictly left of e: outside, or between e and the edge before it in their triangle, or on to that edge's reverse
unfoldable pub rotate_ccw : Links → (ℕ → Point) → Point → ℕ → SearchState
rotate_ccw L p q e =
    cond (is_outer L e) (Found (OutsideOfConvexHull e))
    (cond (is_right_of L p q (rev (L.prev e)))
    (across_edge L e (L.next e) (area_at L p q (L.next e)))
    (Onward (rev (L.prev e))))

-- q is strictly right of e: the same on the other side
unfoldable pub rotate_cw : Links → (ℕ → Point) → Point → ℕ → SearchState
rotate_cw L p q e =
    cond (is_outer L (rev e)) (Found (OutsideOfConvexHull (rev e)))
    (cond (is_left L p q (L.next (rev e)))
    (across_edge L (rev e) (L.prev (rev e)) (area_at L p q (L.prev (rev e))))
    (Onward (L.next (rev e))))

-- q is on the line of e: on to the half-edge before it in its triangle, or in that of its reverse
unfoldable pub on_line_of : Links → ℕ → SearchState
on_line_of L e = Onward (L.prev (cond (is_outer L e) (rev e) e))

-- neither end of e is at q
unfoldable pub by_side : Links → (ℕ → Point) → Point → ℕ → SearchState
by_side L p q e = by_sign (area_at L p q e) (rotate_ccw L p q e) (rotate_cw L p q e) (on_line_of L e)

-- the turn
unfoldable pub search_turn : Links → (ℕ → Point) → Point → ℕ → SearchState
search_turn L p q e =
    cond (is_position (p (L.origin e)) q) (Found (OnVertex (L.origin e)))
    (cond (is_position (p (to L e)) q) (Found (OnVertex (to L e))) (by_side L p q e))

-- ---- the rotating walk, with 2E turns at most
unfoldable pub ended : SearchState → Bool
ended (Found x) = true
ended (Onward e) = false

unfoldable pub advance : Links → (ℕ → Point) → Point → SearchState → SearchState
advance L p q (Found x) = Found x
advance L p q (Onward e) = search_turn L p q e

unfoldable pub search_from : Counts → Links → (ℕ → Point) → Point → ℕ → SearchState
search_from C L p q e = until ended (advance L p q) (2 * C.edges) (Onward e)
