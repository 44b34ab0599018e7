-- The scan, and the whole of point location. Definitions only; `ScanLaws` and `LocateLaws` have the laws.
use Rattle.std.specs.Prelude.{Bool, not, ◌&&◌, cond, ℕ, suc, ◌-◌, ltb}
use Rattle.sums.specs.Bounded.{first_below}
use Rattle.math.specs.declared.Point.{Point}
use Rattle.mesh.specs.declared.Counts.{Counts}
use Rattle.mesh.specs.Mesh.{Links}
use Rattle.mesh.specs.Area.{boundary_length, hull_edge}
use Rattle.math.specs.Determinant.{is_position}
use Rattle.location.specs.declared.PositionInTriangulation.{PositionInTriangulation}
use Rattle.location.specs.declared.PositionInTriangulation.TheVariants.{OnVertex, OnFace, OnEdge, OutsideOfConvexHull}
use Rattle.location.specs.declared.SearchState.{SearchState}
use Rattle.location.specs.declared.SearchState.TheVariants.{Found, Onward}
use Rattle.location.specs.Place.{is_left, is_right_of, is_on_line}
use Rattle.location.specs.Search.{is_nearest, nearest, search_from}

-- the triangle of a holds q: q is strictly right of none of its three half-edges
unfoldable pub holds_at : Links → (ℕ → Point) → Point → ℕ → Bool
holds_at L p q a = not (is_right_of L p q a) && (not (is_right_of L p q (L.next a)) && not (is_right_of L p q (L.next (L.next a))))

-- where in it: at a corner, on an edge, inside; from the stored edge on by next
unfoldable pub place_at_of : Links → (ℕ → Point) → Point → ℕ → PositionInTriangulation
place_at_of L p q a = let b = L.next a in let c = L.next b in
    cond (is_position (p (L.origin a)) q) (OnVertex (L.origin a))
    (cond (is_position (p (L.origin b)) q) (OnVertex (L.origin b))
    (cond (is_position (p (L.origin c)) q) (OnVertex (L.origin c))
    (cond (is_on_line L p q a) (OnEdge a)
    (cond (is_on_line L p q b) (OnEdge b)
    (cond (is_on_line L p q c) (OnEdge c)
    (OnFace (L.face a)))))))

-- the first inner face that holds q, less 1; faces - 1 where none does
unfoldable pub first_holding : Counts → Links → (ℕ → Point) → Point → ℕ
first_holding C L p q = first_below (C.faces - 1) (λ f. holds_at L p q (L.adjacent (suc f)))

-- the first boundary edge from face 0's stored one by next that q is strictly left of; their number where there is none
unfoldable pub first_left : Counts → Links → (ℕ → Point) → Point → ℕ
first_left C L p q = first_below (boundary_length C L) (λ k. is_left L p q (hull_edge L k))

unfoldable pub scan : Counts → Links → (ℕ → Point) → Point → PositionInTriangulation
scan C L p q =
    cond (ltb (first_holding C L p q) (C.faces - 1)) (place_at_of L p q (L.adjacent (suc (first_holding C L p q))))
    (OutsideOfConvexHull (hull_edge L (first_left C L p q)))

-- ---- point location: the search, or the scan where one of its loops would make more than 2E turns
unfoldable pub answer : PositionInTriangulation → SearchState → PositionInTriangulation
answer x (Found y) = y
answer x (Onward e) = x

unfoldable pub locate_point : Counts → Links → (ℕ → Point) → Point → PositionInTriangulation
locate_point C L p q =
    cond (is_nearest C L p q (nearest C L p q)) (answer (scan C L p q) (search_from C L p q (L.out (nearest C L p q)))) (scan C L p q)
