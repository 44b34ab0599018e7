-- The boundary of a mesh, and the areas and heights of its faces where its vertices have the positions p. Definitions
-- only; their laws are in `BoundaryLaws`, `CountsLaws`, `AreaCorners`, `AreaLaws`, `LeftLaws` and `HeightLaws`.
use Rattle.std.specs.Prelude.{ℕ, suc, ◌-◌, ◌*◌, ◌<◌, ℤ, pos, ◌-ℤ◌, ◌*ℤ◌, ◌<ℤ◌}
use Rattle.math.specs.declared.Point.{Point}
use Rattle.math.specs.Determinant.{orient2d, incircle, height}
use Rattle.sums.specs.Half.{rev}
use Rattle.sums.specs.Iterate.{iter, period_below}
use Rattle.sums.specs.Sum.{sum}
use Rattle.mesh.specs.declared.Counts.{Counts}
use Rattle.mesh.specs.Mesh.{Links, to}

-- how many half-edges the boundary has: the steps of next from face 0's stored edge that first lead back to it
unfoldable pub boundary_length : Counts → Links → ℕ
boundary_length C L = period_below (2 * C.edges) L.next (L.adjacent 0)

-- 01: "The walk of `HullIterator` starts at face 0's stored edge and follows next."
abbrev pub hull_edge : Links → ℕ → ℕ
hull_edge L k = iter k L.next (L.adjacent 0)

-- twice the signed area of the triangle of the zero point, a and b
unfoldable pub cross : Point → Point → ℤ
cross a b = a.x *ℤ b.y -ℤ a.y *ℤ b.x

-- 01: "The boundary's doubled area is the usual cross-product sum over face 0's cycle, walked against next."
unfoldable pub boundary_area : Counts → Links → (ℕ → Point) → ℤ
boundary_area C L p = sum (boundary_length C L) (λ k.
    let e = iter k L.prev (L.adjacent 0) in
    cross (p (L.origin e)) (p (L.origin (L.prev e))))

-- a function of the three corners that follow one another along next, from the origin of e
abbrev pub at_corners : (Point → Point → Point → ℤ) → Links → (ℕ → Point) → ℕ → ℤ
at_corners F L p e = F (p (L.origin e)) (p (L.origin (L.next e))) (p (L.origin (L.next (L.next e))))

-- its sum over the inner faces, each from its stored edge
unfoldable pub over_faces : (Point → Point → Point → ℤ) → Counts → Links → (ℕ → Point) → ℤ
over_faces F C L p = sum (C.faces - 1) (λ f. at_corners F L p (L.adjacent (suc f)))

-- the inner faces' doubled areas, in total
abbrev pub area_total : Counts → Links → (ℕ → Point) → ℤ
area_total C L p = over_faces orient2d C L p

-- 01: "Each flip lowers the height sum by exactly the circle determinant."
abbrev pub height_sum : Counts → Links → (ℕ → Point) → ℤ
height_sum C L p = over_faces height C L p

-- the circle determinant over the half-edge e: positive where the neighbour's far vertex is strictly inside the circle of the triangle of e
-- 01: "The neighbour's far vertex over a half-edge is the far vertex of its reverse", "A far vertex is the origin of prev".
unfoldable pub circle_at : Links → (ℕ → Point) → ℕ → ℤ
circle_at L p e = incircle (p (L.origin e)) (p (to L e)) (p (L.origin (L.prev e))) (p (L.origin (L.prev (rev e))))

-- every inner face turns strictly left
-- 01, refusal 5: "an inner face doesn't turn strictly left"
pub record LeftTurning (C : Counts) (L : Links) (p : ℕ → Point) : Type 0 where
  pub left : {f : ℕ} → 0 < f → f < C.faces → pos 0 <ℤ at_corners orient2d L p (L.adjacent f)
