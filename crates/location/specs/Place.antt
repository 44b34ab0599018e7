-- The answers of point location, and what each claims of the mesh. Definitions only; `SearchLaws` and `ScanLaws` prove the claims.
use Rattle.std.specs.Prelude.{Bool, ◌≡◌, ℕ, ◌<◌, ℤ, pos, ◌<ℤ◌}
use Rattle.std.specs.Int.Signed.{lt_z}
use Rattle.math.specs.declared.Point.{Point}
use Rattle.math.specs.Determinant.{orient2d, is_coordinate}
use Rattle.mesh.specs.declared.Counts.{Counts}
use Rattle.mesh.specs.Mesh.{Links, In, to}
use Rattle.location.specs.declared.PositionInTriangulation.{PositionInTriangulation}
use Rattle.location.specs.declared.PositionInTriangulation.TheVariants.{OnVertex, OnFace, OnEdge, OutsideOfConvexHull}
use Rattle.location.specs.declared.SearchState.{SearchState}
use Rattle.location.specs.declared.SearchState.TheVariants.{Found, Onward}

-- side(e): twice the signed area of the ends of e and q
abbrev pub area_at : Links → (ℕ → Point) → Point → ℕ → ℤ
area_at L p q e = orient2d (p (L.origin e)) (p (to L e)) q

-- q is strictly left of e
abbrev pub LeftOf : Links → (ℕ → Point) → Point → ℕ → Type 0
LeftOf L p q e = pos 0 <ℤ area_at L p q e

-- ---- the tests
abbrev pub is_left : Links → (ℕ → Point) → Point → ℕ → Bool
is_left L p q e = lt_z (pos 0) (area_at L p q e)

abbrev pub is_right_of : Links → (ℕ → Point) → Point → ℕ → Bool
is_right_of L p q e = lt_z (area_at L p q e) (pos 0)

abbrev pub is_on_line : Links → (ℕ → Point) → Point → ℕ → Bool
is_on_line L p q e = is_coordinate (area_at L p q e) (pos 0)

-- ---- what an answer claims: the condition of the operation that it leads to
pub record AtVertex (C : Counts) (p : ℕ → Point) (q : Point) (v : ℕ) : Type 0 where
  pub used : v < C.vertices
  pub here : p v ≡ q

-- insert_into_triangle
pub record InFace (C : Counts) (L : Links) (p : ℕ → Point) (q : Point) (f : ℕ) : Type 0 where
  pub inner : 0 < f
  pub below : f < C.faces
  pub left : {e : ℕ} → In C e → L.face e ≡ f → LeftOf L p q e

-- split_edge, split_half_edge
pub record InEdge (C : Counts) (L : Links) (p : ℕ → Point) (q : Point) (e : ℕ) : Type 0 where
  pub used : In C e
  pub inner : 0 < L.face e
  pub on : area_at L p q e ≡ pos 0
  pub left-next : LeftOf L p q (L.next e)
  pub left-prev : LeftOf L p q (L.prev e)

-- create_new_face_adjacent_to_edge
pub record Beyond (C : Counts) (L : Links) (p : ℕ → Point) (q : Point) (e : ℕ) : Type 0 where
  pub used : In C e
  pub outer : L.face e ≡ 0
  pub left : LeftOf L p q e
