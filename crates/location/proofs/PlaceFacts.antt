-- Laws of specs/Place.antt.
use Rattle.std.specs.Prelude.{Bool, ◌≡◌, ℕ, ◌<◌, ℤ, pos, ◌<ℤ◌}
use Rattle.std.specs.Int.Signed.{lt_z}
use Rattle.math.specs.declared.Point.{Point}
use Rattle.math.specs.Determinant.{orient2d, is_coordinate}
use Rattle.mesh.specs.declared.Counts.{Counts}
use Rattle.mesh.specs.Mesh.{Links, In, to}
use Rattle.location.specs.declared.PositionInTriangulation.{PositionInTriangulation}
use Rattle.location.specs.declared.PositionInTriangulation.TheVariants.{OnVertex, OnFace, OnEdge, OutsideOfConvexHull}
use Rattle.location.specs.declared.SearchState.{SearchState}
use Rattle.location.specs.declared.SearchState.TheVariants.{Found, Onward}
use Rattle.location.specs.Place.{AtVertex, InFace, InEdge, Beyond}

-- THE CERTIFICATE of an answer
abbrev pub Certified : Counts → Links → (ℕ → Point) → Point → PositionInTriangulation → Type 0
Certified C L p q (OnVertex v) = AtVertex C p q v
Certified C L p q (OnFace f) = InFace C L p q f
Certified C L p q (OnEdge e) = InEdge C L p q e
Certified C L p q (OutsideOfConvexHull e) = Beyond C L p q e

-- of a turn: the answer's, or the half-edge is in use
abbrev pub Sound : Counts → Links → (ℕ → Point) → Point → SearchState → Type 0
Sound C L p q (Found x) = Certified C L p q x
Sound C L p q (Onward e) = In C e
