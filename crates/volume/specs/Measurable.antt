-- What the sum over the triangles asks of the rows, which an accepted mesh meets: every inner face's corners can be read,
-- with their heights, and its numbers are small. Definitions only; laws in `MeasurableLaws`.
use Rattle.std.specs.Prelude.{List, ℕ, suc, ◌^◌, ◌<◌, ◌≤◌, ℤ, nat_abs, length}
use Rattle.dcel.specs.Rows.{There, halves_of, row_of, links_of, position_of}
use Rattle.heights.specs.Heights.{height_of}
use Rattle.math.specs.declared.Point.{Point}
use Rattle.math.specs.Determinant.{orient2d}
use Rattle.mesh.specs.declared.Counts.{Counts}
use Rattle.mesh.specs.Area.{at_corners}
use Rattle.mesh.specs.Mesh.{Links}
use Rattle.mesh_check.specs.Readable.{Corners}
use Rattle.volume.specs.declared.DigitSums.{DigitSums}
use Rattle.volume.specs.DigitSums.{digit_sums, SmallTriangle}
use Rattle.volume.specs.Volume.{above_level, six_volumes_of}

-- half-edge a, the next one and the one after are in the row h, and the heights of their origins in the row z
pub record CornerHeights (z : List ℤ) (h : List ℕ) (a : ℕ) : Type 0 where
  pub first : There h a
  pub second : There h ((halves_of h).next a)
  pub third : There h ((halves_of h).next ((halves_of h).next a))
  pub one : (halves_of h).origin a < length z
  pub two : (halves_of h).origin ((halves_of h).next a) < length z
  pub three : (halves_of h).origin ((halves_of h).next ((halves_of h).next a)) < length z

-- the triangle of half-edge a
pub record Triangle (p z : List ℤ) (h : List ℕ) (level : ℤ) (a : ℕ) : Type 0 where
  pub corners : Corners p h a
  pub heights : CornerHeights z h a
  pub small : (o s : List ℕ)
      → SmallTriangle (at_corners orient2d (links_of o h s) (position_of p) a) (above_level (links_of o h s) (height_of z) level a)

pub record Measurable (C : Counts) (p z : List ℤ) (h a : List ℕ) (level : ℤ) : Type 0 where
  pub faces : C.faces ≤ length a
  pub few : C.faces ≤ 2000000
  pub some : 0 < C.faces
  pub less : (o : List ℕ) → nat_abs (six_volumes_of C (links_of o h a) (position_of p) (height_of z) level) < 2 ^ 94
  pub triangles : (f : ℕ) → 0 < f → f < C.faces → Triangle p z h level (row_of a f)

-- the sums by digits over the inner faces 1 to n
unfoldable pub face_sums : ℕ → Links → (ℕ → Point) → (ℕ → ℤ) → ℤ → DigitSums
face_sums n L p h level =
    digit_sums n (λ f. at_corners orient2d L p (L.adjacent (suc f))) (λ f. above_level L h level (L.adjacent (suc f)))
