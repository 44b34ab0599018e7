-- Heights on the vertices: the row that holds them, and refusal 10. Definitions only; `HeightsLaws` says what they come to.
-- 02, Change 1: "each vertex gains a height z in whole millimetres. Every call that carries a vertex carries it through." "Links and fates
-- keep ignoring z." So the heights stand in a row of their own: no definition of a link or a fate is given that row.
use Rattle.std.specs.Prelude.{Bool, false, not, cond, ◌||◌, List, [], ◌≡◌, ℕ, leb, ltb, ℤ, pos, nat_abs, length, get_or, Ok}
use Rattle.dcel.specs.MeshRows.{MeshRows}
use Rattle.mesh.specs.declared.Counts.{Counts}
use Rattle.mesh_check.specs.Checked.{Checked}
use Rattle.mesh_check.specs.Check.{refused, and_then, point_count, vertex_count, range_with, check_of}
use Rattle.sums.specs.Bounded.{any_below}

-- ---- the rows
-- a mesh with a height on each vertex: the mesh's rows, and one number to each vertex
pub record SurfaceRows : Type 0 where
  pub mesh : MeshRows
  pub heights : List ℤ

abbrev pub surface_rows : MeshRows → List ℤ → SurfaceRows
surface_rows m heights = record { mesh = m; heights = heights }

-- the height of vertex v, or of point v where the row is that of the points
unfoldable pub height_of : List ℤ → ℕ → ℤ
height_of row v = get_or row v (pos 0)

abbrev pub heights_in : SurfaceRows → ℕ → ℤ
heights_in s = height_of s.heights

-- ---- refusal 10
-- "10, a height or level outside -1,048,576..1,048,576"
unfoldable pub is_valid_height : ℤ → Bool
is_valid_height z = leb (nat_abs z) 1048576

-- one of the first n heights of a row is outside
unfoldable pub heights_outside : ℕ → List ℤ → Bool
heights_outside n row = any_below n (λ v. not (is_valid_height (height_of row v)))

-- 2, of a row of heights: one for each of n
abbrev pub heights_short : ℕ → List ℤ → Bool
heights_short n row = ltb (length row) n

-- ---- a call's checks
-- What a call that has heights is given besides its mesh: points and their heights, both empty where it has none; whether another of its
-- rows, neither the mesh's nor one of these, is too short; and whether a level is outside
pub record HeightsLent : Type 0 where
  pub points : List ℤ
  pub point_heights_of : List ℤ
  pub short : Bool
  pub outside : Bool

abbrev pub heights_lent : List ℤ → List ℤ → Bool → Bool → HeightsLent
heights_lent points point_heights_of short outside = record { points = points; point_heights_of = point_heights_of; short = short; outside = outside }

-- 01's sizes are for "N vertices", the seed's and the points': so many heights, and one for each point
unfoldable pub any_heights_short : HeightsLent → Counts → List ℤ → Bool
any_heights_short g C heights = heights_short (vertex_count C g.points) heights || heights_short (point_count g.points) g.point_heights_of

-- the heights of the vertices in use and of the points
unfoldable pub any_heights_outside : HeightsLent → Counts → List ℤ → Bool
any_heights_outside g C heights =
    g.outside || (heights_outside C.vertices heights || heights_outside (point_count g.points) g.point_heights_of)

-- "10 .. checked straight after 3": rows 1, 2 and 3 of the table, and then 10, which names no place
unfoldable pub check_ten : List ℤ → Bool → Bool → Counts → MeshRows → Checked
check_ten points short outside C m = and_then (range_with points short C m) (cond outside (refused 10 0) (Ok tt))

-- the rest of a call's table comes after
unfoldable pub heights_checked : HeightsLent → Counts → SurfaceRows → Checked
heights_checked g C s =
    check_ten g.points (g.short || any_heights_short g C s.heights) (any_heights_outside g C s.heights) C s.mesh

-- every row of heights is long enough, and every height in range
pub record HeightsGiven (g : HeightsLent) (C : Counts) (s : SurfaceRows) : Type 0 where
  pub long : any_heights_short g C s.heights ≡ false
  pub inside : any_heights_outside g C s.heights ≡ false

-- the same as it is asked quickly: where every row of heights is long enough and none is outside, heights refuse nothing, and a call's own
-- table has its rows 1 to 3 (`tested-then`)
unfoldable pub heights_tested : HeightsLent → Counts → SurfaceRows → Checked
heights_tested g C s = cond (any_heights_short g C s.heights || any_heights_outside g C s.heights) (heights_checked g C s) (Ok tt)

-- ---- the call `check`, and the checks of `volume`: 1, 2, 3, 10, 4, 5
-- no points; outside: a level is
abbrev pub mesh_lent : Bool → HeightsLent
mesh_lent outside = heights_lent [] [] false outside

unfoldable pub surface_checked : Bool → Counts → SurfaceRows → Checked
surface_checked outside C s = and_then (heights_checked (mesh_lent outside) C s) (check_of C s.mesh)
