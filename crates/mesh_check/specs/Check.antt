-- Refusals 1 to 5 of 01, in the order of its table: "Each makes its checks afresh from the top of this table down; the
-- first row that applies is answered."
-- Definitions only; what they say is in `CheckLaws`. All five calls share them: a call has the seed's mesh and the
-- points that it is given, which for check, locate and finish are none.
use Rattle.std.specs.Prelude.{Bool, not, ◌&&◌, ◌||◌, cond, List, ℕ, ◌+◌, ◌-◌, ◌*◌, ◌/◌, ltb, ℤ, pos, length, Ok, Err}
use Rattle.std.specs.Int.Signed.{lt_z}
use Rattle.dcel.specs.MeshRows.{MeshRows, links_in, places_in}
use Rattle.dcel.specs.Rows.{position_of}
use Rattle.math.specs.declared.Point.{Point}
use Rattle.math.specs.Determinant.{orient2d, is_valid_vertex}
use Rattle.mesh.specs.declared.Counts.{Counts}
use Rattle.mesh.specs.Mesh.{Links}
use Rattle.mesh.specs.Area.{at_corners}
use Rattle.mesh.specs.Rules.{rules}
use Rattle.mesh_check.specs.Checked.{Checked}
use Rattle.mesh_check.specs.declared.Refusal.{Refusal}
use Rattle.sums.specs.Bounded.{first_below}

-- 01: "All but 9 .. answer the number and a place (0 where none is named)."
abbrev pub refusal_at : ℕ → ℕ → Refusal
refusal_at number place = record { number = number; place = place }

abbrev pub refused : ℕ → ℕ → Checked
refused number place = Err (refusal_at number place)

-- 1: "fewer than 3 or more than 1,000,000 vertices, seed plus points"
unfoldable pub count_refused : ℕ → Bool
count_refused n = ltb n 3 || ltb 1000000 n

-- 2, of the mesh's rows, by their lengths. "For N vertices: N positions, N out edges, 6N half-edges, 2N faces": a
-- position is two numbers, a half-edge four
unfoldable pub mesh_rows_short : ℕ → ℕ → ℕ → ℕ → ℕ → Bool
mesh_rows_short n positions outs halves faces = ltb positions (2 * n) || (ltb outs n || (ltb halves (24 * n) || ltb faces (2 * n)))

-- 3: "a coordinate is outside -16,777,216..16,777,216 (place = the first such vertex, points counted on after the
-- seed's)"; n where there is none
abbrev pub is_outside : Point → Bool
is_outside q = not (is_valid_vertex q)

unfoldable pub first_outside : ℕ → (ℕ → Point) → ℕ
first_outside n p = first_below n (λ v. is_outside (p v))

-- the vertex v of the seed, or the point v - s after the s vertices of the seed
unfoldable pub vertex_or_point : ℕ → (ℕ → Point) → (ℕ → Point) → ℕ → Point
vertex_or_point s p q v = cond (ltb v s) (p v) (q (v - s))

-- 5: "an inner face doesn't turn strictly left (place = lowest face)"; the number of faces where there is none
unfoldable pub turns_left : Links → (ℕ → Point) → ℕ → Bool
turns_left L p e = lt_z (pos 0) (at_corners orient2d L p e)

unfoldable pub first_not_left : Counts → Links → (ℕ → Point) → ℕ
first_not_left C L p = first_below C.faces (λ f. ltb 0 f && not (turns_left L p (L.adjacent f)))

-- 01: "the first row that applies is answered": the rows of `next` come after those of `first`
unfoldable pub and_then : Checked → Checked → Checked
and_then (Ok _) next = next
and_then (Err r) next = Err r

-- the table's first three rows. n: "seed plus points"; short: a row of the call is shorter than its size for n; p: the vertices' positions,
-- the points' after them
unfoldable pub check_range : ℕ → Bool → (ℕ → Point) → Checked
check_range n short p =
    cond (count_refused n) (refused 1 0)
    (cond short (refused 2 0)
    (cond (ltb (first_outside n p) n) (refused 3 (first_outside n p))
    (Ok tt)))

-- the next two. A link outside the counts, or counts that the rows could not hold, break a mesh rule: 4
unfoldable pub check_faces : Counts → Links → (ℕ → Point) → Checked
check_faces C L p =
    cond (not (rules C L)) (refused 4 0)
    (cond (ltb (first_not_left C L p) C.faces) (refused 5 (first_not_left C L p))
    (Ok tt))

unfoldable pub check_mesh : ℕ → Bool → Counts → Links → (ℕ → Point) → Checked
check_mesh n short C L p = and_then (check_range n short p) (check_faces C L p)

-- ---- over the lent rows
abbrev pub mesh_short : ℕ → MeshRows → Bool
mesh_short n m = mesh_rows_short n (length m.positions) (length m.outs) (length m.halves) (length m.faces)

-- the call `check`
unfoldable pub check_of : Counts → MeshRows → Checked
check_of C m = check_mesh C.vertices (mesh_short C.vertices m) C (links_in m) (places_in m)

-- how many points a row has, each an x and a y. A last number that stands alone is counted: its point is not all there,
-- so the row is too short
unfoldable pub point_count : List ℤ → ℕ
point_count points = (length points + 1) / 2

-- "seed plus points"
unfoldable pub vertex_count : Counts → List ℤ → ℕ
vertex_count C points = C.vertices + point_count points

-- the row of points, or one of the mesh's
unfoldable pub rows_short : ℕ → List ℤ → MeshRows → Bool
rows_short n points m = ltb (length points) (2 * point_count points) || mesh_short n m

-- the seed's vertices, and the points after them
abbrev pub places_with : List ℤ → Counts → MeshRows → ℕ → Point
places_with points C m = vertex_or_point C.vertices (places_in m) (position_of points)

-- a call with points: its first three rows, and all five. short: another of its rows is shorter than its size for the seed's vertices and the
-- points
unfoldable pub range_with : List ℤ → Bool → Counts → MeshRows → Checked
range_with points short C m =
    let n = vertex_count C points in
    check_range n (short || rows_short n points m) (places_with points C m)

unfoldable pub check_with : List ℤ → Bool → Counts → MeshRows → Checked
check_with points short C m =
    let n = vertex_count C points in
    check_mesh n (short || rows_short n points m) C (links_in m) (places_with points C m)
