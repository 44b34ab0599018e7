-- The call `locate` of 01: its refusals, in the order of the table, its answer, and what it leaves in the lent rows of the ring. Definitions only; each computes. `Laws` says what an
-- accepted call's edge is. An angle is a float, a centre two; links and positions are those of the lent rows.
use Rattle.std.specs.Prelude.{Bool, cond, ◌||◌, List, [], ℕ, ◌+◌, ltb, Float, ℤ, length, Ok, Err}
use Rattle.ring_rows.specs.RingRows.{RingRows, ring_zeros}
use Rattle.angle.specs.declared.Point2.{Point2}
use Rattle.angle.specs.Angle.{turns, valid_angle}
use Rattle.dcel.specs.MeshRows.{MeshRows, links_in, places_in}
use Rattle.math.specs.declared.Point.{Point}
use Rattle.mesh.specs.declared.Counts.{Counts}
use Rattle.mesh.specs.Mesh.{Links}
use Rattle.mesh_check.specs.Checked.{Checked}
use Rattle.mesh_check.specs.Check.{refused, and_then, check_with}
use Rattle.ring.specs.Ring.{full_turn, boundary_angles, located, passed_count}
use Rattle.ring.specs.Center.{turns_about, refuses_center, refuses_ring}
use Rattle.locate.specs.Located.{Located}
use Rattle.locate.specs.declared.Place.{Place}

-- ---- the refusals
-- 2, of the ring's rows, by their lengths: "For N vertices: .. N + 1 ring nodes and freed nodes, max(16, N) buckets"
unfoldable pub ring_rows_short : ℕ → ℕ → ℕ → ℕ → Bool
ring_rows_short n nodes freed buckets = ltb nodes (n + 1) || (ltb freed (n + 1) || (ltb buckets 16 || ltb buckets n))

-- 6: "the centre isn't finite, has a coordinate outside the range of 3, or equals a boundary vertex"; 7: "the start ring is not strict"
unfoldable pub check_ring : Counts → Links → (ℕ → Point) → Float → Float → Checked
check_ring C L p cx cy = cond (refuses_center C L p cx cy) (refused 6 0) (cond (refuses_ring C L p cx cy) (refused 7 0) (Ok tt))

-- rows 1 to 7 of a call that is given a centre, and points where it has any. short: a row of the call that is not the mesh's, nor that of the points, is too short
unfoldable pub check_start : List ℤ → Bool → Counts → MeshRows → Point2 → Checked
check_start points short C m center =
    and_then (check_with points short C m) (check_ring C (links_in m) (places_in m) center.x center.y)

-- 8: "the angle is NaN, below 0.0 or above 1.0"; "A given -0.0 counts as 0.0."
unfoldable pub check_angle : Float → Checked
check_angle a = cond (valid_angle a) (Ok tt) (refused 8 0)

-- ---- the answer
-- 01: "Locate answers the edge and the nodes passed after the first." It "build[s] the ring from the mesh", whose boundary has the angles α of its vertices; x is the angle's whole number of
-- 2 ^ -53, rounded down
unfoldable pub place_at_of : Counts → Links → (ℕ → ℕ) → ℕ → Place
place_at_of C L α x = record { edge = located C L α x; passed = passed_count full_turn x (boundary_angles C L α) }

-- ---- the call
-- the answer, and the ring's rows at the end
pub record LocateOutcome : Type 0 where
  pub answer : Located
  pub ring : RingRows

abbrev pub located_with : Located → RingRows → LocateOutcome
located_with r ring = record { answer = r; ring = ring }

-- 01: "All but 9 change nothing lent and answer the number and a place"; "after every accepted call the ring, freed, bucket and pending rows hold zeros"
unfoldable pub locate_outcome : Checked → Place → RingRows → LocateOutcome
locate_outcome (Err r) place ring = located_with (Err r) ring
locate_outcome (Ok _) place ring = located_with (Ok place) (ring_zeros ring)

abbrev pub ring_short : ℕ → RingRows → Bool
ring_short n ring = ring_rows_short n (length ring.nodes) (length ring.freed) (length ring.buckets)

unfoldable pub locate_of : Counts → MeshRows → RingRows → Point2 → Float → LocateOutcome
locate_of C m ring center a =
    locate_outcome (and_then (check_start [] (ring_short C.vertices ring) C m center) (check_angle a))
    (place_at_of C (links_in m) (turns_about center.x center.y (places_in m)) (turns a)) ring
