-- The call `ask` of 02, Change 5: its refusals, in the order of the table, its answer, and what it leaves in the lent rows. Definitions
-- only, and each computes; `AskLaws` says what they come to. 02: "Asking gives the fate number and faces of a step's answer and leaves the
-- mesh alone, on a locate's rows."
use Rattle.std.specs.Prelude.{Bool, false, [], ◌∷◌, ℕ, ◌+◌, ℤ, length, Ok, Err}
use Rattle.angle.specs.declared.Point2.{Point2}
use Rattle.dcel.specs.MeshRows.{MeshRows, links_in, places_in}
use Rattle.decide.specs.Decide.{Decided, decided, fate_number, if_added}
use Rattle.heights.specs.Heights.{SurfaceRows, heights_lent, heights_checked}
use Rattle.locate.specs.Locate.{ring_rows_short, check_start}
use Rattle.math.specs.declared.Point.{Point}
use Rattle.mesh.specs.declared.Counts.{Counts}
use Rattle.mesh_check.specs.Checked.{Checked}
use Rattle.mesh_check.specs.Check.{and_then, vertex_count}
use Rattle.quote.specs.declared.Quote.{Quote}
use Rattle.quote.specs.Quote.{check_changes}
use Rattle.ring_rows.specs.RingRows.{RingRows, ring_zeros}
use Rattle.start.specs.Start.{point_row}
use Rattle.ask.specs.Asked.{Asked}

-- ---- the quote
-- the faces of a step's answer: one over the located edge and one over each edge that a walk covers, where the point is added
unfoldable pub faces_of : Decided → ℕ
faces_of D = if_added D.fate (D.left + 1 + D.right)

unfoldable pub quote_from : ℕ → Point → ℤ → Decided → Quote
quote_from changes v z D = record { changes = changes; x = v.x; y = v.y; z = z; fate = fate_number D.fate; faces = faces_of D }

-- what asking gives about the point v of height z, on a mesh with its change count: what a step decides, before it changes anything
unfoldable pub quote_of : ℕ → Counts → MeshRows → Point2 → Point → ℤ → Quote
quote_of changes C m center v z = quote_from changes v z (decided center.x center.y C (links_in m) (places_in m) v)

-- ---- the refusals
-- "Both make a step's checks": rows 1, 2, 3, 10, 4, 5, 6 and 7, of a call that is given one point. N is the mesh's vertices and the point.
-- short: a row that is not the mesh's is shorter than its size for N
unfoldable pub point_checked : Bool → Counts → SurfaceRows → Point2 → Point → ℤ → Checked
point_checked short C s center v z =
    and_then (heights_checked (heights_lent (point_row v) (z ∷ []) short false) C s) (check_start (point_row v) short C s.mesh center)

-- and then 12: "no quote is given there". The ring's rows are given by their lengths
unfoldable pub ask_checked : ℕ → Counts → SurfaceRows → ℕ → ℕ → ℕ → Point2 → Point → ℤ → Checked
ask_checked changes C s nodes freed buckets center v z =
    and_then (point_checked (ring_rows_short (vertex_count C (point_row v)) nodes freed buckets) C s center v z) (check_changes changes)

-- ---- the call
unfoldable pub asked_by : Checked → Quote → Asked
asked_by (Err r) q = Err r
asked_by (Ok _) q = Ok q

-- the answer, and what the lent rows hold afterwards
pub record AskOutcome : Type 0 where
  pub answer : Asked
  pub surface : SurfaceRows
  pub ring : RingRows

abbrev pub asked_with : Asked → SurfaceRows → RingRows → AskOutcome
asked_with r s ring = record { answer = r; surface = s; ring = ring }

-- "leaves the mesh alone". 01: "All but 9 change nothing lent"; "after every accepted call the ring, freed, bucket and pending rows hold
-- zeros"
unfoldable pub ask_outcome : Checked → Quote → SurfaceRows → RingRows → AskOutcome
ask_outcome (Err r) q s ring = asked_with (Err r) s ring
ask_outcome (Ok _) q s ring = asked_with (Ok q) s (ring_zeros ring)

unfoldable pub ask_of : ℕ → Counts → SurfaceRows → RingRows → Point2 → Point → ℤ → AskOutcome
ask_of changes C s ring center v z =
    ask_outcome (ask_checked changes C s (length ring.nodes) (length ring.freed) (length ring.buckets) center v z)
    (quote_of changes C s.mesh center v z) s ring
