-- Refusals 1 to 7 of a call that sweeps: it is given a mesh, points, a centre, and rows for the ring and the pending list. Definitions
-- only; `StartLaws` says what an accepted call has.
use Rattle.std.specs.Prelude.{Bool, ◌||◌, List, [], ◌∷◌, ℕ, ltb, ℤ}
use Rattle.angle.specs.declared.Point2.{Point2}
use Rattle.dcel.specs.MeshRows.{MeshRows}
use Rattle.locate.specs.Locate.{ring_rows_short, check_start}
use Rattle.math.specs.declared.Point.{Point}
use Rattle.mesh.specs.declared.Counts.{Counts}
use Rattle.mesh_check.specs.Checked.{Checked}
use Rattle.mesh_check.specs.Check.{vertex_count}

-- a point as a row of points: an x and a y
abbrev pub point_row : Point → List ℤ
point_row v = v.x ∷ v.y ∷ []

-- 2, of the rows that are not the mesh's, by their lengths: the ring's, and "at least 8 pending entries". short: another one, a run's
-- answers, is too short
unfoldable pub sweep_rows_short : Bool → ℕ → ℕ → ℕ → ℕ → ℕ → Bool
sweep_rows_short short n nodes freed buckets pending = short || (ring_rows_short n nodes freed buckets || ltb pending 8)

-- 01: "Each makes its checks afresh from the top of this table down; the first row that applies is answered." N is "seed plus points"
unfoldable pub sweep_checked : List ℤ → Bool → Counts → MeshRows → ℕ → ℕ → ℕ → ℕ → Point2 → Checked
sweep_checked points short C m nodes freed buckets pending center =
    check_start points (sweep_rows_short short (vertex_count C points) nodes freed buckets pending) C m center
