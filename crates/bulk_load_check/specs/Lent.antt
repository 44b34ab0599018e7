-- The checks of a bulk load by what they are given: the points, their heights, and the lengths of the other rows. Definitions only;
-- `LentLaws` says that together they are `bulk_load_checked`.
use Rattle.std.specs.Prelude.{Bool, cond, ◌||◌, List, ◌≡◌, ℕ, ◌*◌, ltb, ℤ, length, Ok}
use Rattle.bulk_load.specs.BulkLoad.{BulkLoadLent}
use Rattle.dcel.specs.Rows.{position_of}
use Rattle.heights.specs.Heights.{heights_outside}
use Rattle.mesh_check.specs.Checked.{Checked}
use Rattle.mesh_check.specs.Check.{refused, first_outside, mesh_rows_short}
use Rattle.start.specs.Start.{sweep_rows_short}
use Rattle.sweep.specs.Run.{answer_words}

-- what is lent has these points and point heights, and its other rows these lengths
pub record LentBy (l : BulkLoadLent) (points point_heights_of : List ℤ)
    (positions heights outs halves faces nodes freed buckets pending answers : ℕ) : Type 0 where
  pub same_points : l.points ≡ points
  pub same-point-heights : l.point_heights_of ≡ point_heights_of
  pub positions-length : length l.mesh.positions ≡ positions
  pub heights-length : length l.heights ≡ heights
  pub outs-length : length l.mesh.outs ≡ outs
  pub halves-length : length l.mesh.halves ≡ halves
  pub faces-length : length l.mesh.faces ≡ faces
  pub nodes-length : length l.ring.nodes ≡ nodes
  pub freed-length : length l.ring.freed ≡ freed
  pub buckets-length : length l.ring.buckets ≡ buckets
  pub pending-length : length l.pending ≡ pending
  pub answers-length : length l.answers ≡ answers

-- 2, by the lengths, for n points: the row of points, the mesh's rows, and the two of heights; then all rows
unfoldable pub surface_short : ℕ → ℕ → ℕ → ℕ → ℕ → ℕ → ℕ → ℕ → Bool
surface_short n points point_heights_of positions heights outs halves faces =
    (ltb points (2 * n) || mesh_rows_short n positions outs halves faces) || (ltb heights n || ltb point_heights_of n)

unfoldable pub load_short : ℕ → ℕ → ℕ → ℕ → ℕ → ℕ → ℕ → ℕ → ℕ → ℕ → ℕ → ℕ → ℕ → Bool
load_short n points point_heights_of positions heights outs halves faces nodes freed buckets pending answers =
    sweep_rows_short (ltb answers (answer_words * n)) n nodes freed buckets pending
    || surface_short n points point_heights_of positions heights outs halves faces

-- 3 and 10, of n points and their heights
unfoldable pub points_checked : ℕ → List ℤ → List ℤ → Checked
points_checked n points point_heights_of =
    cond (ltb (first_outside n (position_of points)) n) (refused 3 (first_outside n (position_of points)))
    (cond (heights_outside n point_heights_of) (refused 10 0)
    (Ok tt))
