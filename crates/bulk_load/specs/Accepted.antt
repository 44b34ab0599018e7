-- What the checks of a bulk load accept: so many points, rows that do for them, every point and height in range. Assumes nothing.
use Rattle.std.specs.Prelude.{Bool, false, ◌||◌, ◌≡◌, ℕ, ◌*◌, ◌<◌, ◌≤◌, length, Ok}
use borrow.Author.Tests.{ltb-false}
use Rattle.std.proofs.Math.Dec.{ltb}
use Rattle.dcel.specs.Rows.{position_of}
use Rattle.heights.specs.Heights.{heights_short, heights_outside}
use Rattle.locate.specs.Locate.{ring_rows_short}
use Rattle.locate.specs.Start.{RingRoom}
use Rattle.locate.proofs.StartLaws.{ring-room}
use Rattle.math.specs.Determinant.{InRange}
use Rattle.mesh_check.specs.Checked.{Checked}
use Rattle.mesh_check.specs.Accepted.{MeshSizes}
use Rattle.mesh_check.proofs.AcceptedLaws.{not-short-rows, or-false}
use Rattle.mesh_check.specs.Check.{first_outside, point_count, mesh_short, rows_short}
use Rattle.mesh_check.proofs.CheckLawsFacts.{inside-range, not-refused}
use Rattle.start.specs.Start.{sweep_rows_short}
use Rattle.sweep.specs.Run.{answer_words}
use Rattle.bulk_load.specs.BulkLoad.{BulkLoadLent, count, bulk_load_short, bulk_load_checked}

pub record BulkLoadAccepted (l : BulkLoadLent) : Type 0 where
  pub most : count l ≤ 1000000
  pub pairs : 2 * count l ≤ length l.points
  pub sizes : MeshSizes (count l) l.mesh
  pub ring-rows : RingRoom (count l) (length l.ring.nodes) (length l.ring.freed) (length l.ring.buckets)
  pub pending-rows : 8 ≤ length l.pending
  pub answers-room : answer_words * count l ≤ length l.answers
  pub heights-room : count l ≤ length l.heights
  pub point-heights : count l ≤ length l.point_heights_of
  pub range : (i : ℕ) → i < count l → InRange (position_of l.points i)

-- the rows, by their tests
module _ (l : BulkLoadLent) where
  abbrev n : ℕ
  n = count l

  abbrev rows : Bool
  rows = rows_short n l.points l.mesh

  abbrev heights : Bool
  heights = heights_short n l.heights || heights_short n l.point_heights_of

  abbrev few : Bool
  few = ltb (length l.answers) (answer_words * n)

  abbrev ring : Bool
  ring = ring_rows_short n (length l.ring.nodes) (length l.ring.freed) (length l.ring.buckets)

  abbrev short : Bool
  short = sweep_rows_short few n (length l.ring.nodes) (length l.ring.freed) (length l.ring.buckets) (length l.pending)

  pub long-rows : bulk_load_short l ≡ false → n ≤ 1000000 → ((i : ℕ) → i < n → InRange (position_of l.points i)) → BulkLoadAccepted l
  unfolding bulk_load_short sweep_rows_short rows_short
  long-rows e most range =
      let x = or-false short (rows || heights) e in
      let y = or-false few (ring || ltb (length l.pending) 8) x.0 in
      let z = or-false ring (ltb (length l.pending) 8) y.1 in
      let u = or-false rows heights x.1 in
      let w = or-false (ltb (length l.points) (2 * point_count l.points)) (mesh_short n l.mesh) u.0 in
      let h = or-false (heights_short n l.heights) (heights_short n l.point_heights_of) u.1 in
      record {
        most = most;
        pairs = ltb-false (length l.points) (2 * n) w.0;
        sizes = not-short-rows w.1;
        ring-rows = ring-room n _ _ _ z.0;
        pending-rows = ltb-false (length l.pending) 8 z.1;
        answers-room = ltb-false (length l.answers) (answer_words * n) y.0;
        heights-room = ltb-false (length l.heights) n h.0;
        point-heights = ltb-false (length l.point_heights_of) n h.1;
        range = range;
      }

  pub load-accepts : bulk_load_checked l ≡ Ok tt → BulkLoadAccepted l
  unfolding bulk_load_checked
  load-accepts e =
      let a = not-refused (ltb 1000000 n) _ _ e in
      let b = not-refused (bulk_load_short l) _ _ a.1 in
      let c = not-refused (ltb (first_outside n (position_of l.points)) n) _ _ b.1 in
      long-rows b.0 (ltb-false 1000000 n a.0)
      (λ i k. inside-range n (position_of l.points) (ltb-false (first_outside n (position_of l.points)) n c.0) k)
