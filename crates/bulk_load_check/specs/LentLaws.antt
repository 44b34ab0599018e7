-- The rows of the table as the checks of a bulk load meet them, one after the other (`many-refused`, `short-refused`, `points-decide`);
-- rows that are long enough have every point and its height (`points-long`); and a bulk load's own rows are what it is lent (`lent-self`).
-- Assumes nothing.
use Rattle.std.specs.Prelude.{Bool, true, false, ◌||◌, List, ◌≡◌, ℕ, ◌*◌, ◌<◌, ◌≤◌, ℤ, length}
use Rattle.std.proofs.Math.Path.{refl}
use Rattle.std.proofs.Common.{sym, ◌∙◌, ap}
use borrow.Author.Tests.{lt-ltb, le-ltb, ltb-false}
use Rattle.std.proofs.Math.Dec.{ltb}
use Rattle.bulk_load.specs.BulkLoad.{BulkLoadLent, count, bulk_load_short, bulk_load_checked}
use Rattle.mesh_check.specs.Checked.{Checked}
use Rattle.mesh_check.proofs.AcceptedLaws.{or-false}
use Rattle.mesh_check.specs.Check.{refused, point_count, mesh_rows_short, rows_short}
use Rattle.start.specs.Start.{sweep_rows_short}
use Rattle.sweep.specs.Run.{answer_words}
use Rattle.bulk_load_check.specs.Lent.{LentBy, surface_short, load_short, points_checked}

pub lent-self : (l : BulkLoadLent)
    → LentBy l l.points l.point_heights_of (length l.mesh.positions) (length l.heights) (length l.mesh.outs)
    (length l.mesh.halves) (length l.mesh.faces) (length l.ring.nodes) (length l.ring.freed) (length l.ring.buckets)
    (length l.pending) (length l.answers)
lent-self l = record {
  same_points = refl;
  same-point-heights = refl;
  positions-length = refl;
  heights-length = refl;
  outs-length = refl;
  halves-length = refl;
  faces-length = refl;
  nodes-length = refl;
  freed-length = refl;
  buckets-length = refl;
  pending-length = refl;
  answers-length = refl;
}

module _ (n points point_heights_of positions heights outs halves faces nodes freed buckets pending answers : ℕ) where
  pub points-long : load_short n points point_heights_of positions heights outs halves faces nodes freed buckets pending answers ≡ false
      → (2 * n ≤ points) × (n ≤ point_heights_of)
  unfolding load_short surface_short
  points-long e =
      let mesh = mesh_rows_short n positions outs halves faces in
      let rows = ltb points (2 * n) || mesh in
      let both = ltb heights n || ltb point_heights_of n in
      let x = or-false (sweep_rows_short (ltb answers (answer_words * n)) n nodes freed buckets pending) (rows || both) e in
      let y = or-false rows both x.1 in (
        ltb-false points (2 * n) (or-false (ltb points (2 * n)) mesh y.0).0,
        ltb-false point_heights_of n (or-false (ltb heights n) (ltb point_heights_of n) y.1).1,
      )

module _ {l : BulkLoadLent} {points point_heights_of : List ℤ} {positions heights outs halves faces nodes freed buckets pending answers : ℕ}
    (B : LentBy l points point_heights_of positions heights outs halves faces nodes freed buckets pending answers)
    {n : ℕ} (e : n ≡ point_count points) where
  abbrev short : Bool
  short = load_short n (length points) (length point_heights_of) positions heights outs halves faces nodes freed buckets pending answers

  counted : count l ≡ n
  counted = ap point_count B.same_points ∙ sym e

  short-is : bulk_load_short l ≡ short
  unfolding bulk_load_short load_short surface_short rows_short
  short-is =
      rw (
        counted,
        B.same_points,
        B.same-point-heights,
        B.positions-length,
        B.heights-length,
        B.outs-length,
        B.halves-length,
        B.faces-length,
        B.nodes-length,
        B.freed-length,
        B.buckets-length,
        B.pending-length,
        B.answers-length,
      ) refl

  pub many-refused : 1000000 < n → refused 1 0 ≡ bulk_load_checked l
  unfolding bulk_load_checked
  many-refused m = rw (counted, lt-ltb 1000000 n m) refl

  module _ (m : n ≤ 1000000) where
    pub short-refused : short ≡ true → refused 2 0 ≡ bulk_load_checked l
    unfolding bulk_load_checked
    short-refused s = rw (short-is, s, counted, le-ltb 1000000 n m) refl

    pub points-decide : short ≡ false → {r : Checked} → r ≡ points_checked n points point_heights_of → r ≡ bulk_load_checked l
    unfolding bulk_load_checked points_checked
    points-decide s d = d ∙ rw (short-is, s, counted, le-ltb 1000000 n m, B.same_points, B.same-point-heights) refl
