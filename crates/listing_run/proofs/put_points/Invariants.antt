-- The loop of `listing_run::put_points`.
use Rattle.std.specs.Prelude.{◌*◌, ◌≤◌, length}
use Rattle.listing_text.specs.Decimal.{Appended}
use Rattle.listing_run.specs.ListingRun.{point_lines}
use Rattle.listing_run.proofs.put_points.Given as goal

abbrev pub invariant-loop-i : goal.invariant-loop-i
invariant-loop-i l = (Appended l.initial.row 0 (point_lines l.answers l.i) l.row l.place) × (length (point_lines l.answers l.i) ≤ 107 * l.i)
