-- `bulk_load_check::check_bulk_load` meets its contract. The rows of the table, one after the other. Assumes nothing.
use borrow.Author.Rules.{rules}
use Rattle.std.specs.Prelude.{Err}
use mathlib.Core.Path.{sym, ◌∙◌, ap}
use Rattle.bulk_load_check.specs.LentLaws.{points-long, many-refused, short-refused, points-decide}
use Rattle.bulk_load_check.proofs.check_bulk_load.Goals as goal

pub returns-then-n-gt1000000 : goal.returns-then-n-gt1000000
returns-then-n-gt1000000 c = λ l B. ap Err c.of_call.ensures ∙ many-refused B c.point_count-n.ensures c.if-n-gt1000000.true

pub returns-then-load_short : goal.returns-then-load_short
returns-then-load_short c = λ l B.
    ap Err c.of_call-then-load_short.ensures
    ∙ short-refused B c.point_count-n.ensures c.if-n-gt1000000.false
    (sym c.load_short.ensures ∙ c.if-load_short.true)

pub check_points-requires : goal.check_points-requires
check_points-requires c = points-long _ _ _ _ _ _ _ _ _ _ _ _ _ (sym c.load_short.ensures ∙ c.if-load_short.false)

pub returns : goal.returns
returns c = λ l B.
    points-decide B c.point_count-n.ensures c.if-n-gt1000000.false
    (sym c.load_short.ensures ∙ c.if-load_short.false) c.check_points.ensures
