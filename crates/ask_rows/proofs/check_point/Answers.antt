-- `ask_rows::check_point` meets its contract. Assumes nothing.
use Rattle.std.proofs.lemmas.Result.{err_from_is_err_and}
use mir.Syntax.{w32}
use mir.Facts.{to_z-of_z}
use Rattle.ask_rows.proofs.Checking.{tested-refused, tested-start}
use borrow.Author.Rules.{rules}
use Rattle.ask_rows.proofs.check_point.Goals as goal

pub returns-in_err-check_heights : goal.returns-in_err-check_heights
returns-in_err-check_heights c =
    let p = err_from_is_err_and c.from_residual.result c.from_residual.ensures.1 in
    rw (p.1, p.2) (tested-refused (to_z-of_z {w = w32} {z = c.args.point.x} (search rules))
    (to_z-of_z {w = w32} {z = c.args.point.y} (search rules)) (to_z-of_z c.ranges.z) _ _ _ _ c.check_heights.ensures
    c.in_err-check_heights.was)

pub returns : goal.returns
returns c =
    tested-start (to_z-of_z {w = w32} {z = c.args.point.x} (search rules))
    (to_z-of_z {w = w32} {z = c.args.point.y} (search rules)) (to_z-of_z c.ranges.z) _ _ _ _ c.check_heights.ensures
    c.in_ok-check_heights.was c.check_start.ensures
