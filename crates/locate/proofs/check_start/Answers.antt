-- `locate::check_start` meets its contract. Assumes nothing.
use Rattle.std.proofs.lemmas.Result.{err_from_is_err_and}
use borrow.Author.Rules.{rules}
use mathlib.Core.Path.{sym, ◌∙◌}
use Rattle.locate.proofs.StartLaws.{start-refused, start-face, start-size, start-boundary, start-goes-on}
use Rattle.locate.proofs.check_start.Goals as goal

pub adjacent-start-requires : goal.adjacent-start-requires
adjacent-start-requires c = start-face _ _ _ _ (sym c.check_with.ensures ∙ c.in_ok-check_with.was)

pub convex_hull_size-size-requires : goal.convex_hull_size-size-requires
convex_hull_size-size-requires c = start-size _ _ _ _ (sym c.check_with.ensures ∙ c.in_ok-check_with.was)

pub check_ring-requires : goal.check_ring-requires
check_ring-requires c =
    start-boundary _ _ _ _ (sym c.check_with.ensures ∙ c.in_ok-check_with.was) c.adjacent-start.ensures c.convex_hull_size-size.ensures

pub returns-in_err-check_with : goal.returns-in_err-check_with
returns-in_err-check_with c =
    let p = err_from_is_err_and c.from_residual.result c.from_residual.ensures.1 in
    rw (p.1, p.2) (start-refused _ _ _ _ _ (sym c.check_with.ensures ∙ c.in_err-check_with.was))

pub returns : goal.returns
returns c =
    start-goes-on _ _ _ _ (sym c.check_with.ensures ∙ c.in_ok-check_with.was) c.adjacent-start.ensures
    c.convex_hull_size-size.ensures _ c.check_ring.ensures
