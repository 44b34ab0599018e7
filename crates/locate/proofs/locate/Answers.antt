-- `locate::locate` meets its contract: a refusal leaves every row as it was, and an accepted call builds the ring, asks it once and clears its rows. Assumes nothing.
use Rattle.std.proofs.lemmas.Result.{err_from_is_err_and}
use borrow.Author.Rules.{rules}
use mathlib.Core.Path.{refl, sym, ◌∙◌}
use Rattle.ring_rows.proofs.Laws.{zeros-same}
use Rattle.locate.proofs.Call.{locate-face, locate-size, locate-asks, locate-refused, locate-found}
use Rattle.locate.proofs.locate.Goals as goal

pub adjacent-start-requires : goal.adjacent-start-requires
adjacent-start-requires c = locate-face _ _ _ _ _ _ _ c.ring_rows_short-short.ensures (sym c.check_locate.ensures ∙ c.in_ok-check_locate.was)

pub convex_hull_size-size-requires : goal.convex_hull_size-size-requires
convex_hull_size-size-requires c = locate-size _ _ _ _ _ _ _ c.ring_rows_short-short.ensures (sym c.check_locate.ensures ∙ c.in_ok-check_locate.was)

pub place_at-place-requires : goal.place_at-place-requires
place_at-place-requires c = locate-asks _ _ _ _ _ _ _ c.ring_rows_short-short.ensures (sym c.check_locate.ensures ∙ c.in_ok-check_locate.was) c.adjacent-start.ensures c.convex_hull_size-size.ensures

pub returns-in_err-check_locate : goal.returns-in_err-check_locate
returns-in_err-check_locate c =
    let p = err_from_is_err_and c.from_residual.result c.from_residual.ensures.1 in
    rw (p.1, p.2) (locate-refused _ _ _ _ _ c.ring_rows_short-short.ensures (sym c.check_locate.ensures ∙ c.in_err-check_locate.was))

pub returns : goal.returns
returns c =
    locate-found _ _ _ _ _ c.ring_rows_short-short.ensures (sym c.check_locate.ensures ∙ c.in_ok-check_locate.was) c.adjacent-start.ensures c.convex_hull_size-size.ensures c.place_at-place.ensures
    (c.clear_ring.ensures ∙ zeros-same _ _ c.place_at-place.auto.nodes refl c.place_at-place.auto.buckets)
