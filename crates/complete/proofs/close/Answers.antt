-- `complete::close` meets its contract. Assumes nothing.
use mathlib.Core.Path.{refl}
use Rattle.complete.proofs.CloseLaws.{close-refused, close-made}
use Rattle.complete.proofs.close.Goals as goal

pub returns-then-filled : goal.returns-then-filled
returns-then-filled c = close-refused _ _ _ _ _ _ _ c.if-filled.true c.stopped.ensures

pub close_unsettled-flips-requires : goal.close_unsettled-flips-requires
close_unsettled-flips-requires c =
    let p = c.requires in
    let r = p.0.rows c.if-filled.false in
    (r.0, r.1, p.1)

pub returns : goal.returns
returns c = (close-made _ _ _ _ _ _ _ c.if-filled.false _ _ _ _ c.close_unsettled-flips.ensures, refl)
