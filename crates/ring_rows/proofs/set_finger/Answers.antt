-- `ring_rows::set_finger` meets its contract. Assumes nothing.
use Rattle.ring_rows.proofs.Finding.{stack-kept}
use Rattle.ring_rows.proofs.set_finger.Goals as goal

pub returns-then-top-place : goal.returns-then-top-place
returns-then-top-place c = stack-kept _ _ c.if-top-place.true
