-- `closing::close_edge` meets its contract: by whether the edge breaks the circle rule. Assumes nothing.
use mathlib.Core.Path.{refl}
use Rattle.closing.proofs.Loops.{edge-flipped, edge_kept}
use Rattle.closing.proofs.close_edge.Goals as goal

pub returns-then-should_flip : goal.returns-then-should_flip
returns-then-should_flip c =
    edge-flipped _ _ _ _ _ _ c.should_flip.ensures _ _ _ _ c.if-should_flip.true c.flip_cw.ensures refl

pub returns : goal.returns
returns c = edge_kept _ _ _ _ _ _ c.should_flip.ensures c.if-should_flip.false
