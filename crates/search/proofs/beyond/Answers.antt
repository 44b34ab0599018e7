-- `search::beyond` meets its contract. Assumes nothing.
use Rattle.search.specs.Turns.{beyond-outer, beyond-inner}
use Rattle.search.proofs.beyond.Goals as goal

pub returns-then-face-eq0 : goal.returns-then-face-eq0
returns-then-face-eq0 c = beyond-outer _ _ c.rev-t.ensures c.face.ensures c.if-face-eq0.true

pub returns : goal.returns
returns c =
    beyond-inner _ _ c.rev-t.ensures c.face.ensures c.if-face-eq0.false c.prev.ensures
