-- `search::on_line` meets its contract. Assumes nothing.
use Rattle.search.specs.Turns.{line-outer, line-inner}
use Rattle.search.proofs.on_line.Goals as goal

pub returns-then-face-eq0 : goal.returns-then-face-eq0
returns-then-face-eq0 c =
    line-outer _ _ c.face.ensures c.if-face-eq0.true c.rev.ensures c.prev.ensures

pub returns : goal.returns
returns c = line-inner _ _ c.face.ensures c.if-face-eq0.false c.prev-2.ensures
