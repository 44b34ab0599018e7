-- `locate::clear_ring` meets its contract. Assumes nothing.
use borrow.Author.Rules.{rules}
use Rattle.ring_rows.proofs.Laws.{ring-cleared}
use Rattle.locate.proofs.clear_ring.Goals as goal

pub returns : goal.returns
returns c = ring-cleared _ _ _ (search rules) (search rules) (search rules)
