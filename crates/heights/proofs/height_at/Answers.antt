-- `heights::height_at` meets its contract. Assumes nothing.
use Rattle.heights.specs.Heights.{height_of}
use borrow.Author.Rules.{rules}
use Rattle.heights.proofs.height_at.Goals as goal

pub returns : goal.returns
unfolding height_of
returns c = search rules
