-- `ring_rows::node_after` meets its contract. Assumes nothing.
use Rattle.ring_rows.proofs.Finding.{after_masked}
use Rattle.ring_rows.proofs.node_after.Goals as goal

pub returns : goal.returns
returns c = after_masked _ _ _ c.requires.1
