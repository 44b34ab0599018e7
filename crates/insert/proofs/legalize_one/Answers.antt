-- `insert::legalize_one` meets its contract. Assumes nothing.
use borrow.Author.Rules.{rules}
use Rattle.insert.proofs.EachRows.{one-full, one-edge, one-row}
use Rattle.insert.proofs.legalize_one.Goals as goal

pub returns-then-added : goal.returns-then-added
returns-then-added c = one-full c.requires c.if-added.true

pub legalize_edge-done-requires : goal.legalize_edge-done-requires
legalize_edge-done-requires c = one-edge c.requires

pub returns : goal.returns
returns c = one-row c.requires c.if-added.false _ _ _ _ _ c.legalize_edge-done.ensures
