-- `insert::legalize_two` meets its contract. Assumes nothing.
use borrow.Author.Rules.{rules}
use Rattle.insert.proofs.EachRows.{second-ready, two-row}
use Rattle.insert.proofs.legalize_two.Goals as goal

pub legalize_one-requires : goal.legalize_one-requires
legalize_one-requires c =
    second-ready c.requires (record { outs = c.legalize_one-one.auto.outs; halves = c.legalize_one-one.auto.halves; faces = c.legalize_one-one.auto.faces; pending = c.legalize_one-one.auto.pending }) _ c.legalize_one-one.ensures

pub returns : goal.returns
returns c =
    two-row c.requires {row' = c.legalize_one-one.new.pending} (record { outs = c.legalize_one-one.auto.outs; halves = c.legalize_one-one.auto.halves; faces = c.legalize_one-one.auto.faces; pending = c.legalize_one-one.auto.pending }) _ c.legalize_one-one.ensures _ _ _ _ c.legalize_one.ensures
