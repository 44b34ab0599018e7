-- `complete::fill` meets its contract. Assumes nothing.
use borrow.Author.Rules.{rules}
use Rattle.complete.proofs.NoneLaws.{none_filled}
use Rattle.complete.proofs.fill.Goals as goal

pub returns-then-skipped-eq0 : goal.returns-then-skipped-eq0
returns-then-skipped-eq0 c = (none_filled c.requires (c.count_skipped-skipped.ensures c.if-skipped-eq0.true), λ t. absurd t)

pub count_skipped-skipped-requires : goal.count_skipped-skipped-requires
count_skipped-skipped-requires c = c.requires.answers-room

pub prepare-near-requires : goal.prepare-near-requires
prepare-near-requires c = (c.requires.rows, c.requires.pairs, search rules)

pub fill_each-requires : goal.fill_each-requires
fill_each-requires c = (record { fill = c.requires; walkable = c.prepare-near.ensures.0 }, c.prepare-near.ensures.1)
