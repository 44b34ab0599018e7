-- `bulk_load_rows::sweep_rest` meets its contract. Assumes nothing.
use borrow.Author.Rules.{rules}
use Rattle.bulk_load_rows.specs.RestRows.{rest-requires, rest-fits, rest-done}
use Rattle.bulk_load_rows.proofs.sweep_rest.Goals as goal

pub center-center-requires : goal.center-center-requires
center-center-requires c = c.requires.center

pub run_accepted-done-requires : goal.run_accepted-done-requires
run_accepted-done-requires c = rest-requires c.requires c.center-center.ensures

pub placed_after-requires : goal.placed_after-requires
placed_after-requires c = rest-fits c.requires c.center-center.ensures c.run_accepted-done.ensures

pub returns : goal.returns
returns c = rest-done c.requires c.center-center.ensures c.run_accepted-done.ensures c.placed_after.ensures
