-- `step::single_bulk_insertion_step` meets its contract. Assumes nothing.
use mathlib.Core.Path.{◌∙◌}
use Rattle.step.proofs.StepDone.{to-decide, left_alone, point-ready, added_full, to-enter, added-done}
use borrow.Author.Rules.{rules}
use Rattle.step.proofs.single_bulk_insertion_step.Goals as goal

pub decide-decision-requires : goal.decide-decision-requires
decide-decision-requires c = to-decide c.requires

pub returns-then-not-is_added : goal.returns-then-not-is_added
returns-then-not-is_added c = left_alone c.requires c.decide-decision.ensures c.is_added.ensures c.if-not-is_added.true-raw c.progress_of.ensures

pub add_point-entered-requires : goal.add_point-entered-requires
add_point-entered-requires c = point-ready c.requires c.decide-decision.ensures c.is_added.ensures c.if-not-is_added.false-raw

pub returns-then-added : goal.returns-then-added
returns-then-added c = added_full c.requires c.decide-decision.ensures c.is_added.ensures c.if-not-is_added.false-raw c.add_point-entered.ensures c.if-added.true c.progress_of-then-added.ensures

pub insert-ring-requires : goal.insert-ring-requires
insert-ring-requires c = to-enter c.requires c.decide-decision.ensures c.is_added.ensures c.if-not-is_added.false-raw c.add_point-entered.ensures c.if-added.false

pub shape_of-positions : goal.shape_of-positions
shape_of-positions c = c.add_point-entered.auto.positions

pub shape_of-outs : goal.shape_of-outs
shape_of-outs c = c.add_point-entered.auto.outs

pub shape_of-halves : goal.shape_of-halves
shape_of-halves c = c.add_point-entered.auto.halves

pub returns : goal.returns
returns c =
    added-done c.requires c.decide-decision.ensures c.is_added.ensures c.if-not-is_added.false-raw c.add_point-entered.ensures c.if-added.false
    c.add_point-entered.auto.positions c.add_point-entered.auto.outs c.add_point-entered.auto.halves c.add_point-entered.auto.faces c.insert-ring.ensures c.progress_of-2.ensures
