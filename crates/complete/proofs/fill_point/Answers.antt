-- `complete::fill_point` meets its contract. Assumes nothing.
use borrow.Author.Tests.{not-true, not-false}
use Rattle.complete.proofs.NearLaws.{point-edges, point-near}
use Rattle.complete.proofs.PointLaws.{not-skipped, point-refused, point-in}
use Rattle.complete.proofs.fill_point.Goals as goal

pub overflow_add-result : goal.overflow_add-result
overflow_add-result c = record { fits = c.requires.rows.small }

pub returns-then-not-is_skipped : goal.returns-then-not-is_skipped
returns-then-not-is_skipped c = not-skipped _ _ _ _ _ _ _ _ _ c.is_skipped.ensures (not-true _ c.if-not-is_skipped.true-raw)

pub near-u-requires : goal.near-u-requires
near-u-requires c = point-edges c.requires c.is_skipped.ensures (not-false _ c.if-not-is_skipped.false-raw)

pub insert_near-done-requires : goal.insert_near-done-requires
insert_near-done-requires c = rw c.is_some-known.ensures (point-near c.requires c.is_skipped.ensures (not-false _ c.if-not-is_skipped.false-raw) c.position-point.ensures c.near-u.ensures)

pub returns-then-added : goal.returns-then-added
returns-then-added c = point-refused _ _ _ _ _ _ _ _ _ c.is_skipped.ensures (not-false _ c.if-not-is_skipped.false-raw) c.position-point.ensures _ _ _ _ _ c.insert_near-done.ensures c.if-added.true

pub store_words-requires : goal.store_words-requires
store_words-requires c = c.requires.rows.answers-room

pub overflow_add-result-2 : goal.overflow_add-result-2
overflow_add-result-2 c = record { fits = c.requires.rows.small }

pub returns : goal.returns
returns c = point-in _ _ _ _ _ _ _ _ _ c.is_skipped.ensures (not-false _ c.if-not-is_skipped.false-raw) c.position-point.ensures _ _ _ _ _ c.insert_near-done.ensures c.if-added.false c.position_fate-fate.ensures c.position_vertex-vertex.ensures c.store_words.ensures
