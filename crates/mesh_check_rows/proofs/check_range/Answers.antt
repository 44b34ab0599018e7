-- `mesh_check_rows::check_range` meets its contract. The rows of the table, one after the other. Assumes nothing.
use native.Mathlib.Omega.{arith}
use Rattle.std.specs.Prelude.{Err}
use mathlib.Core.Path.{sym, ◌∙◌, ap}
use Rattle.mesh_check_rows.proofs.Call.{few, sized, with-count, with-short, with_rows, with-outside, with-range}
use Rattle.mesh_check_rows.proofs.check_range.Goals as goal

pub returns-then-count_refused : goal.returns-then-count_refused
returns-then-count_refused c = ap Err c.of_call.ensures ∙ with-count _ _ _ _ c.vertex_count-n.ensures (sym c.count_refused.ensures ∙ c.if-count_refused.true)

pub returns-then-short : goal.returns-then-short
returns-then-short c = ap Err c.of_call-then-short.ensures ∙ with-short _ _ _ _ c.vertex_count-n.ensures (sym c.count_refused.ensures ∙ c.if-count_refused.false) c.if-short.true

pub rows_short-requires : goal.rows_short-requires
rows_short-requires c = few _ (sym c.count_refused.ensures ∙ c.if-count_refused.false)

pub returns-then-rows_short : goal.returns-then-rows_short
returns-then-rows_short c = ap Err c.of_call-then-rows_short.ensures ∙ with_rows _ _ _ _ c.vertex_count-n.ensures (sym c.count_refused.ensures ∙ c.if-count_refused.false) c.if-short.false (sym c.rows_short.ensures ∙ c.if-rows_short.true)

pub overflow_cast-m : goal.overflow_cast-m
overflow_cast-m c = let s = sized _ _ _ _ c.vertex_count-n.ensures (sym c.count_refused.ensures ∙ c.if-count_refused.false) c.if-short.false (sym c.rows_short.ensures ∙ c.if-rows_short.false) in let e = c.point_count-m.ensures in omega arith

pub first_outside_with-i-requires : goal.first_outside_with-i-requires
first_outside_with-i-requires c = let s = sized _ _ _ _ c.vertex_count-n.ensures (sym c.count_refused.ensures ∙ c.if-count_refused.false) c.if-short.false (sym c.rows_short.ensures ∙ c.if-rows_short.false) in let e = c.point_count-m.ensures in omega arith

pub returns-then-i-n : goal.returns-then-i-n
returns-then-i-n c = ap Err c.at.ensures ∙ with-outside _ _ _ _ c.vertex_count-n.ensures (sym c.count_refused.ensures ∙ c.if-count_refused.false) c.if-short.false (sym c.rows_short.ensures ∙ c.if-rows_short.false) c.point_count-m.ensures c.first_outside_with-i.ensures c.if-i-n.true

pub returns : goal.returns
returns c = with-range _ _ _ _ c.vertex_count-n.ensures
    (sym c.count_refused.ensures ∙ c.if-count_refused.false)
    c.if-short.false (sym c.rows_short.ensures ∙ c.if-rows_short.false)
    c.point_count-m.ensures c.first_outside_with-i.ensures c.if-i-n.false
