-- `bulk_load_rows::load` meets its contract. Assumes nothing.
use borrow.Author.Rules.{rules}
use mathlib.Core.Path.{refl, sym, ◌∙◌, subst}
use Prim.Native.Nat.{ℕ, ◌<◌, ◌^◌}
use Rattle.bulk_load_rows.specs.LoadSeeded.{count_fits, to-seed}
use Rattle.bulk_load_rows.specs.LoadSwept.{to-rest, store-swept, done-swept}
use Rattle.bulk_load_rows.specs.LoadEnded.{to_end, store-ended, done-ended}
use Rattle.bulk_load_rows.proofs.load.Goals as goal

pub overflow_cast-count : goal.overflow_cast-count
overflow_cast-count c = record { fits = subst (λ (n : ℕ). n < 2 ^ 32) (sym c.point_count-count.ensures) (count_fits _ c.requires) }

pub seed-end-requires : goal.seed-end-requires
seed-end-requires c = to-seed _ c.requires _ c.point_count-count.ensures

pub sweep_rest-finish-requires : goal.sweep_rest-finish-requires
sweep_rest-finish-requires c =
    to-rest _ c.requires
    (record {
      all = c.point_count-count.ensures;
      leaves = c.seed-end.ensures;
      lengths = record { positions = c.seed-end.auto.positions; outs = c.seed-end.auto.outs; halves = c.seed-end.auto.halves; faces = c.seed-end.auto.faces };
      pending = c.seed-end.auto.pending;
      answers = c.seed-end.auto.answers;
    }) c.if-end.true

pub store_run-requires : goal.store_run-requires
store_run-requires c =
    store-swept _ c.requires
    (record {
      all = c.point_count-count.ensures;
      leaves = c.seed-end.ensures;
      lengths = record { positions = c.seed-end.auto.positions; outs = c.seed-end.auto.outs; halves = c.seed-end.auto.halves; faces = c.seed-end.auto.faces };
      pending = c.seed-end.auto.pending;
      answers = c.seed-end.auto.answers;
    }) c.if-end.true
    _ _ _ _ _ c.sweep_rest-finish.ensures

pub shape_of-positions-then-end : goal.shape_of-positions-then-end
shape_of-positions-then-end c = c.sweep_rest-finish.auto.positions ∙ c.seed-end.auto.positions

pub shape_of-outs-then-end : goal.shape_of-outs-then-end
shape_of-outs-then-end c = c.sweep_rest-finish.auto.outs ∙ c.seed-end.auto.outs

pub shape_of-halves-then-end : goal.shape_of-halves-then-end
shape_of-halves-then-end c = c.sweep_rest-finish.auto.halves ∙ c.seed-end.auto.halves

pub shape_of-faces-then-end : goal.shape_of-faces-then-end
shape_of-faces-then-end c = c.sweep_rest-finish.auto.faces ∙ c.seed-end.auto.faces

pub shape_of-pending-then-end : goal.shape_of-pending-then-end
shape_of-pending-then-end c = c.sweep_rest-finish.auto.pending ∙ c.seed-end.auto.pending

pub shape_of-answers-then-end : goal.shape_of-answers-then-end
shape_of-answers-then-end c = c.sweep_rest-finish.auto.answers ∙ c.seed-end.auto.answers

pub returns-then-end : goal.returns-then-end
returns-then-end c =
    done-swept _ c.requires
    (record {
      all = c.point_count-count.ensures;
      leaves = c.seed-end.ensures;
      lengths = record { positions = c.seed-end.auto.positions; outs = c.seed-end.auto.outs; halves = c.seed-end.auto.halves; faces = c.seed-end.auto.faces };
      pending = c.seed-end.auto.pending;
      answers = c.seed-end.auto.answers;
    }) c.if-end.true
    _ _ _ _ _ c.sweep_rest-finish.ensures _ c.store_run.auto.heights c.store_run.ensures

pub end_load-answer-requires : goal.end_load-answer-requires
end_load-answer-requires c =
    to_end _ c.requires
    (record {
      all = c.point_count-count.ensures;
      leaves = c.seed-end.ensures;
      lengths = record { positions = c.seed-end.auto.positions; outs = c.seed-end.auto.outs; halves = c.seed-end.auto.halves; faces = c.seed-end.auto.faces };
      pending = c.seed-end.auto.pending;
      answers = c.seed-end.auto.answers;
    }) c.if-end.false

pub store_run-requires-2 : goal.store_run-requires-2
store_run-requires-2 c =
    store-ended _ c.requires
    (record {
      all = c.point_count-count.ensures;
      leaves = c.seed-end.ensures;
      lengths = record { positions = c.seed-end.auto.positions; outs = c.seed-end.auto.outs; halves = c.seed-end.auto.halves; faces = c.seed-end.auto.faces };
      pending = c.seed-end.auto.pending;
      answers = c.seed-end.auto.answers;
    }) c.if-end.false
    _ _ _ _ _ c.end_load-answer.ensures
    (record { positions = refl; outs = c.end_load-answer.auto.outs; halves = c.end_load-answer.auto.halves; faces = c.end_load-answer.auto.faces }) c.end_load-answer.auto.answers

pub shape_of-positions : goal.shape_of-positions
shape_of-positions c = c.seed-end.auto.positions

pub shape_of-outs : goal.shape_of-outs
shape_of-outs c = c.end_load-answer.auto.outs ∙ c.seed-end.auto.outs

pub shape_of-halves : goal.shape_of-halves
shape_of-halves c = c.end_load-answer.auto.halves ∙ c.seed-end.auto.halves

pub shape_of-faces : goal.shape_of-faces
shape_of-faces c = c.end_load-answer.auto.faces ∙ c.seed-end.auto.faces

pub shape_of-pending : goal.shape_of-pending
shape_of-pending c = c.clear_rows.auto.pending ∙ c.end_load-answer.auto.pending ∙ c.seed-end.auto.pending

pub shape_of-answers : goal.shape_of-answers
shape_of-answers c = c.end_load-answer.auto.answers ∙ c.seed-end.auto.answers

pub returns : goal.returns
returns c =
    done-ended _ c.requires
    (record {
      all = c.point_count-count.ensures;
      leaves = c.seed-end.ensures;
      lengths = record { positions = c.seed-end.auto.positions; outs = c.seed-end.auto.outs; halves = c.seed-end.auto.halves; faces = c.seed-end.auto.faces };
      pending = c.seed-end.auto.pending;
      answers = c.seed-end.auto.answers;
    }) c.if-end.false
    _ _ _ _ _ c.end_load-answer.ensures
    (record { positions = refl; outs = c.end_load-answer.auto.outs; halves = c.end_load-answer.auto.halves; faces = c.end_load-answer.auto.faces }) c.end_load-answer.auto.answers _ _ _ c.end_load-answer.auto.pending c.clear_rows.ensures _ c.store_run-2.auto.heights c.store_run-2.ensures
