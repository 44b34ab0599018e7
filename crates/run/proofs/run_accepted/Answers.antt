-- `run::run_accepted` meets its contract. Assumes nothing.
use borrow.Author.Rules.{rules}
use mathlib.Core.Path.{sym, ◌∙◌, subst}
use Prim.Native.Nat.{ℕ, ◌<◌, ◌^◌}
use Rattle.run.proofs.RunDone.{to-zero, to-complete, run-done}
use Rattle.steps.specs.StepsReady.{points-fit, to_start, to-sweep}
use Rattle.run.proofs.run_accepted.Goals as goal

pub overflow_cast-count : goal.overflow_cast-count
overflow_cast-count c = record { fits = subst (λ (n : ℕ). n < 2 ^ 32) (sym c.point_count-count.ensures) (points-fit _ c.requires) }

pub start_ring-hull-requires : goal.start_ring-hull-requires
start_ring-hull-requires c = to_start _ c.requires

pub sweep-end-requires : goal.sweep-end-requires
sweep-end-requires c = to-sweep _ c.requires _ _ _ c.start_ring-hull.ensures c.start_ring-hull.auto.nodes c.start_ring-hull.auto.buckets _ c.point_count-count.ensures

pub zero_answers-requires : goal.zero_answers-requires
zero_answers-requires c = to-zero _ c.requires _ c.point_count-count.ensures _ _ _ _ _ _ c.sweep-end.ensures c.sweep-end.auto.answers

pub complete_after-done-requires : goal.complete_after-done-requires
complete_after-done-requires c =
    let k = c.sweep-end.auto in
    to-complete _ c.requires _ c.point_count-count.ensures _ _ _ _ _ _ c.sweep-end.ensures _ c.zero_answers.ensures _ k.positions k.outs k.halves k.faces k.pending (c.zero_answers.auto.answers ∙ k.answers)

pub shape_of-positions : goal.shape_of-positions
shape_of-positions c = c.complete_after-done.auto.positions ∙ c.sweep-end.auto.positions

pub shape_of-outs : goal.shape_of-outs
shape_of-outs c = c.complete_after-done.auto.outs ∙ c.sweep-end.auto.outs

pub shape_of-halves : goal.shape_of-halves
shape_of-halves c = c.complete_after-done.auto.halves ∙ c.sweep-end.auto.halves

pub shape_of-faces : goal.shape_of-faces
shape_of-faces c = c.complete_after-done.auto.faces ∙ c.sweep-end.auto.faces

pub shape_of-nodes : goal.shape_of-nodes
shape_of-nodes c = c.clear_rows.auto.nodes ∙ c.sweep-end.auto.nodes ∙ c.start_ring-hull.auto.nodes

pub shape_of-freed : goal.shape_of-freed
shape_of-freed c = c.clear_rows.auto.freed ∙ c.sweep-end.auto.freed

pub shape_of-buckets : goal.shape_of-buckets
shape_of-buckets c = c.clear_rows.auto.buckets ∙ c.complete_after-done.auto.grid ∙ c.sweep-end.auto.buckets ∙ c.start_ring-hull.auto.buckets

pub shape_of-pending : goal.shape_of-pending
shape_of-pending c = c.clear_rows.auto.pending ∙ c.complete_after-done.auto.pending ∙ c.sweep-end.auto.pending

pub shape_of-answers : goal.shape_of-answers
shape_of-answers c = c.complete_after-done.auto.answers ∙ c.zero_answers.auto.answers ∙ c.sweep-end.auto.answers

pub returns : goal.returns
returns c =
    let g = c.start_ring-hull.auto in
    let k = c.sweep-end.auto in
    let f = c.complete_after-done.auto in
    run-done _ c.requires _ c.point_count-count.ensures _ _ _ _ _ _ c.sweep-end.ensures _ c.zero_answers.ensures _ _ _ _ _ _ _ k.pending c.complete_after-done.ensures _ _ _ _ _
    (record { positions = f.positions ∙ k.positions; outs = f.outs ∙ k.outs; halves = f.halves ∙ k.halves; faces = f.faces ∙ k.faces })
    (k.nodes ∙ g.nodes) k.freed (f.grid ∙ k.buckets ∙ g.buckets) (f.pending ∙ k.pending)
    (f.answers ∙ c.zero_answers.auto.answers ∙ k.answers) c.clear_rows.ensures (c.answer_of.ensures _ _ _)
