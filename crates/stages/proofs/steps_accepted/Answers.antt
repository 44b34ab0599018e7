-- `stages::steps_accepted` meets its contract, as the part of `run::run_accepted` up to its steps does. Assumes nothing.
use borrow.Author.Rules.{rules}
use mathlib.Core.Path.{sym, ◌∙◌, ap, subst}
use Prim.Native.Nat.{ℕ, ◌<◌, ◌^◌}
use Rattle.steps.specs.StepsReady.{points-fit, to_start, to-sweep}
use Rattle.sweep.specs.Run.{sweep_after}
use Rattle.stages.proofs.steps_accepted.Goals as goal

pub overflow_cast-count : goal.overflow_cast-count
overflow_cast-count c = record { fits = subst (λ (n : ℕ). n < 2 ^ 32) (sym c.point_count-count.ensures) (points-fit _ c.requires) }

pub start_ring-hull-requires : goal.start_ring-hull-requires
start_ring-hull-requires c = to_start _ c.requires

pub sweep-requires : goal.sweep-requires
sweep-requires c = to-sweep _ c.requires _ _ _ c.start_ring-hull.ensures c.start_ring-hull.auto.nodes c.start_ring-hull.auto.buckets _ c.point_count-count.ensures

pub shape_of-positions : goal.shape_of-positions
shape_of-positions c = c.sweep.auto.positions

pub shape_of-outs : goal.shape_of-outs
shape_of-outs c = c.sweep.auto.outs

pub shape_of-halves : goal.shape_of-halves
shape_of-halves c = c.sweep.auto.halves

pub shape_of-faces : goal.shape_of-faces
shape_of-faces c = c.sweep.auto.faces

pub shape_of-nodes : goal.shape_of-nodes
shape_of-nodes c = c.sweep.auto.nodes ∙ c.start_ring-hull.auto.nodes

pub shape_of-freed : goal.shape_of-freed
shape_of-freed c = c.sweep.auto.freed

pub shape_of-buckets : goal.shape_of-buckets
shape_of-buckets c = c.sweep.auto.buckets ∙ c.start_ring-hull.auto.buckets

pub shape_of-pending : goal.shape_of-pending
shape_of-pending c = c.sweep.auto.pending

pub shape_of-answers : goal.shape_of-answers
shape_of-answers c = c.sweep.auto.answers

pub returns : goal.returns
returns c = c.sweep.ensures.is ∙ ap (sweep_after _ _ _ _ _ _ _) c.point_count-count.ensures
