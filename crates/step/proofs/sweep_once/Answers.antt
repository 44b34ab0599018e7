-- `step::sweep_once` meets its contract. Assumes nothing.
use borrow.Author.Rules.{rules}
use mathlib.Core.Path.{refl, ◌∙◌}
use Rattle.step.proofs.CallRows.{to_start, to_step, swept_once}
use Rattle.step.proofs.sweep_once.Goals as goal

pub start_ring-hull-requires : goal.start_ring-hull-requires
start_ring-hull-requires c = to_start c.requires

pub single_bulk_insertion_step-progress-requires : goal.single_bulk_insertion_step-progress-requires
single_bulk_insertion_step-progress-requires c =
    to_step c.requires c.start_ring-hull.ensures c.start_ring-hull.auto.nodes c.start_ring-hull.auto.buckets refl refl

pub shape_of-nodes : goal.shape_of-nodes
shape_of-nodes c = c.clear_rows.auto.nodes ∙ c.single_bulk_insertion_step-progress.auto.nodes ∙ c.start_ring-hull.auto.nodes

pub shape_of-buckets : goal.shape_of-buckets
shape_of-buckets c = c.clear_rows.auto.buckets ∙ c.single_bulk_insertion_step-progress.auto.buckets ∙ c.start_ring-hull.auto.buckets

pub returns : goal.returns
returns c =
    swept_once c.single_bulk_insertion_step-progress.ensures c.single_bulk_insertion_step-progress.auto.nodes c.start_ring-hull.auto.nodes c.single_bulk_insertion_step-progress.auto.freed
    c.single_bulk_insertion_step-progress.auto.buckets c.start_ring-hull.auto.buckets c.single_bulk_insertion_step-progress.auto.pending c.clear_rows.ensures
