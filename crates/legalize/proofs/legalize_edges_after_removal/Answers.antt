-- `legalize::legalize_edges_after_removal` meets its contract: the loop from two entries. Assumes nothing.
use mathlib.Core.List.{[]}
use mathlib.Core.Path.{◌∙◌}
use native.Mathlib.Omega.{arith}
use Rattle.legalize.specs.declared.Entry.TheVariants.{Edge}
use Rattle.legalize.specs.Turns.{edges-in}
use Rattle.legalize.proofs.Starting.{empty, listed, unmarked, start-ready, start-leaves}
use Rattle.legalize.proofs.legalize_edges_after_removal.Goals as goal

pub legalize_entries-requires : goal.legalize_entries-requires
legalize_entries-requires c =
    let z = c.list_of-list in
    start-ready Edge c.requires.0 z.result (listed z.result z.ensures.0 (c.push-m.ensures _ (c.push-n.ensures [] (empty _)))) (unmarked z.result z.ensures.1)
    (c.push-m.auto.pending ∙ c.push-n.auto.pending) (omega arith) (edges-in c.args.counts _ _ c.requires.1 c.requires.2)

pub shape_of-outs : goal.shape_of-outs
shape_of-outs c = c.legalize_entries.auto.outs

pub shape_of-halves : goal.shape_of-halves
shape_of-halves c = c.legalize_entries.auto.halves

pub shape_of-faces : goal.shape_of-faces
shape_of-faces c = c.legalize_entries.auto.faces

pub shape_of-pending : goal.shape_of-pending
shape_of-pending c =
    c.legalize_entries.auto.pending ∙ c.push-m.auto.pending ∙ c.push-n.auto.pending

pub returns : goal.returns
returns c =
    let z = c.list_of-list in
    start-leaves Edge c.requires.0 z.result (listed z.result z.ensures.0 (c.push-m.ensures _ (c.push-n.ensures [] (empty _)))) (unmarked z.result z.ensures.1)
    (c.push-m.auto.pending ∙ c.push-n.auto.pending) (omega arith) (edges-in c.args.counts _ _ c.requires.1 c.requires.2)
    c.legalize_entries.ensures
