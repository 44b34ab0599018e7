-- `legalize::legalize_edge` meets its contract: the loop from one entry. Assumes nothing.
use mathlib.Core.Bool.{false≢true}
use mathlib.Core.List.{[]}
use mathlib.Core.Path.{◌∙◌}
use native.Mathlib.Omega.{arith}
use Rattle.legalize.specs.declared.Entry.TheVariants.{HalfEdge}
use Rattle.legalize.specs.LegalizeRows.{plain}
use Rattle.legalize.specs.Turns.{half-edge-in}
use Rattle.legalize.proofs.Starting.{empty, start-ready, start-leaves}
use Rattle.legalize.proofs.legalize_edge.Goals as goal

pub legalize_entries-requires : goal.legalize_entries-requires
legalize_entries-requires c =
    start-ready HalfEdge c.requires.0 (plain c.push-n.result) (c.push-n.ensures [] (empty _)) (λ t. absurd (false≢true t)) c.push-n.auto.pending (omega arith)
    (half-edge-in c.args.counts _ c.requires.1)

pub shape_of-outs : goal.shape_of-outs
shape_of-outs c = c.legalize_entries.auto.outs

pub shape_of-halves : goal.shape_of-halves
shape_of-halves c = c.legalize_entries.auto.halves

pub shape_of-faces : goal.shape_of-faces
shape_of-faces c = c.legalize_entries.auto.faces

pub shape_of-pending : goal.shape_of-pending
shape_of-pending c =
    c.legalize_entries.auto.pending ∙ c.push-n.auto.pending

pub returns : goal.returns
returns c =
    start-leaves HalfEdge c.requires.0 (plain c.push-n.result) (c.push-n.ensures [] (empty _)) (λ t. absurd (false≢true t)) c.push-n.auto.pending (omega arith)
    (half-edge-in c.args.counts _ c.requires.1) c.legalize_entries.ensures
