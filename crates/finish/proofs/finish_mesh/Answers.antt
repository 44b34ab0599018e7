-- `finish::finish_mesh` meets its contract. Assumes nothing.
use mathlib.Core.Path.{◌∙◌}
use Rattle.finish.proofs.Laws.{passes-full, passes-rows, passes-closed}
use Rattle.finish.proofs.finish_mesh.Goals as goal

pub convexity-added-requires : goal.convexity-added-requires
convexity-added-requires c = c.requires

pub shape_of-outs-then-added : goal.shape_of-outs-then-added
shape_of-outs-then-added c = c.convexity-added.auto.outs

pub shape_of-halves-then-added : goal.shape_of-halves-then-added
shape_of-halves-then-added c = c.convexity-added.auto.halves

pub shape_of-faces-then-added : goal.shape_of-faces-then-added
shape_of-faces-then-added c = c.convexity-added.auto.faces

pub shape_of-pending-then-added : goal.shape_of-pending-then-added
shape_of-pending-then-added c = c.convexity-added.auto.pending

pub returns-then-added : goal.returns-then-added
returns-then-added c = passes-full c.requires _ _ _ _ c.convexity-added.ensures c.if-added.true

pub closing_pass-closing-requires : goal.closing_pass-closing-requires
closing_pass-closing-requires c =
    passes-rows c.requires _ _ _ _ c.convexity-added.ensures c.convexity-added.auto.outs c.convexity-added.auto.halves c.convexity-added.auto.faces

pub shape_of-outs : goal.shape_of-outs
shape_of-outs c = c.closing_pass-closing.auto.outs ∙ c.convexity-added.auto.outs

pub shape_of-halves : goal.shape_of-halves
shape_of-halves c = c.closing_pass-closing.auto.halves ∙ c.convexity-added.auto.halves

pub shape_of-faces : goal.shape_of-faces
shape_of-faces c = c.closing_pass-closing.auto.faces ∙ c.convexity-added.auto.faces

pub shape_of-pending : goal.shape_of-pending
shape_of-pending c = c.convexity-added.auto.pending

pub returns : goal.returns
returns c = passes-closed c.requires _ _ _ _ c.convexity-added.ensures _ _ _ _ c.closing_pass-closing.ensures c.if-added.false
