-- `complete::complete_after` meets its contract. Assumes nothing.
use mathlib.Core.Path.{◌∙◌}
use native.Mathlib.Omega.{arith}
use Rattle.complete.proofs.CompleteLaws.{refused-before, passes-ready, refused-in, fill-ready, zeros-ready, closed_after}
use Rattle.complete.proofs.FillLoopLaws.{filled-rows}
use Rattle.complete.proofs.complete_after.Goals as goal

pub returns-then-full : goal.returns-then-full
returns-then-full c = refused-before _ _ _ _ _ _ _ _ _ _ c.if-full.true c.zero_skipped.ensures c.stopped.ensures

pub convexity-passed-requires : goal.convexity-passed-requires
convexity-passed-requires c = passes-ready (c.requires.fill c.if-full.false)

pub returns-then-passed : goal.returns-then-passed
returns-then-passed c = refused-in _ _ (c.requires.fill c.if-full.false) c.if-full.false _ _ _ _ c.convexity-passed.ensures c.if-passed.true c.zero_skipped-then-passed.ensures c.stopped-then-passed.ensures

pub fill-filled-requires : goal.fill-filled-requires
fill-filled-requires c = fill-ready _ 0 (c.requires.fill c.if-full.false) c.if-full.false _ _ _ _ c.convexity-passed.ensures c.convexity-passed.auto.outs c.convexity-passed.auto.halves c.convexity-passed.auto.faces c.convexity-passed.auto.pending

pub zero_skipped-requires-2 : goal.zero_skipped-requires-2
zero_skipped-requires-2 c = zeros-ready _ 0 (c.requires.fill c.if-full.false) c.if-full.false _ _ _ _ c.convexity-passed.ensures c.if-passed.false c.convexity-passed.auto.pending c.fill-filled.ensures.0 (let r = c.requires.answers-room in let k = c.fill-filled.auto.answers in omega arith)

pub close-requires : goal.close-requires
close-requires c = (record { rows = λ f. filled-rows {row = c.convexity-passed.new.pending} (fill-ready _ 0 (c.requires.fill c.if-full.false) c.if-full.false _ _ _ _ c.convexity-passed.ensures c.convexity-passed.auto.outs c.convexity-passed.auto.halves c.convexity-passed.auto.faces c.convexity-passed.auto.pending) c.fill-filled.ensures.0 c.fill-filled.auto.positions c.fill-filled.auto.outs c.fill-filled.auto.halves c.fill-filled.auto.faces }, c.fill-filled.ensures.1)

pub shape_of-outs : goal.shape_of-outs
shape_of-outs c = c.close.auto.outs ∙ c.fill-filled.auto.outs ∙ c.convexity-passed.auto.outs

pub shape_of-halves : goal.shape_of-halves
shape_of-halves c = c.close.auto.halves ∙ c.fill-filled.auto.halves ∙ c.convexity-passed.auto.halves

pub shape_of-faces : goal.shape_of-faces
shape_of-faces c = c.close.auto.faces ∙ c.fill-filled.auto.faces ∙ c.convexity-passed.auto.faces

pub shape_of-pending : goal.shape_of-pending
shape_of-pending c = c.fill-filled.auto.pending ∙ c.convexity-passed.auto.pending

pub returns : goal.returns
returns c = closed_after _ _ (c.requires.fill c.if-full.false) c.if-full.false _ _ _ _ c.convexity-passed.ensures c.if-passed.false c.convexity-passed.auto.pending c.fill-filled.ensures.0 c.zero_skipped-2.ensures _ _ _ c.close.ensures
