-- `finish::finish` meets its contract. Assumes nothing.
use borrow.Author.Rules.{rules}
use mathlib.Core.Path.{refl, sym, ◌∙◌, ap}
use Prim.Native.Nat.{ℕ}
use lib.ListN.{replicate}
use Rattle.finish.specs.FinishRows.{accepted-ready}
use Rattle.finish.proofs.Laws.{refused-outcome, accepted-outcome}
use Rattle.finish.proofs.finish.Goals as goal

pub check_seed-requires : goal.check_seed-requires
check_seed-requires c = tt

pub shape_of-outs-in-Err : goal.shape_of-outs-in-Err
shape_of-outs-in-Err c = refl

pub shape_of-halves-in-Err : goal.shape_of-halves-in-Err
shape_of-halves-in-Err c = refl

pub shape_of-faces-in-Err : goal.shape_of-faces-in-Err
shape_of-faces-in-Err c = refl

pub shape_of-pending-in-Err : goal.shape_of-pending-in-Err
shape_of-pending-in-Err c = refl

pub returns-in-Err : goal.returns-in-Err
returns-in-Err c = refused-outcome _ _ _ _ (sym c.in-Err.is ∙ c.check_seed.ensures)

pub finish_mesh-ended-requires : goal.finish_mesh-ended-requires
finish_mesh-ended-requires c = accepted-ready _ _ _ (sym c.in_default.is ∙ c.check_seed.ensures)

pub clear-requires : goal.clear-requires
clear-requires c = tt

pub answer_of-requires : goal.answer_of-requires
answer_of-requires c = tt

pub shape_of-outs : goal.shape_of-outs
shape_of-outs c = c.finish_mesh-ended.auto.outs

pub shape_of-halves : goal.shape_of-halves
shape_of-halves c = c.finish_mesh-ended.auto.halves

pub shape_of-faces : goal.shape_of-faces
shape_of-faces c = c.finish_mesh-ended.auto.faces

pub shape_of-pending : goal.shape_of-pending
shape_of-pending c = c.clear.auto.row ∙ c.finish_mesh-ended.auto.pending

pub returns : goal.returns
returns c =
    accepted-outcome _ _ _ (sym c.in_default.is ∙ c.check_seed.ensures) _ _ _ _ _ _
    c.finish_mesh-ended.ensures c.finish_mesh-ended.auto.outs c.finish_mesh-ended.auto.halves c.finish_mesh-ended.auto.faces (c.clear.ensures ∙ ap (λ (n : ℕ). replicate {A = ℕ} n 0) c.finish_mesh-ended.auto.pending) (c.answer_of.ensures _ _ _)
