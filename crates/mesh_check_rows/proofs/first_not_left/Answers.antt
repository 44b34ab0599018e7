-- `mesh_check_rows::first_not_left` meets its contract. Assumes nothing.
use native.Mathlib.Omega.{arith}
use mathlib.Core.Path.{refl, ◌∙◌, ap}
use borrow.Author.Tests.{not-true, not-false}
use Rattle.dcel.specs.Rows.{links_of}
use Rattle.mesh_check.specs.Check.{turns_left, first_not_left}
use Rattle.mesh_check.proofs.ReadableLaws.{corners-of}
use Rattle.mesh_check_rows.proofs.Search.{missed-none, missed_more, found, found_none}
use Rattle.mesh_check_rows.proofs.Faces.{face-left, face-not-left}
use Rattle.mesh_check_rows.proofs.first_not_left.Goals as goal

pub loop-f-init : goal.loop-f-init
loop-f-init c = (omega arith, λ o. missed_more _ _ (missed-none _) refl)

pub turns_left-requires : goal.turns_left-requires
turns_left-requires c = corners-of c.requires c.loop-f-test.true c.adjacent.ensures

pub returns-then-not-turns_left : goal.returns-then-not-turns_left
unfolding first_not_left links_of
returns-then-not-turns_left c = λ o. found _ _ _ c.loop-f-test.true (c.loop-f.invariant.1 o) (face-not-left _ c.loop-f.invariant.0 (c.turns_left.ensures o _ ∙ ap (turns_left _ _) c.adjacent.ensures) (not-true _ c.if-not-turns_left.true-raw))

pub loop-f-preserved : goal.loop-f-preserved
unfolding links_of
loop-f-preserved c = (
  omega arith,
  λ o. missed_more _ _ (c.loop-f.invariant.1 o) (face-left _ c.loop-f.invariant.0 (c.turns_left.ensures o _ ∙ ap (turns_left _ _) c.adjacent.ensures) (not-false _ c.if-not-turns_left.false-raw)),
)

pub returns : goal.returns
unfolding first_not_left
returns c = λ o. found_none _ _ _ (omega arith) (c.loop-f.invariant.1 o)
