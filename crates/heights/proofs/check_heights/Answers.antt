-- `heights::check_heights` meets its contract. Assumes nothing.
use mathlib.Core.Bool.{false}
use mathlib.Core.List.{[]}
use mathlib.Core.Path.{sym, ◌∙◌}
use Rattle.dcel.specs.MeshRows.{mesh_rows}
use Rattle.heights.specs.Heights.{surface_rows, heights_lent}
use Rattle.heights.proofs.HeightsLaws.{long-enough, short-tested, outside-tested, fine-tested}
use Rattle.heights.proofs.check_heights.Goals as goal

pub returns-then-any_heights_short : goal.returns-then-any_heights_short
returns-then-any_heights_short c = c.check_ten.ensures ∙ short-tested _ _ _ (sym (c.any_heights_short.ensures _ _) ∙ c.if-any_heights_short.true) _

pub any_heights_outside-requires : goal.any_heights_outside-requires
any_heights_outside-requires c = long-enough (heights_lent _ _ false false) _ (surface_rows (mesh_rows [] [] [] []) _) (sym (c.any_heights_short.ensures false false) ∙ c.if-any_heights_short.false)

pub returns-then-any_heights_outside : goal.returns-then-any_heights_outside
returns-then-any_heights_outside c =
    c.check_ten-then-any_heights_outside.ensures
    ∙ outside-tested _ _ _ (sym (c.any_heights_short.ensures _ _) ∙ c.if-any_heights_short.false)
    (sym (c.any_heights_outside.ensures _) ∙ c.if-any_heights_outside.true)

pub returns : goal.returns
returns c =
    fine-tested _ _ _ (sym (c.any_heights_short.ensures _ _) ∙ c.if-any_heights_short.false)
    (sym (c.any_heights_outside.ensures _) ∙ c.if-any_heights_outside.false)
