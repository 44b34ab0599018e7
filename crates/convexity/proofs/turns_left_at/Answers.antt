-- `convexity::turns_left_at` meets its contract. Assumes nothing.
use mathlib.Core.Path.{◌∙◌}
use borrow.Author.Rules.{sfits_of}
use mir.Facts.{to_z-of_z}
use Rattle.convexity.proofs.Corners.{in-range, side_left}
use mir.Syntax.{w64}
use Rattle.convexity.proofs.turns_left_at.Goals as goal

pub side_query-requires : goal.side_query-requires
side_query-requires c = (
  in-range _ c.position-p1.ensures c.origin-a.ensures c.requires.origin,
  in-range _ c.position-p2.ensures c.to-b.ensures c.requires.to,
  in-range _ c.position-target.ensures c.to-c.ensures c.requires.target,
)

pub returns : goal.returns
returns c =
    side_left _ _ _ _ c.origin-a.ensures c.to-b.ensures c.to-c.ensures
    c.position-p1.ensures c.position-p2.ensures c.position-target.ensures (to_z-of_z {w = w64} (sfits_of c.side_query.type_inv) ∙ c.side_query.ensures)
