-- `insert_outside::sees_edge` meets its contract. Assumes nothing.
use mathlib.Core.Path.{◌∙◌}
use borrow.Author.Rules.{rules, sfits_of}
use mir.Facts.{to_z-of_z}
use Rattle.insert_outside.proofs.Sight.{in-range, side-seen}
use mir.Syntax.{w64}
use Rattle.insert_outside.proofs.sees_edge.Goals as goal

pub side_query-requires : goal.side_query-requires
side_query-requires c =
    let s = c.requires in (
      in-range _ c.position-from.ensures c.origin-u.ensures s.origin,
      in-range _ c.position-to.ensures c.to-w.ensures s.to,
      s.range,
    )

pub returns : goal.returns
returns c =
    side-seen _ _ _ _ c.origin-u.ensures c.to-w.ensures
    c.position-from.ensures c.position-to.ensures (to_z-of_z {w = w64} (sfits_of c.side_query.type_inv) ∙ c.side_query.ensures)
