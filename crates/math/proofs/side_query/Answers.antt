-- `math::side_query` meets its contract: the cross product of the differences from p1 is the determinant.
-- Assumes nothing.
use mathlib.Core.Path.{◌∙◌, ap₂}
use mir.Facts.{to_z-of_z}
use borrow.Author.Rules.{sfits_of}
use Rattle.math.specs.Vector.{cross_of}
use Rattle.math.proofs.VectorLaws.{short, orient2d-vectors}
use mir.Syntax.{w64}
use Rattle.math.proofs.side_query.Goals as goal

pub cross-requires : goal.cross-requires
cross-requires c =
    let p = c.requires in
    (short c.sub-u.ensures p.1 p.0, short c.sub-v.ensures p.2 p.0)

pub returns : goal.returns
returns c =
    let a = c.args in
    to_z-of_z {w = w64} (sfits_of c.cross.type_inv) ∙ c.cross.ensures ∙ ap₂ cross_of c.sub-u.ensures c.sub-v.ensures ∙ orient2d-vectors a.p1 a.p2 a.q
