-- `math::Point::distance_2` meets its contract: the product of the difference with itself. Assumes nothing.
use mathlib.Core.Path.{◌∙◌, ap₂}
use mir.Facts.{to_z-of_z}
use borrow.Author.Rules.{sfits_of}
use Rattle.math.specs.Vector.{dot_of}
use Rattle.math.proofs.VectorLaws.{short, length2-vectors}
use mir.Syntax.{w64}
use Rattle.math.proofs.Point.distance_2.Goals as goal

pub dot-requires : goal.dot-requires
dot-requires c =
    let p = c.requires in let s = short c.sub-dir.ensures p.1 p.0 in
    (s, s)

pub returns : goal.returns
returns c =
    let a = c.args in
    to_z-of_z {w = w64} (sfits_of c.dot.type_inv) ∙ c.dot.ensures ∙ ap₂ dot_of c.sub-dir.ensures c.sub-dir.ensures ∙ length2-vectors a.self a.other
