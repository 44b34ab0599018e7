-- `math::project_point` meets its contract: the two products are the factor and the squared length.
-- Assumes nothing.
use mathlib.Core.Path.{◌∙◌, ap₂}
use lib.IntN.{ℤ}
use mir.Facts.{to_z-of_z}
use borrow.Author.Rules.{sfits_of}
use Rattle.math.specs.Vector.{dot_of}
use Rattle.math.proofs.VectorLaws.{short, factor-vectors, length2-vectors}
use mir.Syntax.{w64}
use Rattle.math.proofs.project_point.Goals as goal

pub dot-requires : goal.dot-requires
dot-requires c = let p = c.requires in (short c.sub-to.ensures p.2 p.0, short c.sub-dir.ensures p.1 p.0)

pub dot-requires-2 : goal.dot-requires-2
dot-requires-2 c =
    let p = c.requires in
    (short c.sub-dir.ensures p.1 p.0, short c.sub-dir.ensures p.1 p.0)

pub returns : goal.returns
returns c =
    let a = c.args in
    ap₂ (λ (f l : ℤ). record { factor = f; length_2 = l })
    (to_z-of_z {w = w64} (sfits_of c.dot.type_inv) ∙ c.dot.ensures ∙ ap₂ dot_of c.sub-to.ensures c.sub-dir.ensures ∙ factor-vectors a.p1 a.p2 a.q)
    (to_z-of_z {w = w64} (sfits_of c.dot-2.type_inv) ∙ c.dot-2.ensures ∙ ap₂ dot_of c.sub-dir.ensures c.sub-dir.ensures ∙ length2-vectors a.p1 a.p2)
