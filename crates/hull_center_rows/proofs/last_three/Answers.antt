-- `hull_center_rows::last_three` meets its contract. Assumes nothing.
use mathlib.Core.Path.{◌∙◌, ap, ap₂}
use borrow.Author.Rules.{rules, sfits_of}
use lib.IntN.{ℤ}
use mir.Facts.{to_z-of_z}
use Rattle.hull_center.specs.HullCenter.{last_three}
use Rattle.math.specs.declared.Point.{Point}
use Rattle.hull_center_rows.proofs.Numbers.{sums}
use mir.Syntax.{w32, w64}
use Rattle.hull_center_rows.proofs.last_three.Goals as goal

abbrev x_of : Point → ℤ
x_of p = p.x

abbrev y_of : Point → ℤ
y_of p = p.y

pub returns : goal.returns
unfolding last_three
returns c =
    ap₂ (λ (x y : ℤ). record { x = x; y = y })
    (to_z-of_z {w = w64} (sfits_of c.add_three.type_inv) ∙ c.add_three.ensures
    ∙ sums (to_z-of_z {w = w32} (search rules) ∙ ap x_of c.position-a.ensures)
    (to_z-of_z {w = w32} (search rules) ∙ ap x_of c.position-b.ensures)
    (to_z-of_z {w = w32} (search rules) ∙ ap x_of c.position-c.ensures))
    (to_z-of_z {w = w64} (sfits_of c.add_three-2.type_inv) ∙ c.add_three-2.ensures
    ∙ sums (to_z-of_z {w = w32} (search rules) ∙ ap y_of c.position-a.ensures)
    (to_z-of_z {w = w32} (search rules) ∙ ap y_of c.position-b.ensures)
    (to_z-of_z {w = w32} (search rules) ∙ ap y_of c.position-c.ensures))
