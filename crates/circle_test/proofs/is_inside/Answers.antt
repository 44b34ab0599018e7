-- `circle_test::is_inside` meets its contract. Assumes nothing.
use borrow.Author.Rules.{rules}
use mathlib.Core.Path.{subst⁻¹}
use Rattle.math.specs.Determinant.{InRange}
use Rattle.circle_test.proofs.is_inside.Goals as goal

pub contained_in_circumference-requires : goal.contained_in_circumference-requires
contained_in_circumference-requires c = (
  subst⁻¹ InRange c.position-v1.ensures c.requires.0.range,
  subst⁻¹ InRange c.position-v2.ensures c.requires.1.range,
  subst⁻¹ InRange c.position-v3.ensures c.requires.2.range,
  subst⁻¹ InRange c.position-p.ensures c.requires.3.range,
)

pub returns : goal.returns
returns c =
    rw (c.contained_in_circumference.ensures, c.position-v1.ensures, c.position-v2.ensures, c.position-v3.ensures, c.position-p.ensures)
