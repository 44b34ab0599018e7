-- `circle_test::should_flip` meets its contract. Assumes nothing.
use borrow.Author.Rules.{rules}
use mathlib.Core.Path.{subst⁻¹}
use Rattle.dcel.specs.Rows.{Placed}
use Rattle.circle_test.proofs.Tested.{far-outer-e, far-outer-t, far-inner, far-placed}
use Rattle.circle_test.proofs.should_flip.Goals as goal

pub returns-in_default : goal.returns-in_default
returns-in_default c = far-outer-e _ _ _ c.far.ensures c.in_default.is

pub returns-in_default-far : goal.returns-in_default-far
returns-in_default-far c = far-outer-t _ _ _ c.far-2.ensures c.in_default-far.is

pub is_inside-requires : goal.is_inside-requires
is_inside-requires c = (
  subst⁻¹ (Placed _) c.origin-a.ensures c.requires.e.origin,
  subst⁻¹ (Placed _) c.origin-b.ensures c.requires.t.origin,
  far-placed _ _ c.far.ensures c.in-Vertex.is c.requires.e.far,
  far-placed _ _ c.far-2.ensures c.in-Vertex-far.is c.requires.t.far,
)

pub returns : goal.returns
returns c =
    far-inner _ _ _ c.far.ensures c.in-Vertex.is c.far-2.ensures c.in-Vertex-far.is
    c.origin-a.ensures c.origin-b.ensures c.is_inside.ensures
