-- `surface_rows::store_height` meets its contract. Assumes nothing.
use mathlib.Core.Path.{refl, ◌∙◌}
use borrow.Author.Tests.{lt-ltb, le-ltb}
use mir.Facts.{to_z-of_z}
use Rattle.surface.specs.StoredHeights.{height_stored}
use borrow.Author.Rules.{rules}
use Rattle.surface_rows.proofs.store_height.Goals as goal

pub returns-then-before-after : goal.returns-then-before-after
unfolding height_stored
returns-then-before-after c = c.set_height.ensures ∙ rw (lt-ltb _ _ c.if-before-after.true, to_z-of_z c.ranges.z) refl

pub returns-else-before-after : goal.returns-else-before-after
unfolding height_stored
returns-else-before-after c = rw (le-ltb _ _ c.if-before-after.false) refl
