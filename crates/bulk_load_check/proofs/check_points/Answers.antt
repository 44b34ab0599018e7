-- `bulk_load_check::check_points` meets its contract. Assumes nothing.
use borrow.Author.Rules.{rules}
use borrow.Author.Tests.{lt-ltb, le-ltb}
use Rattle.std.specs.Prelude.{Err}
use mathlib.Core.Path.{refl, ◌∙◌, ap}
use Rattle.bulk_load_check.specs.Lent.{points_checked}
use Rattle.bulk_load_check.proofs.check_points.Goals as goal

pub returns-then-i-n : goal.returns-then-i-n
unfolding points_checked
returns-then-i-n c = ap Err c.at.ensures ∙ rw (← c.first_outside-i.ensures, lt-ltb _ _ c.if-i-n.true) refl

pub returns-then-heights_outside : goal.returns-then-heights_outside
unfolding points_checked
returns-then-heights_outside c =
    ap Err c.of_call.ensures
    ∙ rw (
      ← c.first_outside-i.ensures,
      le-ltb _ _ c.if-i-n.false,
      ← c.heights_outside.ensures,
      c.if-heights_outside.true,
    ) refl

pub returns : goal.returns
unfolding points_checked
returns c =
    rw (
      ← c.first_outside-i.ensures,
      le-ltb _ _ c.if-i-n.false,
      ← c.heights_outside.ensures,
      c.if-heights_outside.false,
    ) refl
