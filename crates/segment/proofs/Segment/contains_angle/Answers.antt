-- `contains-turns` takes the answer, which is `contains_angle` case by case, to whole numbers.
use Rattle.std.specs.Prelude.{◌≡◌, Bool, T, Float}
use Rattle.std.proofs.Common.{◌∙◌}
use Rattle.angle.specs.Angle.{turns, valid_angle}
use Rattle.segment.specs.declared.Segment.{Segment}
use Rattle.segment.specs.Segment.{EndsAreAngles, contains_angle, contains_turns}
use Rattle.segment.proofs.Laws.{contains-turns}
use Rattle.segment.proofs.Segment.contains_angle.Goals as goal

whole : (s : Segment) (a : Float) (r : Bool) → EndsAreAngles s × T (valid_angle a) → r ≡ contains_angle s a → r ≡ contains_turns s (turns a)
whole s a r h is = is ∙ contains-turns s a h.0 h.1

pub returns-then-from-a-clause-whole : goal.returns-then-from-a-clause-whole
returns-then-from-a-clause-whole c = whole c.args.self c.args.a _ c.requires (simp (c.in-Plain.is, c.if-from-a.true))

pub returns-else-from-a-clause-whole : goal.returns-else-from-a-clause-whole
returns-else-from-a-clause-whole c = whole c.args.self c.args.a _ c.requires (simp (c.in-Plain.is, c.if-from-a.false))

pub returns-then-from-a-2-clause-whole : goal.returns-then-from-a-2-clause-whole
returns-then-from-a-2-clause-whole c = whole c.args.self c.args.a _ c.requires (simp (c.in-Wrapping.is, c.if-from-a-2.true))

pub returns-else-from-a-2-clause-whole : goal.returns-else-from-a-2-clause-whole
returns-else-from-a-2-clause-whole c = whole c.args.self c.args.a _ c.requires (simp (c.in-Wrapping.is, c.if-from-a-2.false))
