-- `locate::check_angle` meets its contract. Assumes nothing.
use Rattle.std.specs.Prelude.{Ok, Err}
use borrow.Author.Rules.{rules}
use mathlib.Core.Path.{sym, ◌∙◌, ap}
use mathlib.Core.Bool.{Bool, cond}
use Rattle.mesh_check.specs.Check.{refused}
use Rattle.locate.specs.Locate.{check_angle}
use Rattle.locate.proofs.check_angle.Goals as goal

pub returns-then-validate_angle : goal.returns-then-validate_angle
unfolding check_angle
returns-then-validate_angle c = ap (λ (t : Bool). cond t (Ok tt) (refused 8 0)) (sym (sym c.validate_angle.ensures ∙ c.if-validate_angle.true))

pub returns-else-validate_angle : goal.returns-else-validate_angle
unfolding check_angle
returns-else-validate_angle c = ap Err c.of_call.ensures ∙ ap (λ (t : Bool). cond t (Ok tt) (refused 8 0)) (sym (sym c.validate_angle.ensures ∙ c.if-validate_angle.false))
