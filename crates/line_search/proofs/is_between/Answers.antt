-- `line_search::is_between` meets its contract. Assumes nothing.
use mathlib.Core.Bool.{Bool, true, false, ◌&&◌}
use mathlib.Core.Path.{◌≡◌}
use Rattle.line_search.proofs.is_between.Goals as goal

-- x and y are what the two calls answer
both : {x a y b : Bool} → x ≡ a → x ≡ true → y ≡ b → y ≡ (a && b)
both p t q = rw (← p, t, q)

first : {x a : Bool} (b : Bool) → x ≡ a → x ≡ false → x ≡ (a && b)
first b p t = rw (← p, t)

pub returns-then-comes_before : goal.returns-then-comes_before
returns-then-comes_before c = both c.comes_before.ensures c.if-comes_before.true c.comes_before-then-comes_before.ensures

pub returns-else-comes_before : goal.returns-else-comes_before
returns-else-comes_before c = first _ c.comes_before.ensures c.if-comes_before.false
