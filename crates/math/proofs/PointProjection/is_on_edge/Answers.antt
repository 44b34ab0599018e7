-- `math::PointProjection::is_on_edge` meets its contract. Assumes nothing.
use mathlib.Core.Path.{◌≡◌}
use mathlib.Core.Bool.{Bool, true, not, ◌&&◌}
use Rattle.math.proofs.PointProjection.is_on_edge.Goals as goal

-- x and r are what the two calls answer
neither : {x a r b : Bool} → x ≡ a → not x ≡ true → r ≡ b → not r ≡ (not a && not b)
neither p t q = rw (← p, t, q)

pub returns-then-not-is_before_edge : goal.returns-then-not-is_before_edge
returns-then-not-is_before_edge c = neither c.is_before_edge.ensures c.if-not-is_before_edge.true-raw c.is_behind_edge.ensures
