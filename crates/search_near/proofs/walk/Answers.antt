-- `search_near::walk` meets its contract. Assumes nothing.
use mathlib.Core.Path.{subst}
use Rattle.search_near.specs.NearRows.{TurnedIs}
use Rattle.search_near.proofs.walk.Goals as goal

pub loop-init : goal.loop-init
loop-init c = c.requires

pub walk_turn-requires : goal.walk_turn-requires
walk_turn-requires c = c.loop.invariant

pub returns-in-Inside : goal.returns-in-Inside
returns-in-Inside c = subst (TurnedIs _ _ _ _ _ _) c.in-Inside.is c.walk_turn.ensures

pub loop-preserved : goal.loop-preserved
loop-preserved c = subst (TurnedIs _ _ _ _ _ _) c.in-Onward.is c.walk_turn.ensures
