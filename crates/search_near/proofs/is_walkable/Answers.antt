-- `search_near::is_walkable` meets its contract. Assumes nothing.
use mathlib.Core.Path.{◌∙◌}
use native.Mathlib.Omega.{arith}
use borrow.Author.Tests.{not-true, not-false}
use Rattle.circle_test.specs.GoodRows.{held}
use Rattle.hull.proofs.Ready.{size-asks, size_is, size_small}
use Rattle.search_near.proofs.BoundaryLoopLaws.{first-there, first-ready, along-start, along-there, along-ready}
use Rattle.search_near.proofs.BoundaryLoopLaws.{turn-short, along-fails, along-next, along-few, along-end}
use Rattle.search_near.proofs.is_walkable.Goals as goal

pub convex_hull_size-size-requires : goal.convex_hull_size-size-requires
convex_hull_size-size-requires c = size-asks (held c.requires)

pub adjacent-e-requires : goal.adjacent-e-requires
adjacent-e-requires c = first-there c.requires

pub direction-from-requires : goal.direction-from-requires
direction-from-requires c = first-ready c.requires c.adjacent-e.ensures

pub loop-init : goal.loop-init
loop-init c = along-start _ c.adjacent-e.ensures c.direction-from.ensures

pub next-e-requires : goal.next-e-requires
next-e-requires c = along-there c.requires c.loop.invariant

pub direction-to-requires : goal.direction-to-requires
direction-to-requires c = along-ready c.requires c.loop.invariant c.next-e.ensures

pub is_right_turn-requires : goal.is_right_turn-requires
is_right_turn-requires c = turn-short c.loop.invariant c.next-e.ensures c.direction-to.ensures

pub returns-then-not-is_right_turn : goal.returns-then-not-is_right_turn
returns-then-not-is_right_turn c = along-fails c.loop.invariant c.next-e.ensures c.direction-to.ensures c.is_right_turn.ensures c.requires (c.convex_hull_size-size.ensures ∙ size_is (held c.requires)) c.loop-test.true (not-true _ c.if-not-is_right_turn.true-raw)

pub overflow_add-circles : goal.overflow_add-circles
overflow_add-circles c = record { fits = let k = along-few (along-next c.loop.invariant c.next-e.ensures c.direction-to.ensures c.is_right_turn.ensures c.loop-test.true (not-false _ c.if-not-is_right_turn.false-raw) c.fall-circles.ensures) in let z = (c.convex_hull_size-size.ensures ∙ size_is (held c.requires)) in let w = size_small (held c.requires) in let l = c.loop-test.true in omega arith }

pub loop-preserved : goal.loop-preserved
loop-preserved c = along-next c.loop.invariant c.next-e.ensures c.direction-to.ensures c.is_right_turn.ensures c.loop-test.true (not-false _ c.if-not-is_right_turn.false-raw) c.fall-circles.ensures

pub returns : goal.returns
returns c = along-end c.loop.invariant _ (c.convex_hull_size-size.ensures ∙ size_is (held c.requires)) c.loop-test.false
