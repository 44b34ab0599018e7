-- `search::search_from` meets its contract. The invariant: to go on from here with the turns that are left is to go on from the
-- start. Assumes nothing.
use mathlib.Core.Path.{refl}
use Rattle.search.specs.Searching.{searching-start, searching-found, searching-on, searching-end}
use Rattle.search.proofs.search_from.Goals as goal

pub loop-init : goal.loop-init
loop-init c = searching-start c.requires.0

pub search_turn-requires : goal.search_turn-requires
search_turn-requires c = c.loop.invariant.ready

pub returns-in-Found : goal.returns-in-Found
returns-in-Found c =
    searching-found c.loop.invariant c.loop-test.true c.search_turn.ensures c.in-Found.is
    _ refl

pub loop-preserved : goal.loop-preserved
loop-preserved c =
    searching-on c.loop.invariant c.loop-test.true c.search_turn.ensures c.in-Onward.is

pub returns : goal.returns
returns c = searching-end c.loop.invariant c.loop-test.false _ refl
