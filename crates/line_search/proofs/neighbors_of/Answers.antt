-- `line_search::neighbors_of` meets its contract. The invariant: no vertex before v stands between `low` and `high`. Assumes nothing.
use Rattle.line_search.specs.Narrowing.{narrow_start, vertex-there}
use Rattle.line_search.specs.Narrowing.{narrow-past, narrow-low, narrow_high, narrow-hit, narrow-end, narrow-found}
use Rattle.line_search.proofs.neighbors_of.Goals as goal
use Rattle.line_search.proofs.neighbors_of.Goals.{then-is_between+then-comes_before, then-is_between+else-comes_before+then-comes_before-2, else-is_between}

pub loop-v-init : goal.loop-v-init
loop-v-init c = narrow_start c.requires.1

pub position-p-requires : goal.position-p-requires
position-p-requires c = vertex-there c.requires.1 c.loop-v-test.true

pub returns-else-comes_before-2 : goal.returns-else-comes_before-2
returns-else-comes_before-2 c = (
  narrow-hit c.requires.1 c.loop-v.invariant c.loop-v-test.true c.position-p.ensures
      c.is_between.ensures c.if-is_between.true c.comes_before.ensures c.if-comes_before.false
      c.comes_before-else-comes_before.ensures c.if-comes_before-2.false,
  tt,
)

pub loop-v-preserved : goal.loop-v-preserved
loop-v-preserved c = elim c.if-is_between.branch [
  | then-is_between+then-comes_before w ↦ rw (w.before-is, w.after-is, w.low-is, w.high-is)
      (narrow-low c.requires.1 c.loop-v.invariant c.loop-v-test.true c.position-p.ensures
      c.is_between.ensures w.if-is_between.true w.comes_before.ensures w.if-comes_before.true)
  | then-is_between+else-comes_before+then-comes_before-2 w ↦ rw (w.before-is, w.after-is, w.low-is, w.high-is)
      (narrow_high c.requires.1 c.loop-v.invariant c.loop-v-test.true c.position-p.ensures
      c.is_between.ensures w.if-is_between.true w.comes_before.ensures w.if-comes_before.false
      w.comes_before-else-comes_before.ensures w.if-comes_before-2.true)
  | else-is_between w ↦ rw (w.before-is, w.after-is, w.low-is, w.high-is)
      (narrow-past c.requires.1 c.loop-v.invariant c.loop-v-test.true c.position-p.ensures c.is_between.ensures w.if-is_between.false)
]

pub returns : goal.returns
returns c = (
  narrow-end c.requires.1 c.loop-v.invariant c.loop-v-test.false,
  narrow-found c.requires.1 c.loop-v.invariant c.loop-v-test.false c.requires.0,
)
