-- `hull::is_strict` meets its contract. Assumes nothing.
use native.Mathlib.Omega.{arith}
use Rattle.sums.proofs.BitLaws.{bit_le}
use Rattle.hull.proofs.Around.{counting, next-angled, small-counts, counted, strict-end}
use Rattle.hull.proofs.is_strict.Goals as goal

pub loop-init : goal.loop-init
loop-init c = counting c.requires.0 c.angle_at-from.ensures

pub angle_at-to-requires : goal.angle_at-to-requires
angle_at-to-requires c = next-angled c.loop.invariant c.next-e.ensures

pub overflow_add-wraps : goal.overflow_add-wraps
overflow_add-wraps c = let a = c.loop-test.true in let b = c.ranges.size in let s = small-counts c.loop.invariant in let e = c.from-wraps.ensures in let m = bit_le c.less.result in record { fits = omega arith }

pub overflow_add-wides : goal.overflow_add-wides
overflow_add-wides c = let a = c.loop-test.true in let b = c.ranges.size in let s = small-counts c.loop.invariant in let e = c.from-wides.ensures in let m = bit_le c.is_wide.result in record { fits = omega arith }

pub overflow_add-equals : goal.overflow_add-equals
overflow_add-equals c = let a = c.loop-test.true in let b = c.ranges.size in let s = small-counts c.loop.invariant in let e = c.from-equals.ensures in let m = bit_le c.equal.result in record { fits = omega arith }

pub loop-preserved : goal.loop-preserved
loop-preserved c =
    counted c.loop.invariant c.next-e.ensures c.angle_at-to.ensures c.loop-test.true c.from-wraps.ensures c.less.ensures c.from-wides.ensures c.is_wide.ensures c.from-equals.ensures c.equal.ensures

pub returns : goal.returns
returns c = strict-end c.loop.invariant c.requires.1 c.loop-test.false c.decide.ensures
