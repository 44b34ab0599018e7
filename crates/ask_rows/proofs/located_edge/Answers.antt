-- `ask_rows::located_edge` meets its contract. Assumes nothing.
use mathlib.Core.Path.{refl}
use native.Mathlib.Omega.{arith}
use Rattle.hull.proofs.Along.{angled}
use Rattle.ask_rows.proofs.Look.{there, next-angled, found, looking, not_found}
use Rattle.ask_rows.proofs.located_edge.Goals as goal

pub angle_at-from-requires : goal.angle_at-from-requires
angle_at-from-requires c = angled 0 c.requires.0 refl

pub loop-init : goal.loop-init
loop-init c = record {
  boundary = c.requires.0;
  at = refl;
  most = omega arith;
  angle = c.angle_at-from.ensures;
  none = λ j u t. omega arith;
}

pub next-next-requires : goal.next-next-requires
next-next-requires c = there c.loop.invariant

pub angle_at-to-requires : goal.angle_at-to-requires
angle_at-to-requires c = next-angled c.loop.invariant c.next-next.ensures

pub holds-requires : goal.holds-requires
holds-requires c =
    (c.loop.invariant.angle.is-angle, c.angle_at-to.ensures.is-angle, c.requires.1)

pub returns-then-holds : goal.returns-then-holds
returns-then-holds c =
    found c.loop.invariant c.next-next.ensures c.angle_at-to.ensures c.holds.ensures c.loop-test.true c.if-holds.true

pub loop-preserved : goal.loop-preserved
loop-preserved c =
    looking c.loop.invariant c.next-next.ensures c.angle_at-to.ensures c.holds.ensures c.loop-test.true c.if-holds.false

pub returns : goal.returns
returns c = not_found c.loop.invariant c.loop-test.false
