-- `seed::seed` meets its contract. Assumes nothing.
use Rattle.seed.specs.SeedLoop.{seeding-starts, seeding-point, seeding-full, seeding-ready, seeding-on, seeding-end}
use Rattle.seed.proofs.seed.Goals.{then-done-via-then-done, then-done-via-else-done+then-done-2}
use Rattle.seed.proofs.seed.Goals as goal

pub loop-i-init : goal.loop-i-init
loop-i-init c = seeding-starts c.requires

pub seed_point-done-requires : goal.seed_point-done-requires
seed_point-done-requires c = seeding-point c.loop-i.invariant c.loop-i-test.true

pub returns-then-done : goal.returns-then-done
returns-then-done c = elim c.then-done.branch [
  | then-done-via-then-done w ↦ seeding-full c.loop-i.invariant c.seed_point-done.ensures c.loop-i-test.true w.if-done.true
  | then-done-via-else-done+then-done-2 w ↦ seeding-ready c.loop-i.invariant c.seed_point-done.ensures c.loop-i-test.true w.if-done.false w.if-done-2.true
]

pub loop-i-preserved : goal.loop-i-preserved
loop-i-preserved c =
    let k = c.seed_point-done.auto in
    seeding-on c.loop-i.invariant c.seed_point-done.ensures c.loop-i-test.true c.if-done.false c.if-done-2.false
    (record { positions = k.positions; outs = k.outs; halves = k.halves; faces = k.faces }) k.pending k.answers

pub returns : goal.returns
returns c = seeding-end c.loop-i.invariant c.loop-i-test.false
