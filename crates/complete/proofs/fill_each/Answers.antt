-- `complete::fill_each` meets its contract. Assumes nothing.
use mathlib.Core.Path.{refl, ◌∙◌}
use native.Mathlib.Omega.{arith}
use Rattle.complete.proofs.FillLoopLaws.{filling-starts, filling-point, filling-rows, filling-full, filling-on, filling-end}
use Rattle.complete.proofs.NearLaws.{filling-near}
use Rattle.complete.proofs.SettledLaws.{filling-settled}
use Rattle.complete.proofs.fill_each.Goals as goal

pub loop-i-init : goal.loop-i-init
loop-i-init c = let p = c.requires in (filling-starts p.0.fill, refl, p.1)

pub prefetch_block-requires : goal.prefetch_block-requires
prefetch_block-requires c =
    let r = c.requires.0.fill.answers-room in let l = c.loop-i.invariant.0.lengths.answers in let t = c.loop-i-test.true in
    (omega arith, omega arith)

pub fill_point-done-requires : goal.fill_point-done-requires
fill_point-done-requires c = filling-near c.requires.0 c.loop-i.invariant.0 c.loop-i-test.true c.loop-i.invariant.1

pub returns-then-done : goal.returns-then-done
returns-then-done c = (
  filling-full c.loop-i.invariant.0 c.loop-i-test.true c.fill_point-done.ensures c.if-done.true,
  λ t. absurd t,
)

pub is_still_settled-settled-requires : goal.is_still_settled-settled-requires
is_still_settled-settled-requires c =
    let f = c.fill_point-done.auto in
    let l = c.loop-i-test.true in
    let I = filling-on c.loop-i.invariant.0 l c.fill_point-done.ensures c.if-done.false {row' = c.fill_point-done.new.pending}
    (record { positions = f.positions; outs = f.outs; halves = f.halves; faces = f.faces; pending = f.pending; answers = f.answers }) in
    (filling-rows I, (let r = I.ready.answers-room in let k = I.lengths.answers in omega arith))

pub place-grid-requires : goal.place-grid-requires
place-grid-requires c = (filling-point c.loop-i.invariant.0 c.loop-i-test.true).pair

pub loop-i-preserved : goal.loop-i-preserved
loop-i-preserved c =
    let f = c.fill_point-done.auto in
    let I = c.loop-i.invariant.0 in
    let l = c.loop-i-test.true in
    let X = c.fill_point-done.ensures in
    let n = c.if-done.false in (
      filling-on I l X n
          (record { positions = f.positions; outs = f.outs; halves = f.halves; faces = f.faces; pending = f.pending; answers = f.answers }),
      c.place-grid.ensures ∙ c.loop-i.invariant.1,
      filling-settled I l X n c.loop-i.settled c.is_still_settled-settled.result c.loop-i.invariant.2 c.is_still_settled-settled.ensures,
    )

pub returns : goal.returns
returns c = (filling-end c.loop-i.invariant.0 c.loop-i-test.false, c.loop-i.invariant.2)
