-- `answers::zero_skipped` meets its contract. Assumes nothing.
use native.Mathlib.Omega.{arith}
use Rattle.answers.specs.AnswerLaws.{skipped-starts, skipped-on, skipped-end}
use Rattle.answers.proofs.zero_skipped.Goals as goal

pub loop-i-init : goal.loop-i-init
loop-i-init c = skipped-starts _ c.requires.0 c.requires.1

pub zero_if_skipped-requires : goal.zero_if_skipped-requires
zero_if_skipped-requires c = let i = c.loop-i.invariant in omega (arith, i.room, i.same)

pub loop-i-preserved : goal.loop-i-preserved
loop-i-preserved c = skipped-on c.loop-i.invariant (omega arith) _ c.zero_if_skipped.ensures c.zero_if_skipped.auto.answers

pub returns : goal.returns
returns c = skipped-end c.loop-i.invariant (omega arith)
