-- The loop of `answers::zero_skipped`.
use Rattle.answers.specs.AnswerLaws.{SkippedZeroing}
use Rattle.answers.proofs.zero_skipped.Given as goal

abbrev pub invariant-loop-i : goal.invariant-loop-i
invariant-loop-i l = SkippedZeroing l.initial.answers l.answers l.from l.to l.i
