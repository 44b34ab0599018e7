-- `answers::zero_answers` meets its contract. Assumes nothing.
use native.Mathlib.Omega.{arith}
use borrow.Author.Rules.{rules}
use Rattle.answers.specs.AnswerLaws.{zeroed}
use Rattle.answers.proofs.zero_answers.Goals as goal

pub returns : goal.returns
returns c = zeroed _ _ _ _ (omega (arith, c.requires.0)) c.requires.1 (search rules)
