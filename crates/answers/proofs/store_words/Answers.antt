-- `answers::store_words` meets its contract. Assumes nothing.
use native.Mathlib.Omega.{arith}
use Rattle.answers.specs.AnswerLaws.{stored-part}
use Rattle.answers.proofs.store_words.Goals as goal

pub returns : goal.returns
returns c = stored-part _ _ _ _ _ _ _ _ c.requires (omega arith) c.copy_from_slice.ensures.after
