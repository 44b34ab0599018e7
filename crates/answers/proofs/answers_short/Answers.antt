-- `answers::answers_short` meets its contract. Assumes nothing.
use mathlib.Core.Path.{◌∙◌, ap}
use Prim.Native.Nat.{◌/◌}
use lib.Dec.{ltb}
use Rattle.sweep.specs.Run.{answer_words}
use Rattle.answers.specs.AnswerLaws.{short-test}
use Rattle.answers.proofs.answers_short.Goals as goal

pub returns : goal.returns
returns c = ap (ltb (c.args.answers / answer_words)) c.point_count.ensures ∙ short-test c.args.answers _
