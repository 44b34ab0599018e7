-- `From` for `fithmoul::results::PointAnswer` meets its contract. Assumes nothing.
use mathlib.Core.Path.{ap₂}
use Prim.Native.Nat.{ℕ}
use Rattle.sweep.specs.declared.Answer.{Answer}
use Rattle.sweep.specs.Run.{answer_word}
use Rattle.fithmoul.specs.declared.results.PointAnswer.{PointAnswer}
use borrow.Author.Rules.{rules}
use Rattle.fithmoul.proofs.results.PointAnswerFromAnswer.from.Goals as goal

abbrev words : Answer → ℕ → ℕ → PointAnswer
words a f v = record { fate = f; vertex = v; faces = a.faces; flips = a.flips }

pub returns : goal.returns
unfolding answer_word
returns c =
    ap₂ (words c.args.answer) c.fate_number.ensures c.fate_vertex.ensures
