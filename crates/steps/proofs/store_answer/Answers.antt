-- `steps::store_answer` meets its contract. Assumes nothing.
use mathlib.Core.Path.{◌≡◌, sym, ◌∙◌, ap, fun_ext}
use Prim.Native.Nat.{ℕ}
use Rattle.answers.specs.AnswerRows.{words_of, with_words}
use Rattle.answers.specs.AnswerLaws.{answer-words}
use Rattle.decide.specs.Decide.{fate_number, fate_vertex}
use Rattle.sweep.specs.declared.Answer.{Answer}
use Rattle.sweep.specs.Run.{answer_word}
use Rattle.steps.proofs.store_answer.Goals as goal

-- a step's answer, by its words
stored_answer : (row : ℕ → ℕ) (i : ℕ) (r : Answer) {a b : ℕ} {w : ℕ → ℕ} → w ≡ with_words row i (words_of a b r.faces r.flips)
    → a ≡ fate_number r.fate → b ≡ fate_vertex r.fate → w ≡ with_words row i (answer_word r)
stored_answer row i r e x y = e ∙ rw (x, y) (ap (with_words row i) (fun_ext (λ k. sym (answer-words r k))))

pub returns : goal.returns
returns c = stored_answer _ _ _ c.store_words.ensures c.fate_number.ensures c.fate_vertex.ensures
