-- The answers of the skipped points: stored one after another, and zeros for those that are not in. Assumes nothing.
use Rattle.std.specs.Prelude.{Bool, ◌&&◌, ◌≡◌, leb, ltb}
use Rattle.std.proofs.Math.Bool.{true, false, cond}
use Rattle.std.proofs.Math.Path.{refl, ap, fun_ext}
use Rattle.std.proofs.Common.{sym, ◌∙◌, arith}
use Prim.Native.Nat.{ℕ, ◌+◌, ◌*◌, ◌/◌, ◌%◌, ◌<◌, ◌≤◌}
use Rattle.std.proofs.Math.Decide.{ℕ_discrete, dec_lt}
use borrow.Author.Tests.{eq-eqb, ne_eqb, lt-ltb, le-ltb, le-leb, lt-leb}
use Rattle.answers.specs.AnswerRows.{with_words, skipped_number, skipped_in, skipped_zero}
use Rattle.sweep.specs.Run.{answer_words, completed_answers}
use Rattle.complete.specs.CompleteRows.{with_inserted, filled_answers}

words_same : (i : ℕ) (word r t : ℕ → ℕ) (x : ℕ) → r x ≡ t x → with_words r i word x ≡ with_words t i word x
unfolding with_words
words_same i word r t x e = rw e refl

-- equal words, equal rows
pub words_are : (row : ℕ → ℕ) (i : ℕ) (full : Bool) (f g : ℕ → ℕ) → ((k : ℕ) → f k ≡ g k)
    → with_inserted row i full f ≡ with_inserted row i full g
words_are row i full f g e = ap (with_inserted row i full) (fun_ext e)

entries : (x n : ℕ) → ltb (x / answer_words) n ≡ ltb x (answer_words * n)
entries x n = go (dec_lt x (answer_words * n))
  where
    go : Dec (x < answer_words * n) → ltb (x / answer_words) n ≡ ltb x (answer_words * n)
    go (yes b) = lt-ltb (x / answer_words) n (omega arith) ∙ sym (lt-ltb x (answer_words * n) b)
    go (no b) = le-ltb (x / answer_words) n (omega arith) ∙ sym (le-ltb x (answer_words * n) (omega arith))

module _ (answer : ℕ → ℕ → ℕ) (row : ℕ → ℕ) where
  abbrev sk : ℕ → Bool
  sk = skipped_in row

  pub filled_none : (x : ℕ) → filled_answers answer sk 0 row x ≡ row x
  unfolding filled_answers
  filled_none x = rw (le-ltb (x / answer_words) 0 (omega arith)) refl

  -- past those that are done the row is as it was
  pub filled-past : (done x : ℕ) → done ≤ x / answer_words → filled_answers answer sk done row x ≡ row x
  unfolding filled_answers
  filled-past done x l = rw (le-ltb (x / answer_words) done l) refl

  in-done : {done : ℕ} (x : ℕ) → x / answer_words < done
      → filled_answers answer sk done row x ≡ cond (sk (x / answer_words)) (answer (x / answer_words) (x % answer_words)) (row x)
  unfolding filled_answers
  in-done {done} x b = rw (lt-ltb (x / answer_words) done b) refl

  pub filled-skipped : (done i : ℕ) → done ≤ i → skipped_in (filled_answers answer sk done row) i ≡ sk i
  filled-skipped done i l =
      let k : done ≤ (answer_words * i) / answer_words = omega arith in
      ap skipped_number (filled-past done (answer_words * i) k)

  -- one more
  module _ (i : ℕ) where
    filled_at : (b : Bool) → sk i ≡ b → (x : ℕ)
        → cond (b && true) (with_words (filled_answers answer sk i row) i (answer i)) (filled_answers answer sk i row) x
        ≡ filled_answers answer sk (i + 1) row x
    unfolding with_words filled_answers
    filled_at b q x = go b q (ℕ_discrete (x / answer_words) i) (dec_lt (x / answer_words) i)
      where
        go : (b : Bool) → sk i ≡ b → Dec (x / answer_words ≡ i) → Dec (x / answer_words < i)
            → cond (b && true) (with_words (filled_answers answer sk i row) i (answer i)) (filled_answers answer sk i row) x
            ≡ filled_answers answer sk (i + 1) row x
        go true q (yes d) c = rw (eq-eqb (x / answer_words) i d, lt-ltb (x / answer_words) (i + 1) (omega arith), d, q) refl
        go true q (no d) (yes c) =
            rw (ne_eqb (x / answer_words) i d, lt-ltb (x / answer_words) i c, lt-ltb (x / answer_words) (i + 1) (omega arith)) refl
        go true q (no d) (no c) =
            rw (ne_eqb (x / answer_words) i d, le-ltb (x / answer_words) i (omega arith), le-ltb (x / answer_words) (i + 1) (omega arith)) refl
        go false q (yes d) c =
            rw (le-ltb (x / answer_words) i (omega arith), lt-ltb (x / answer_words) (i + 1) (omega arith), d, q) refl
        go false q (no d) (yes c) = rw (lt-ltb (x / answer_words) i c, lt-ltb (x / answer_words) (i + 1) (omega arith)) refl
        go false q (no d) (no c) =
            rw (le-ltb (x / answer_words) i (omega arith), le-ltb (x / answer_words) (i + 1) (omega arith)) refl

    pub filled_more : (r : ℕ → ℕ) → ((x : ℕ) → r x ≡ filled_answers answer sk i row x) → (w : ℕ → ℕ) → w ≡ with_inserted r i false (answer i)
        → (x : ℕ) → w x ≡ filled_answers answer sk (i + 1) row x
    unfolding with_inserted
    filled_more r e w h x =
        ap (λ (f : ℕ → ℕ). f x) h ∙ same x ∙ filled_at (sk i) refl x
      where
        here : skipped_in r i ≡ sk i
        here = ap skipped_number (e (answer_words * i)) ∙ filled-skipped i i (omega arith)

        inside : (b : Bool) (x : ℕ)
            → cond (b && true) (with_words r i (answer i)) r x
            ≡ cond (b && true) (with_words (filled_answers answer sk i row) i (answer i)) (filled_answers answer sk i row) x
        inside true x = words_same i (answer i) r (filled_answers answer sk i row) x (e x)
        inside false x = e x

        same : (x : ℕ) → cond (skipped_in r i && true) (with_words r i (answer i)) r x
            ≡ cond (sk i && true) (with_words (filled_answers answer sk i row) i (answer i)) (filled_answers answer sk i row) x
        same x = ap (λ (b : Bool). cond (b && true) (with_words r i (answer i)) r x) here ∙ inside (sk i) x

  -- none is in: zeros for all that were skipped
  pub none_in : (n x : ℕ) → skipped_zero row 0 n x ≡ completed_answers answer sk 0 n row x
  unfolding skipped_zero completed_answers
  none_in n x = rw (le-leb 0 (x / answer_words) (omega arith), entries x n, le-ltb (x / answer_words) 0 (omega arith)) refl

  -- those below `done` are in: zeros for the others
  pub some_in : (n done : ℕ) → done ≤ n → (r : ℕ → ℕ) → ((x : ℕ) → r x ≡ filled_answers answer sk done row x)
      → (x : ℕ) → skipped_zero r done n x ≡ completed_answers answer sk done n row x
  unfolding skipped_zero completed_answers
  some_in n done l r e x = go (dec_lt (x / answer_words) done)
    where
      here : done ≤ x / answer_words → skipped_in r (x / answer_words) ≡ sk (x / answer_words)
      here k = ap skipped_number (e (answer_words * (x / answer_words))) ∙ filled-skipped done (x / answer_words) k

      in_all : (b : Bool) → cond b (answer (x / answer_words) (x % answer_words)) (row x)
          ≡ cond (true && b) (cond true (answer (x / answer_words) (x % answer_words)) 0) (row x)
      in_all true = refl
      in_all false = refl

      go : Dec (x / answer_words < done)
          → cond ((leb done (x / answer_words) && ltb (x / answer_words) n) && skipped_in r (x / answer_words)) 0 (r x)
          ≡ cond (ltb x (answer_words * n) && sk (x / answer_words))
          (cond (ltb (x / answer_words) done) (answer (x / answer_words) (x % answer_words)) 0) (row x)
      go (yes b) =
          rw (lt-leb done (x / answer_words) b, lt-ltb x (answer_words * n) (omega arith), lt-ltb (x / answer_words) done b)
          (e x ∙ in-done x b ∙ in_all (sk (x / answer_words)))
      go (no b) =
          let k : done ≤ x / answer_words = omega arith in
          rw (le-leb done (x / answer_words) k, entries x n, here k, le-ltb (x / answer_words) done k, e x, filled-past done x k) refl
