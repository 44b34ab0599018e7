-- The seed's end where the sweep does not start, on the rows. Assumes nothing.
use Rattle.std.specs.Prelude.{Bool, true, cond, ◌&&◌, List, ◌≡◌, ℕ, ◌*◌, ◌<◌, ◌≤◌, ltb, leb, ℤ, length, Ok, Err}
use Rattle.std.proofs.Math.Bool.{false}
use Rattle.std.proofs.Math.Path.{refl, ap}
use Rattle.std.proofs.Common.{sym, ◌∙◌, arith}
use borrow.Author.Tests.{lt-ltb, le-ltb}
use Rattle.answers.specs.AnswerRows.{Zeroed}
use Rattle.bulk_load.specs.declared.BulkLoadAnswer.{BulkLoadAnswer}
use Rattle.dcel.specs.Rows.{links_of, position_of, row_of}
use Rattle.finish.specs.declared.Ended.{Ended}
use Rattle.finish.specs.declared.FinishAnswer.{FinishAnswer}
use Rattle.finish.specs.Finished.{Finished}
use Rattle.finish.specs.Finish.{Finishing, finish_mesh, finished_from}
use Rattle.finish.specs.FinishRows.{finishing_of}
use Rattle.seed.specs.declared.SeedEnd.{SeedEnd}
use Rattle.sweep.specs.Run.{answer_words}
use Rattle.bulk_load_rows.specs.LoadRows.{end_of, zero_from, EndLeaves}

module _ (q : List ℤ) (o h a row w : List ℕ) (s : SeedEnd) (n : ℕ) where
  zero-not : s.full ≡ false → (x : ℕ) → row_of w x ≡ zero_from s.full s.answered n (row_of w) x
  unfolding zero_from
  zero-not f x = rw f refl

  -- a flip was refused
  pub end-full : {w' : List ℕ} → s.full ≡ true → Zeroed w w' (answer_words * s.answered) (answer_words * n)
      → EndLeaves q o h a row w s n o h a w' (record {
        finish = record { counts = s.counts; finished = Err (record { number = 9; place = s.answered }) };
        line = false;
      })
  unfolding end_of zero_from
  end-full f Z = record { answer = rw f refl; links = rw f refl; answers-are = λ x. Z.each x ∙ rw f refl }

  -- a line
  pub end_line : s.full ≡ false → s.counts.faces < 2
      → EndLeaves q o h a row w s n o h a w (record {
        finish = record { counts = s.counts; finished = Ok (record { faces = 0; convexflips = 0; closingflips = 0 }) };
        line = true;
      })
  unfolding end_of
  end_line f l =
      let t = le-ltb 1 s.counts.faces (omega arith) in
      record { answer = rw (f, t) refl; links = rw (f, t) refl; answers-are = zero-not f }

  -- a mesh
  pub end-mesh : {o' h' a' : List ℕ} (e : Ended) {r : FinishAnswer} → s.full ≡ false → 2 ≤ s.counts.faces
      → finishing_of o' h' a' e ≡ finish_mesh (length row) s.counts (position_of q) (links_of o h a)
      → ((o h a : List ℕ) → r ≡ record { counts = e.counts; finished = finished_from n (finishing_of o h a e) })
      → EndLeaves q o h a row w s n o' h' a' w (record { finish = r; line = false })
  unfolding end_of finishing_of
  end-mesh {o'} {h'} {a'} e {r} f l E A =
      let t = lt-ltb 1 s.counts.faces (omega arith) in
      record {
        answer = rw (f, t) (ap (λ (z : FinishAnswer). record { finish = z; line = false })
            (A o' h' a' ∙ ap (λ (z : Finishing). record { counts = z.counts; finished = finished_from n z }) E));
        links = rw (f, t) (ap (λ (z : Finishing). z.links) E);
        answers-are = zero-not f;
      }
