-- One point of the list, as the code takes it: not skipped, refused a flip, or put in. Assumes nothing.
use Rattle.std.specs.Prelude.{Bool, true, false, List, ◌≡◌, ℕ, ◌+◌, ℤ}
use Rattle.std.proofs.Math.Path.{refl, sym, fun_ext}
use Rattle.std.proofs.Common.{◌∙◌, ap}
use Rattle.std.proofs.Math.Numerals.{add-one}
use Rattle.answers.specs.AnswerLaws.{insert-words}
use Rattle.answers.specs.AnswerRows.{words_of, with_words, skipped_in}
use Rattle.corner.specs.CornerRows.{extended_of}
use Rattle.dcel.specs.Rows.{links_of, position_of, row_of}
use Rattle.insert.specs.declared.Inserted.{Inserted}
use Rattle.insert.specs.InsertRows.{PointReady, inserting_of}
use Rattle.math.specs.declared.Point.{Point}
use Rattle.mesh.specs.declared.Counts.{Counts}
use Rattle.skipped.specs.Fill.{fill_point, insert_on, insert_word}
use Rattle.skipped.specs.Insert.{position_fate, position_vertex, insert_point}
use Rattle.sums.proofs.BitLaws.{from-true}
use Rattle.complete.specs.CompleteRows.{filling_of, filling_at, PointRows, PointLeaves, with_inserted}

module _ (C : Counts) (q : List ℤ) (o h a : List ℕ) (room : ℕ) (w : List ℕ) (points : List ℤ) (i : ℕ) where
  -- it was not skipped
  pub not-skipped : {b : Bool} → b ≡ skipped_in (row_of w) i → b ≡ false
      → PointLeaves C q o h a room w points i q o h a w (record { counts = C; answered = i + 1; full = false })
  unfolding fill_point with_inserted
  not-skipped e f = record { is = rw (sym e ∙ f, add-one i) refl; answers-are = rw (sym e ∙ f) refl }

  module _ {b : Bool} (e : b ≡ skipped_in (row_of w) i) (t : b ≡ true) {v : Point} (v-is : v ≡ position_of points i)
      (q' : List ℤ) (o' h' a' : List ℕ) (r : Inserted)
      (X : inserting_of q' o' h' a' r ≡ insert_point room C (links_of o h a) (position_of q) v) where
    inserting-is : insert_on room (filling_at C q o h a i) (position_of points i) ≡ inserting_of q' o' h' a' r
    inserting-is = ap (insert_point room C (links_of o h a) (position_of q)) (sym v-is) ∙ sym X

    -- a flip was refused
    pub point-refused : r.added.full ≡ true
        → PointLeaves C q o h a room w points i q' o' h' a' w (record { counts = r.added.counts; answered = i; full = true })
    unfolding fill_point with_inserted extended_of
    point-refused f = record { is = rw (sym e ∙ t, inserting-is, f) refl; answers-are = rw (sym e ∙ t) refl }

    goes : r.added.full ≡ false → filling_of q' o' h' a' (record { counts = r.added.counts; answered = i + 1; full = false })
        ≡ fill_point room (filling_at C q o h a i) (skipped_in (row_of w) i) (position_of points i)
    unfolding fill_point extended_of
    goes f = rw (sym e ∙ t, inserting-is, f, add-one i) refl

    stored : with_words (row_of w) i (words_of (position_fate r.position) (position_vertex C r.position) r.added.faces r.added.flips)
        ≡ with_inserted (row_of w) i false (insert_word C (insert_on room (filling_at C q o h a i) (position_of points i)))
    unfolding with_inserted extended_of
    stored = rw (sym e ∙ t, inserting-is) (ap (with_words (row_of w) i) (fun_ext (λ k. sym (insert-words C (inserting_of q' o' h' a' r) k))))

    -- it is in, and its answer is stored
    pub point-in : r.added.full ≡ false → {fate vertex : ℕ} → fate ≡ position_fate r.position → vertex ≡ position_vertex C r.position
        → {w' : List ℕ} → row_of w' ≡ with_words (row_of w) i (words_of fate vertex r.added.faces r.added.flips)
        → PointLeaves C q o h a room w points i q' o' h' a' w' (record { counts = r.added.counts; answered = i + 1; full = false })
    point-in f k m {w'} z = record { is = goes f; answers-are = z ∙ rw (k, m) stored }

-- the rows are ready for it
pub point-ready : {C : Counts} {q : List ℤ} {o h a row w : List ℕ} {points : List ℤ} {i : ℕ} → PointRows C q o h a row w points i
    → {b : Bool} → b ≡ skipped_in (row_of w) i → b ≡ true → {v : Point} → v ≡ position_of points i → PointReady C q o h a row v
point-ready R e t v-is = rw v-is (R.ready (from-true (sym e ∙ t)))
