-- The loop over the skipped points: after i points of the list the rows hold the mesh of the definition's list, and the answers of those
-- among them that were skipped. Assumes nothing.
use Rattle.std.specs.Prelude.{List, ◌≡◌, ℤ, length}
use Prim.Native.Nat.{ℕ, ◌≤◌}
use Rattle.answers.specs.AnswerRows.{skipped_in}
use Rattle.dcel.specs.Rows.{links_of, position_of, row_of}
use Rattle.mesh.specs.declared.Counts.{Counts}
use Rattle.skipped.specs.Fill.{fill_after}
use Rattle.complete.specs.CompleteRows.{filling_at, FillReady, filled_answers, fill_word}

-- ---- the rows keep their lengths
pub record SameRows (q : List ℤ) (o h a row w : List ℕ) (q' : List ℤ) (o' h' a' row' w' : List ℕ) : Type 0 where
  pub positions : length q' ≡ length q
  pub outs : length o' ≡ length o
  pub halves : length h' ≡ length h
  pub faces : length a' ≡ length a
  pub pending : length row' ≡ length row
  pub answers : length w' ≡ length w

-- ---- the loop
pub record FillingOn (C₀ : Counts) (q₀ : List ℤ) (o₀ h₀ a₀ row₀ w₀ : List ℕ) (points : List ℤ) (n : ℕ)
    (C : Counts) (q : List ℤ) (o h a row w : List ℕ) (i : ℕ) : Type 0 where
  pub ready : FillReady C₀ q₀ o₀ h₀ a₀ row₀ w₀ points n
  pub lengths : SameRows q₀ o₀ h₀ a₀ row₀ w₀ q o h a row w
  pub at : fill_after (length row₀) C₀ (links_of o₀ h₀ a₀) (position_of q₀) (skipped_in (row_of w₀)) (position_of points) i
      ≡ filling_at C q o h a i
  pub answers-are : (x : ℕ) → row_of w x
      ≡ filled_answers (fill_word (length row₀) C₀ (links_of o₀ h₀ a₀) (position_of q₀) (skipped_in (row_of w₀)) (position_of points))
      (skipped_in (row_of w₀)) i (row_of w₀) x
  pub most : i ≤ n
