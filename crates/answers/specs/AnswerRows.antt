-- The row of answers as a function of its entries, and what the functions leave in it. Definitions only.
use Rattle.std.specs.Prelude.{Bool, cond, ◌&&◌, List, ◌≡◌, ℕ, zero, suc, ◌*◌, ◌/◌, ◌%◌, eqb, leb, ltb}
use Rattle.dcel.specs.Rows.{row_of}
use Rattle.sweep.specs.Run.{answer_words}

-- 01: "one answer (fate, vertex, faces, flips) per point"
unfoldable pub words_of : ℕ → ℕ → ℕ → ℕ → ℕ → ℕ
words_of fate vertex faces flips zero = fate
words_of fate vertex faces flips (suc zero) = vertex
words_of fate vertex faces flips (suc (suc zero)) = faces
words_of fate vertex faces flips (suc (suc (suc k))) = flips

-- the words of point i are stored
unfoldable pub with_words : (ℕ → ℕ) → ℕ → (ℕ → ℕ) → ℕ → ℕ
with_words row i word x = cond (eqb (x / answer_words) i) (word (x % answer_words)) (row x)

-- the fate of point i, the first of its words, is from `low` to `high`
unfoldable pub fate_in : ℕ → ℕ → (ℕ → ℕ) → ℕ → Bool
fate_in low high row i = leb low (row (answer_words * i)) && leb (row (answer_words * i)) high

-- 02, Change 2: "points of fates 3, 4 and 5"
unfoldable pub skipped_number : ℕ → Bool
skipped_number f = leb 3 f && leb f 5

abbrev pub skipped_in : (ℕ → ℕ) → ℕ → Bool
skipped_in row i = skipped_number (row (answer_words * i))

-- point i has zeros, if it was skipped
unfoldable pub zeroed_at : (ℕ → ℕ) → ℕ → ℕ → ℕ
zeroed_at row i = cond (skipped_in row i) (with_words row i (words_of 0 0 0 0)) row

-- zeros from entry `from` up to `to`
pub record Zeroed (row row' : List ℕ) (from to : ℕ) : Type 0 where
  pub each : (x : ℕ) → row_of row' x ≡ cond (leb from x && ltb x to) 0 (row_of row x)

-- zeros for those of the points from `from` up to `to` that were skipped
unfoldable pub skipped_zero : (ℕ → ℕ) → ℕ → ℕ → ℕ → ℕ
skipped_zero row from to x =
    cond ((leb from (x / answer_words) && ltb (x / answer_words) to) && skipped_in row (x / answer_words)) 0 (row x)

pub record SkippedZeroed (row row' : List ℕ) (from to : ℕ) : Type 0 where
  pub each : (x : ℕ) → row_of row' x ≡ skipped_zero (row_of row) from to x
