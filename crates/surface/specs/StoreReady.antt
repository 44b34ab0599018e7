-- What a run's heights are stored from: rows that do for it, where the run was made. Definitions only.
use Rattle.std.specs.Prelude.{true, List, ◌≡◌, ℕ, ◌+◌, ◌*◌, ◌<◌, ◌≤◌, T, length}
use Rattle.finish.specs.declared.FinishAnswer.{FinishAnswer}
use Rattle.sweep.specs.Run.{answer_words}
use Rattle.surface.specs.StoredHeights.{fate_word, vertex_word, is_from, is_made, place_of}

-- the answer and the height of point i are in their rows; and so is its vertex, if its fate is from `low` to `high`. The rows by their
-- lengths, but for the answers
pub record FateRoom (low high heights point_heights_of : ℕ) (answers : List ℕ) (i : ℕ) : Type 0 where
  pub answer : answer_words * i + answer_words ≤ length answers
  pub height : i < point_heights_of
  pub vertex : T (is_from low high (fate_word answers i)) → vertex_word answers i < heights
  pub small : T (is_from low high (fate_word answers i)) → vertex_word answers i < 1000000

-- the same of the first n points
abbrev pub FatesRoom : ℕ → ℕ → ℕ → ℕ → List ℕ → ℕ → Type 0
FatesRoom low high heights point_heights_of answers n = (i : ℕ) → i < n → FateRoom low high heights point_heights_of answers i

pub record StoreReady (n heights point_heights_of : ℕ) (answers : List ℕ) (r : FinishAnswer) : Type 0 where
  pub few : is_made r.finished ≡ true → n ≤ 1000000
  pub points : is_made r.finished ≡ true → n ≤ point_heights_of
  pub added : is_made r.finished ≡ true → FatesRoom 1 1 heights point_heights_of answers n
  pub inserted : is_made r.finished ≡ true → FatesRoom 6 9 heights point_heights_of answers n
  -- the last vertex, where it is the point's that was refused a flip
  pub last : is_made r.finished ≡ true → place_of n r.finished < n → (0 < r.counts.vertices) × (r.counts.vertices ≤ heights)
