-- Rows as the states of a growing seed, and what each function asks of them and leaves. Definitions only.
use Rattle.std.specs.Prelude.{Bool, false, cond, List, ◌≡◌, ℕ, ◌+◌, ◌*◌, ◌/◌, ◌%◌, ◌<◌, ◌≤◌, ltb, ℤ, length}
use Rattle.answers.specs.AnswerRows.{with_words}
use Rattle.bulk_load.specs.Seed.{Seeding, seeded_by, seed_after, grow_at, grow_word}
use Rattle.dcel.specs.Rows.{links_of, position_of, row_of}
use Rattle.grow.specs.GrowRows.{growing_at, GrowReady}
use Rattle.line.specs.Grow.{Growing, grow_on}
use Rattle.math.specs.declared.Point.{Point}
use Rattle.math.specs.Determinant.{InRange}
use Rattle.mesh.specs.declared.Counts.{Counts}
use Rattle.mesh.specs.Mesh.{Links}
use Rattle.sweep.specs.Run.{answer_words}
use Rattle.seed.specs.declared.SeedEnd.{SeedEnd}

-- what the rows know of a growing seed
pub record SeedState : Type 0 where
  pub counts : Counts
  pub links : Links
  pub positions : ℕ → Point
  pub answered : ℕ
  pub ready : Bool
  pub full : Bool

abbrev pub state_of : Seeding → SeedState
state_of s = record {
  counts = s.growing.mesh.counts;
  links = s.growing.mesh.links;
  positions = s.growing.positions;
  answered = s.answered;
  ready = s.ready;
  full = s.growing.mesh.full;
}

abbrev pub state_in : List ℤ → List ℕ → List ℕ → List ℕ → SeedEnd → SeedState
state_in q o h a r = record {
  counts = r.counts;
  links = links_of o h a;
  positions = position_of q;
  answered = r.answered;
  ready = r.ready;
  full = r.full;
}

-- ---- one point
-- the seed before point i
abbrev pub seeding_at : Counts → List ℤ → List ℕ → List ℕ → List ℕ → ℕ → Seeding
seeding_at C q o h a i = record { growing = growing_at C (links_of o h a) (position_of q); answered = i; ready = false }

-- point i on it
abbrev pub grown_at : ℕ → Counts → List ℤ → List ℕ → List ℕ → List ℕ → List ℤ → ℕ → Growing
grown_at room C q o h a points i = grow_on room (growing_at C (links_of o h a) (position_of q)) (position_of points i)

pub record PointReady (C : Counts) (q : List ℤ) (o h a row w : List ℕ) (points : List ℤ) (i : ℕ) : Type 0 where
  pub ready : GrowReady C q o h a row (position_of points i)
  pub pair : 2 * i + 1 < length points
  pub answers-room : answer_words * i + answer_words ≤ length w
  pub small : i + 1 < 4294967296

-- its answer is stored, where no flip was refused
pub record PointLeaves (C : Counts) (q : List ℤ) (o h a : List ℕ) (room : ℕ) (w : List ℕ) (points : List ℤ) (i : ℕ)
    (q' : List ℤ) (o' h' a' w' : List ℕ) (r : SeedEnd) : Type 0 where
  pub is : state_in q' o' h' a' r ≡ state_of (seeded_by (seeding_at C q o h a i) (grown_at room C q o h a points i))
  pub answers-are : row_of w'
      ≡ cond r.full (row_of w) (with_words (row_of w) i (grow_word (grown_at room C q o h a points i)))

-- ---- the list: the rows do for all its points, which are in range
pub record SeedReady (q : List ℤ) (o h a row w : List ℕ) (points : List ℤ) (n : ℕ) : Type 0 where
  pub positions : 2 * n ≤ length q
  pub outs : n ≤ length o
  pub halves : 24 * n ≤ length h
  pub faces : 2 * n ≤ length a
  pub pending : 8 ≤ length row
  pub most : n ≤ 1000000
  pub range : (i : ℕ) → i < n → InRange (position_of points i)
  pub pairs : 2 * n ≤ length points
  pub answers-room : answer_words * n ≤ length w

-- the words of point i
abbrev pub word_at : ℕ → List ℤ → List ℕ → List ℕ → List ℕ → List ℤ → ℕ → ℕ → ℕ
word_at room q o h a points i k = grow_word (grow_at room (links_of o h a) (position_of q) (position_of points) i) k

-- the answers of the first `done` points
unfoldable pub answers_to : (ℕ → ℕ → ℕ) → ℕ → (ℕ → ℕ) → ℕ → ℕ
answers_to word done row x = cond (ltb (x / answer_words) done) (word (x / answer_words) (x % answer_words)) (row x)

pub record SeedLeaves (q : List ℤ) (o h a : List ℕ) (room : ℕ) (w : List ℕ) (points : List ℤ) (n : ℕ)
    (q' : List ℤ) (o' h' a' w' : List ℕ) (r : SeedEnd) : Type 0 where
  pub is : state_in q' o' h' a' r ≡ state_of (seed_after room (links_of o h a) (position_of q) (position_of points) n)
  pub answers-are : (x : ℕ) → row_of w' x ≡ answers_to (word_at room q o h a points) r.answered (row_of w) x
