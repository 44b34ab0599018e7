-- Rows as the states of a run between its steps, and what the steps ask of them and leave. Definitions only.
use Rattle.std.specs.Prelude.{cond, List, ◌≡◌, ℕ, suc, ◌+◌, ◌*◌, ◌/◌, ◌%◌, ◌<◌, ◌≤◌, ltb, Float, ℤ, length}
use Rattle.corner.specs.CornerRows.{MeshRoom}
use Rattle.dcel.specs.MeshRows.{MeshRows, mesh_rows, links_in, places_in}
use Rattle.dcel.specs.Rows.{links_of, position_of, row_of}
use Rattle.decide.specs.SweepRows.{SweepRows}
use Rattle.math.specs.Determinant.{InRange}
use Rattle.mesh.specs.declared.Counts.{Counts}
use Rattle.ring_rows.specs.declared.Node.{Node}
use Rattle.ring_rows.specs.declared.Hull.{Hull}
use Rattle.steps.specs.declared.SweepEnd.{SweepEnd}
use Rattle.sweep.specs.Step.{Stepping, answer_of}
use Rattle.sweep.specs.Run.{Sweeping, sweep_after, step_at, answer_words, answer_word}

-- ---- answers
-- the answers of the first n points, and what the row held past them
abbrev pub answers_below : (ℕ → Stepping) → ℕ → (ℕ → ℕ) → ℕ → ℕ
answers_below step n row x =
    cond (ltb x (answer_words * n)) (answer_word (answer_of (step (x / answer_words))) (x % answer_words)) (row x)

-- ---- the steps
unfoldable pub sweeping_of : MeshRows → SweepEnd → Sweeping
sweeping_of m r = record { counts = r.counts; links = links_in m; positions = places_in m; answered = r.answered; full = r.full }

-- the rows do for N vertices, the seed's and all points
pub record SweepRoom (N : ℕ) (q : List ℤ) (o h a row : List ℕ) (nodes : List Node) (freed buckets : List ℕ) (hull : Hull) : Type 0 where
  pub most : N ≤ 1000000
  pub positions : 2 * N ≤ length q
  pub outs : N ≤ length o
  pub sized : MeshRoom N h a row
  pub node-room : suc N ≤ length nodes
  pub freed-room : suc N ≤ length freed
  pub bucket-room : N ≤ length buckets
  pub nodes-most : hull.nodes ≤ suc N

-- a mesh with its ring, and rows that do for it and all points, which are in range
pub record SweepReady (C : Counts) (q : List ℤ) (o h a row : List ℕ) (nodes : List Node) (freed buckets answers : List ℕ) (hull : Hull) (cx cy : Float) (points : List ℤ) (count : ℕ) : Type 0 where
  pub sweep : SweepRows C q o h a nodes freed buckets hull cx cy
  pub room : SweepRoom (C.vertices + count) q o h a row nodes freed buckets hull
  pub range : (i : ℕ) → i < count → InRange (position_of points i)
  pub pairs : 2 * count ≤ length points
  pub answers-room : answer_words * count ≤ length answers

-- the steps as they are defined, and the answers of the points that were answered
pub record SweepLeaves (C : Counts) (q : List ℤ) (o h a row answers : List ℕ) (cx cy : Float) (points : List ℤ) (count : ℕ) (q' : List ℤ) (o' h' a' answers' : List ℕ) (r : SweepEnd) : Type 0 where
  pub is : sweeping_of (mesh_rows q' o' h' a') r ≡ sweep_after (length row) cx cy C (links_of o h a) (position_of q) (position_of points) count
  pub answers-are : (x : ℕ) → row_of answers' x
      ≡ answers_below (step_at (length row) cx cy C (links_of o h a) (position_of q) (position_of points)) r.answered (row_of answers) x
