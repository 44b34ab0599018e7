-- Rows as the states of a run's finish, and what each function asks of them and leaves. Definitions only.
use Rattle.std.specs.Prelude.{Bool, true, false, cond, not, ◌&&◌, List, ◌⊎◌, ◌≡◌, ℕ, ◌+◌, ◌*◌, ◌/◌, ◌%◌, ◌^◌, ◌<◌, ◌≤◌, T, leb, ltb, ℤ, length}
use Rattle.answers.specs.AnswerRows.{with_words, skipped_in}
use Rattle.circle_test.specs.GoodRows.{GoodRows}
use Rattle.convexity.specs.Convexity.{convexity}
use Rattle.corner.specs.CornerRows.{MeshRoom}
use Rattle.dcel.specs.Rows.{links_of, position_of, row_of}
use Rattle.finish.specs.Finish.{Finishing, close_after}
use Rattle.finish.specs.FinishRows.{finishing_of}
use Rattle.insert.specs.InsertRows.{PointReady}
use Rattle.math.specs.declared.Point.{Point}
use Rattle.math.specs.Determinant.{InRange}
use Rattle.mesh.specs.declared.Counts.{Counts}
use Rattle.mesh.specs.Mesh.{Links}
use Rattle.settled_test.specs.Star.{UnbrokenAt}
use Rattle.skipped.specs.Fill.{Filling, fill_point, fill_after, insert_on, inserted_at, insert_word}
use Rattle.sums.specs.Bounded.{count}
use Rattle.sweep.specs.Run.{Sweeping, answer_words, complete_after, completed_answers}
use Rattle.walkable.specs.Walkable.{Walkable}
use Rattle.complete.specs.declared.FillEnd.{FillEnd}
use Rattle.complete.specs.declared.Completed.{Completed}

-- ---- one point
abbrev pub filling_of : List ℤ → List ℕ → List ℕ → List ℕ → FillEnd → Filling
filling_of q o h a r = record {
  counts = r.counts;
  links = links_of o h a;
  positions = position_of q;
  answered = r.answered;
  full = r.full;
}

-- the list before point i, with no flip refused
abbrev pub filling_at : Counts → List ℤ → List ℕ → List ℕ → List ℕ → ℕ → Filling
filling_at C q o h a i = filling_of q o h a (record { counts = C; answered = i; full = false })

-- where it was skipped, the rows are ready for it
pub record PointRows (C : Counts) (q : List ℤ) (o h a row w : List ℕ) (points : List ℤ) (i : ℕ) : Type 0 where
  pub ready : T (skipped_in (row_of w) i) → PointReady C q o h a row (position_of points i)
  pub pair : 2 * i + 1 < length points
  pub answers-room : answer_words * i + answer_words ≤ length w
  pub small : i + 1 < 4294967296

-- and where that is known the mesh is one to walk on
pub record PointNear (C : Counts) (q : List ℤ) (o h a row w : List ℕ) (points : List ℤ) (i : ℕ) (known : Bool) : Type 0 where
  pub rows : PointRows C q o h a row w points i
  pub walkable : T known → Walkable C (links_of o h a) (position_of q)

-- its answer is stored, where it was skipped and no flip was refused
unfoldable pub with_inserted : (ℕ → ℕ) → ℕ → Bool → (ℕ → ℕ) → ℕ → ℕ
with_inserted row i full word = cond (skipped_in row i && not full) (with_words row i word) row

pub record PointLeaves (C : Counts) (q : List ℤ) (o h a : List ℕ) (room : ℕ) (w : List ℕ) (points : List ℤ) (i : ℕ)
    (q' : List ℤ) (o' h' a' w' : List ℕ) (r : FillEnd) : Type 0 where
  pub is : filling_of q' o' h' a' r ≡ fill_point room (filling_at C q o h a i) (skipped_in (row_of w) i) (position_of points i)
  pub answers-are : row_of w'
      ≡ with_inserted (row_of w) i r.full (insert_word C (insert_on room (filling_at C q o h a i) (position_of points i)))

-- ---- the list
-- the rows do for the mesh and all skipped points, which are in range
pub record FillReady (C : Counts) (q : List ℤ) (o h a row w : List ℕ) (points : List ℤ) (n : ℕ) : Type 0 where
  pub rows : GoodRows C q o h a
  pub vertices : ℕ
  pub most : C.vertices + count n (skipped_in (row_of w)) ≤ vertices
  pub positions : 2 * vertices ≤ length q
  pub outs : vertices ≤ length o
  pub sized : MeshRoom vertices h a row
  pub range : (i : ℕ) → i < n → InRange (position_of points i)
  pub pairs : 2 * n ≤ length points
  pub answers-room : answer_words * n ≤ length w
  pub small : n < 4294967296

-- and where that is known the mesh is one to walk on
pub record FillNear (C : Counts) (q : List ℤ) (o h a row w : List ℕ) (points : List ℤ) (n : ℕ) (known : Bool) : Type 0 where
  pub fill : FillReady C q o h a row w points n
  pub walkable : T known → Walkable C (links_of o h a) (position_of q)

-- 02, Change 2: "into a triangle (fate 6), on an edge (7)"
unfoldable pub inside_number : ℕ → Bool
inside_number f = leb 6 f && leb f 7

abbrev pub inside_in : (ℕ → ℕ) → ℕ → Bool
inside_in row i = inside_number (row (answer_words * i))

-- point i is no new vertex, or it went into a triangle or on an edge and no edge at its vertex breaks the rule
unfoldable pub StillSettled : Counts → Counts → List ℤ → List ℕ → List ℕ → List ℕ → List ℕ → ℕ → Type 0
StillSettled C C' q o h a w i =
    (C'.vertices ≤ C.vertices) ⊎ (T (inside_in (row_of w) i) × UnbrokenAt C' (links_of o h a) (position_of q) C.vertices)

-- none of the first n points was skipped
abbrev pub NoneSkipped : List ℕ → ℕ → Type 0
NoneSkipped w n = (i : ℕ) → i < n → skipped_in (row_of w) i ≡ false

-- the answers of the skipped points among the first `done`
unfoldable pub filled_answers : (ℕ → ℕ → ℕ) → (ℕ → Bool) → ℕ → (ℕ → ℕ) → ℕ → ℕ
filled_answers answer skipped done row x =
    cond (ltb (x / answer_words) done && skipped (x / answer_words)) (answer (x / answer_words) (x % answer_words)) (row x)

-- the words of point i, which was skipped
abbrev pub fill_word : ℕ → Counts → Links → (ℕ → Point) → (ℕ → Bool) → (ℕ → Point) → ℕ → ℕ → ℕ
fill_word room C L p skipped point i k =
    insert_word (fill_after room C L p skipped point i).counts (inserted_at room C L p skipped point i) k

pub record FillLeaves (C : Counts) (q : List ℤ) (o h a : List ℕ) (room : ℕ) (w : List ℕ) (points : List ℤ) (n : ℕ)
    (q' : List ℤ) (o' h' a' w' : List ℕ) (r : FillEnd) : Type 0 where
  pub is : filling_of q' o' h' a' r
      ≡ fill_after room C (links_of o h a) (position_of q) (skipped_in (row_of w)) (position_of points) n
  pub answers-are : (x : ℕ) → row_of w' x
      ≡ filled_answers (fill_word room C (links_of o h a) (position_of q) (skipped_in (row_of w)) (position_of points))
      (skipped_in (row_of w)) r.answered (row_of w) x

-- ---- the closing pass
abbrev pub stopped_at : Counts → ℕ → ℕ → ℕ → Completed
stopped_at C faces flips place = record {
  ended = record { counts = C; totals = record { faces = faces; convexflips = flips; closingflips = 0 }; full = true };
  place = place;
}

-- with the faces and flips of the convexity passes
unfoldable pub close_fill : ℕ → ℕ → Filling → Finishing
close_fill faces flips s =
    let c = close_after s.positions (record { counts = s.counts; links = s.links; faces = 0; flips = 0; full = s.full }) in
    record {
      counts = s.counts;
      links = c.links;
      faces = faces;
      convexflips = flips;
      closingflips = c.flips;
      full = s.full;
    }

pub record CloseReady (q : List ℤ) (o h a : List ℕ) (s : FillEnd) : Type 0 where
  pub rows : s.full ≡ false → GoodRows s.counts q o h a × (s.counts.faces ≤ 2 ^ 25)

-- ---- the whole
abbrev pub swept_to : Counts → ℕ → Bool → List ℤ → List ℕ → List ℕ → List ℕ → Sweeping
swept_to C answered full q o h a = record {
  counts = C;
  links = links_of o h a;
  positions = position_of q;
  answered = answered;
  full = full;
}

pub record CompleteReady (C : Counts) (full : Bool) (q : List ℤ) (o h a row w : List ℕ) (points : List ℤ) (n : ℕ) : Type 0 where
  pub fill : full ≡ false → FillReady C q o h a row w points n
  pub answers-room : answer_words * n ≤ length w

pub record CompleteLeaves (C : Counts) (answered : ℕ) (full : Bool) (q : List ℤ) (o h a : List ℕ) (room : ℕ) (w : List ℕ)
    (points : List ℤ) (n : ℕ) (q' : List ℤ) (o' h' a' w' : List ℕ) (r : Completed) : Type 0 where
  pub mesh : finishing_of o' h' a' r.ended
      ≡ (complete_after room (swept_to C answered full q o h a) (skipped_in (row_of w)) (position_of points) n).mesh
  pub positions : position_of q'
      ≡ (complete_after room (swept_to C answered full q o h a) (skipped_in (row_of w)) (position_of points) n).positions
  pub place : r.place
      ≡ (complete_after room (swept_to C answered full q o h a) (skipped_in (row_of w)) (position_of points) n).place
  pub answers-are : (x : ℕ) → row_of w' x
      ≡ (let v = convexity room C (position_of q) (links_of o h a) in
      completed_answers (fill_word room v.counts v.links (position_of q) (skipped_in (row_of w)) (position_of points))
      (skipped_in (row_of w))
      (complete_after room (swept_to C answered full q o h a) (skipped_in (row_of w)) (position_of points) n).inserted n (row_of w) x)
