-- The checks of a step, whose point and height are rows of their own; and how a point's height is stored where its answer has the fate: one
-- point, and one more of a list. Assumes nothing.
use mathlib.Core.Bool.{Bool, true, false, cond, ◌&&◌}
use mathlib.Core.List.{List, [], ◌∷◌}
use mathlib.Core.Path.{◌≡◌, refl, sym, ◌∙◌, ap, subst}
use Prim.Native.Nat.{ℕ, suc, ◌+◌, ◌-◌, ◌*◌, ◌<◌, ◌≤◌}
use native.Mathlib.Omega.{arith}
use borrow.Author.Tests.{lt-ltb, le-ltb}
use lib.Dec.{leb}
use lib.IntN.{ℤ}
use lib.ListN.{get_or}
use Rattle.answers.specs.AnswerRows.{fate_in}
use Rattle.dcel.specs.Rows.{row_of}
use Rattle.finish.specs.declared.FinishAnswer.{FinishAnswer}
use Rattle.heights.specs.Heights.{SurfaceRows, heights_lent, heights_tested}
use Rattle.math.specs.declared.Point.{Point}
use Rattle.mesh.specs.declared.Counts.{Counts}
use Rattle.mesh_check.specs.Checked.{Checked}
use Rattle.mesh_check.specs.Check.{vertex_count}
use Rattle.start.specs.Start.{point_row, sweep_rows_short}
use Rattle.sums.proofs.BitLaws.{from-true}
use Rattle.sums.specs.Put.{put}
use Rattle.surface.specs.PutEach.{put_each}
use Rattle.surface.specs.StoreReady.{FateRoom, FatesRoom, StoreReady}
use Rattle.surface.specs.StoredHeights.{fate_word, vertex_word, is_from, stored_from, answered_heights, is_made, place_of, finished_heights}

-- ---- the checks of a step, whose point and height are rows of their own
pub point-tested : {x y z z' : ℤ} {v : Point} → x ≡ v.x → y ≡ v.y → z' ≡ z → (C : Counts) (s : SurfaceRows)
    → (nodes freed buckets pending : ℕ) {n : ℕ} → n ≡ vertex_count C (x ∷ y ∷ []) → {short : Bool}
    → short ≡ sweep_rows_short false n nodes freed buckets pending
    → {r : Checked} → r ≡ heights_tested (heights_lent (x ∷ y ∷ []) (z' ∷ []) short false) C s
    → r ≡ heights_tested (heights_lent (point_row v) (z ∷ []) (sweep_rows_short false (vertex_count C (point_row v)) nodes freed buckets pending) false) C s
point-tested a b c C s nodes freed buckets pending n short e = rw (← a, ← b, ← c, ← n, ← short) e

-- ---- one point
module _ (answers : List ℕ) (low high i : ℕ) where
  -- the fate's number is the first word of an answer
  fate-read : fate_in low high (row_of answers) i ≡ is_from low high (fate_word answers i)
  unfolding fate_in is_from
  fate-read = ap (λ (x : ℕ). leb low (row_of answers x) && leb (row_of answers x) high) plain
    where
      plain : 4 * i ≡ 4 * i + 0
      plain = omega arith

  pub fate-known : {r b : Bool} → r ≡ fate_in low high (row_of answers) i → r ≡ b → is_from low high (fate_word answers i) ≡ b
  fate-known e k = sym fate-read ∙ sym e ∙ k

-- it has the fate, so its vertex is in the row
pub vertex-room : {low high heights point_heights_of : ℕ} {answers : List ℕ} {i : ℕ} → FateRoom low high heights point_heights_of answers i
    → is_from low high (fate_word answers i) ≡ true → (get_or answers (4 * i + 1) 0 < heights) × (get_or answers (4 * i + 1) 0 < 1000000)
unfolding row_of
vertex-room R e = (R.vertex (from-true e), R.small (from-true e))

module _ (b : Bool) (h : ℕ → ℤ) (v : ℕ) (z : ℤ) where
  pub not-stored : b ≡ false → h ≡ cond b (put h v z) h
  not-stored e = rw e refl

  pub is-stored : b ≡ true → {g : ℕ → ℤ} → g ≡ put h v z → g ≡ cond b (put h v z) h
  is-stored e q = rw e q

-- ---- one more of a list
pub room_at : {low high heights heights' point_heights_of n : ℕ} {answers : List ℕ} → FatesRoom low high heights point_heights_of answers n
    → heights' ≡ heights → {i : ℕ} → i < n → FateRoom low high heights' point_heights_of answers i
room_at R e k = rw e (R _ k)

pub rooms-at : {low high heights heights' point_heights_of n m : ℕ} {answers : List ℕ} → FatesRoom low high heights point_heights_of answers n
    → heights' ≡ heights → m ≡ n → FatesRoom low high heights' point_heights_of answers m
rooms-at R e p i k = room_at R e (omega arith)

module _ (low high : ℕ) (answers : List ℕ) (z h : ℕ → ℤ) where
  pub none-stored : stored_from low high answers z h 0 ≡ h
  unfolding put_each
  none-stored = refl

  pub stored_more : (i : ℕ) {g g' : ℕ → ℤ} → g ≡ stored_from low high answers z h i
      → g' ≡ cond (is_from low high (fate_word answers i)) (put g (vertex_word answers i) (z i)) g
      → g' ≡ stored_from low high answers z h (i + 1)
  unfolding put_each
  stored_more i a b = rw a at b ∙ ap (λ (n : ℕ). stored_from low high answers z h n) (sym (plus i))
    where
      plus : (i : ℕ) → i + 1 ≡ suc i
      plus i = omega arith

-- ---- a whole run
module _ (r : FinishAnswer) (answers : List ℕ) (z h : ℕ → ℤ) (n : ℕ) where
  pub not_made : is_made r.finished ≡ false → h ≡ finished_heights r answers z h n
  unfolding finished_heights
  not_made e = rw e refl

  module _ (e : is_made r.finished ≡ true) {m place : ℕ} (p : m ≡ n) {g g' : ℕ → ℤ} (a : g ≡ stored_from 1 1 answers z h m)
      (b : g' ≡ stored_from 6 9 answers z g m) (q : place ≡ place_of m r.finished) where
    pub made-end : m ≤ place → g' ≡ finished_heights r answers z h n
    unfolding finished_heights answered_heights
    made-end l = rw (e, ← p, ← q, le-ltb place m l, ← a) b

    pub made-last : place < m → {g'' : ℕ → ℤ} → g'' ≡ put g' (r.counts.vertices - 1) (z place) → g'' ≡ finished_heights r answers z h n
    unfolding finished_heights answered_heights
    made-last l k = rw (e, ← p, ← q, lt-ltb place m l, ← a, ← b) k

-- the point that was refused a flip has its height in its row, and so has the last vertex
pub last-room : {n heights point_heights_of : ℕ} {answers : List ℕ} {r : FinishAnswer} → StoreReady n heights point_heights_of answers r
    → is_made r.finished ≡ true → {m place : ℕ} → m ≡ n → place ≡ place_of m r.finished → place < m
    → (place < point_heights_of) × (0 < r.counts.vertices) × (r.counts.vertices ≤ heights)
last-room {n} {r = r} S e {place = place} p q l =
    let k : place ≡ place_of n r.finished = subst (λ (x : ℕ). place ≡ place_of x r.finished) p q in
    let u = S.last e (omega arith) in
    let b = S.points e in
    (omega arith, u.0, u.1)
