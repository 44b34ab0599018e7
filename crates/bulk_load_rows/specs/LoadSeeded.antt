-- A bulk load up to the end of its seed: what the seed is given, and what the definition says of the rows that it leaves. How it goes on
-- is in `LoadSwept`, where the sweep starts, and in `LoadEnded`, where it does not. Assumes nothing.
use Rattle.std.specs.Prelude.{List, ◌≡◌, ℕ, ◌*◌, ◌/◌, ◌%◌, ◌<◌, ◌≤◌, ◌^◌, ℤ, pos, length, Ok}
use Rattle.std.proofs.Math.Path.{refl}
use Rattle.std.proofs.Common.{◌∙◌, ap, arith}
use borrow.Author.Tests.{lt-ltb, le-ltb}
use Rattle.bulk_load.specs.declared.BulkLoadAnswer.{BulkLoadAnswer}
use Rattle.bulk_load.specs.Accepted.{BulkLoadAccepted, load-accepts}
use Rattle.bulk_load.specs.BulkLoad.{BulkLoadLent, Loading, bulk_load_checked, count, counts, links, positions, seeded, seed_of, seeded_word, loaded_with, loaded_by}
use Rattle.dcel.specs.MeshRows.{MeshRows, mesh_rows, mesh_rows_from, SameLengths}
use Rattle.dcel.specs.Rows.{links_of, position_of, row_of, row_from_of}
use Rattle.dcel.specs.Views.{from_entries, mesh-rows-from}
use Rattle.finish.specs.declared.FinishAnswer.{FinishAnswer}
use Rattle.heights.specs.Heights.{height_of}
use Rattle.mesh_check.specs.Checked.{Checked}
use Rattle.mesh_check.specs.Check.{point_count}
use Rattle.ring_rows.specs.RingRows.{RingRows}
use Rattle.seed.specs.declared.SeedEnd.{SeedEnd}
use Rattle.seed.specs.SeedLeaves.{SeedState, state_of, state_in, SeedReady, answers_to, SeedLeaves}
use Rattle.surface.specs.StoredHeights.{finished_heights}
use Rattle.sweep.specs.Run.{answer_words}

-- ---- an outcome by its parts
pub outcome-is : {r r' : BulkLoadAnswer} {m m' : MeshRows} {h h' : List ℤ} {g g' : RingRows} {p p' w w' : List ℕ} → r ≡ r' → m ≡ m' → h ≡ h'
    → g ≡ g' → p ≡ p' → w ≡ w' → loaded_with r m h g p w ≡ loaded_with r' m' h' g' p' w'
outcome-is a b c d e f = rw (a, b, c, d, e, f) refl

-- the heights that were stored, as the definition has them
pub heights-from : (l : BulkLoadLent) (w : Loading) (hs : List ℤ) → length hs ≡ length l.heights → {x : FinishAnswer} {v : List ℕ}
    → height_of hs ≡ finished_heights x v (height_of l.point_heights_of) (height_of l.heights) (point_count l.points)
    → x ≡ (loaded_by l w).answer.finish → v ≡ (loaded_by l w).answers → hs ≡ (loaded_by l w).heights
unfolding loaded_by height_of
heights-from l w hs a {x} {v} b p q =
    from_entries hs _ (pos 0) (λ i. ap (λ (f : ℕ → ℤ). f i) b)
    ∙ ap (λ (n : ℕ). row_from_of n (finished_heights x v (height_of l.point_heights_of) (height_of l.heights) (point_count l.points))) a
    ∙ ap (λ (f : FinishAnswer). row_from_of (length l.heights) (finished_heights f v (height_of l.point_heights_of) (height_of l.heights) (point_count l.points))) p
    ∙ ap (λ (u : List ℕ). row_from_of (length l.heights) (finished_heights (loaded_by l w).answer.finish u (height_of l.point_heights_of) (height_of l.heights)
    (point_count l.points))) q

module _ (l : BulkLoadLent) (e : bulk_load_checked l ≡ Ok tt) where
  abbrev A : BulkLoadAccepted l
  A = load-accepts l e

  abbrev n : ℕ
  n = count l

  pub count_fits : n < 2 ^ 32
  count_fits = let m = A.most in omega arith

  -- what the seed asks
  pub to-seed : (c : ℕ) → c ≡ n
      → SeedReady l.mesh.positions l.mesh.outs l.mesh.halves l.mesh.faces l.pending l.answers l.points c
  to-seed c q =
      let z = A.sizes in
      let x₁ = z.positions in let x₂ = z.outs in let x₃ = z.halves in let x₄ = z.faces in
      record {
        positions = omega arith;
        outs = omega arith;
        halves = omega arith;
        faces = omega arith;
        pending = A.pending-rows;
        most = let m = A.most in omega arith;
        range = λ i k. A.range i (omega arith);
        pairs = let p = A.pairs in omega arith;
        answers-room = let a = A.answers-room in omega arith;
      }

-- ---- after the seed
-- the seed has grown on the rows: what it leaves, and every length is as it was
pub record Seeded (l : BulkLoadLent) (c : ℕ) (q₁ : List ℤ) (o₁ h₁ a₁ row₁ w₁ : List ℕ) (s : SeedEnd) : Type 0 where
  pub all : c ≡ count l
  pub leaves : SeedLeaves l.mesh.positions l.mesh.outs l.mesh.halves l.mesh.faces (length l.pending) l.answers
      l.points c q₁ o₁ h₁ a₁ w₁ s
  pub lengths : SameLengths l.mesh (mesh_rows q₁ o₁ h₁ a₁)
  pub pending : length row₁ ≡ length l.pending
  pub answers : length w₁ ≡ length l.answers

module _ {l : BulkLoadLent} {c : ℕ} {q₁ : List ℤ} {o₁ h₁ a₁ row₁ w₁ : List ℕ} {s : SeedEnd} (B : Seeded l c q₁ o₁ h₁ a₁ row₁ w₁ s) where
  abbrev m₁ : MeshRows
  m₁ = mesh_rows q₁ o₁ h₁ a₁

  state : state_in q₁ o₁ h₁ a₁ s ≡ state_of (seeded l)
  state = B.leaves.is ∙ ap (λ (k : ℕ). state_of (seed_of l k)) B.all

  pub counts-are : s.counts ≡ counts l
  counts-are = ap (λ (x : SeedState). x.counts) state

  pub answered-is : s.answered ≡ (seeded l).answered
  answered-is = ap (λ (x : SeedState). x.answered) state

  pub ready-is : s.ready ≡ (seeded l).ready
  ready-is = ap (λ (x : SeedState). x.ready) state

  pub full_is : s.full ≡ (seeded l).growing.mesh.full
  full_is = ap (λ (x : SeedState). x.full) state

  pub links-are : links_of o₁ h₁ a₁ ≡ links l
  links-are = ap (λ (x : SeedState). x.links) state

  pub places-are : position_of q₁ ≡ positions l
  places-are = ap (λ (x : SeedState). x.positions) state

  pub mesh-is : m₁ ≡ mesh_rows_from l.mesh (links l) (positions l)
  mesh-is = mesh-rows-from B.lengths links-are places-are

  abbrev k : ℕ
  k = (seeded l).answered

  -- the answers that the seed has stored
  pub seed-answer : (x : ℕ) → x < answer_words * k → row_of w₁ x ≡ seeded_word l (x / answer_words) (x % answer_words)
  unfolding answers_to
  seed-answer x a = B.leaves.answers-are x ∙ rw (answered-is, lt-ltb (x / answer_words) k (omega arith)) refl

  pub seed-old : (x : ℕ) → answer_words * k ≤ x → row_of w₁ x ≡ row_of l.answers x
  unfolding answers_to
  seed-old x a = B.leaves.answers-are x ∙ rw (answered-is, le-ltb (x / answer_words) k (omega arith)) refl
