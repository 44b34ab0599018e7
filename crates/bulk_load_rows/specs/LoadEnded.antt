-- A bulk load whose sweep does not start, from its seed to its answer: what each call is given, and the calls' contracts one after another
-- as the definition has them. Assumes nothing.
use Rattle.std.specs.Prelude.{Bool, ◌&&◌, List, ◌≡◌, ℕ, ◌*◌, ◌/◌, ◌%◌, ◌<◌, ◌≤◌, leb, ℤ, length, replicate, Ok}
use Rattle.std.proofs.Math.Bool.{true, false, cond}
use Rattle.std.proofs.Math.Path.{refl, sym, ap}
use Rattle.std.proofs.Common.{◌∙◌, subst, arith}
use Rattle.std.proofs.Math.Decide.{dec_lt}
use borrow.Author.Tests.{lt-ltb, le-ltb, le-leb, lt-leb}
use Rattle.std.proofs.Math.Dec.{ltb}
use Rattle.bulk_load.specs.declared.BulkLoadAnswer.{BulkLoadAnswer}
use Rattle.bulk_load.specs.Accepted.{BulkLoadAccepted, load-accepts}
use Rattle.bulk_load.specs.BulkLoad.{BulkLoadLent, BulkLoadOutcome, Loading, bulk_load_checked, bulk_load_of, count, counts, links, positions, seeded, seeded_word, seed_answers, ended, lined, stopped, loading_of, loaded_with, loaded_by}
use Rattle.bulk_load.proofs.LoadLaws as load
use Rattle.bulk_load.proofs.RestFacts as rest
use Rattle.bulk_load.proofs.StoreLaws.{load_store}
use Rattle.convexity.specs.ConvexityRows.{MeshReady}
use Rattle.dcel.specs.MeshRows.{mesh_rows, SameLengths}
use Rattle.dcel.specs.Rows.{links_of, position_of, row_of, row_from_of}
use Rattle.dcel.specs.Views.{from_entries, mesh-rows-from}
use Rattle.finish.specs.declared.FinishAnswer.{FinishAnswer}
use Rattle.heights.specs.Heights.{height_of}
use Rattle.mesh.specs.declared.Counts.{Counts}
use Rattle.mesh.proofs.CountsLaws.{count-edges, count-faces}
use Rattle.mesh.specs.Good.{Good}
use Rattle.mesh_check.specs.Checked.{Checked}
use Rattle.mesh_check.specs.Check.{point_count}
use Rattle.ring_rows.specs.RingRows.{RingRows}
use Rattle.seed.specs.declared.SeedEnd.{SeedEnd}
use Rattle.start.specs.StartRows.{RowsCleared}
use Rattle.sums.specs.Bit.{bit}
use Rattle.surface.specs.StoredHeights.{finished_heights}
use Rattle.surface.specs.StoreReady.{StoreReady}
use Rattle.sweep.specs.Run.{answer_words}
use Rattle.bulk_load_rows.specs.LoadRows.{Ending, end_of, EndReady, zero_from, EndLeaves}
use Rattle.bulk_load_rows.specs.LoadSeeded.{outcome-is, heights-from, Seeded, counts-are, answered-is, ready-is, full_is, links-are, places-are, seed-answer, seed-old}

module _ (l : BulkLoadLent) (e : bulk_load_checked l ≡ Ok tt) {c : ℕ} {q₁ : List ℤ} {o₁ h₁ a₁ row₁ w₁ : List ℕ} {s : SeedEnd}
    (B : Seeded l c q₁ o₁ h₁ a₁ row₁ w₁ s) (r : s.ready ≡ false) where
  abbrev A : BulkLoadAccepted l
  A = load-accepts l e

  abbrev n : ℕ
  n = count l

  abbrev k : ℕ
  k = (seeded l).answered

  k-most : k ≤ n
  k-most = (rest.keeps l e).most

  not-ready : (seeded l).ready ≡ false
  not-ready = sym (ready-is B) ∙ r

  abbrev room₀ : ℕ
  room₀ = length l.pending

  -- the end of the definition
  abbrev F : Ending
  F = end_of room₀ (counts l) (links l) (positions l) (seeded l).growing.mesh.full k n

  loading-ended : loading_of l ≡ record { answer = F.answer; links = F.links; positions = positions l; answers = seed_answers l }
  unfolding loading_of stopped ended lined end_of
  loading-ended = go (seeded l).growing.mesh.full (ltb 1 (counts l).faces) refl refl
    where
      go : (a b : Bool) → (seeded l).growing.mesh.full ≡ a → ltb 1 (counts l).faces ≡ b
          → loading_of l ≡ record { answer = F.answer; links = F.links; positions = positions l; answers = seed_answers l }
      go true b f t = rw f refl
      go false true f t = rw (f, not-ready, t) refl
      go false false f t = rw (f, not-ready, t) refl

  abbrev W : Loading
  W = record { answer = F.answer; links = F.links; positions = positions l; answers = seed_answers l }

  is-ended : bulk_load_of l ≡ loaded_by l W
  is-ended = load.load_is l e loading-ended

  -- what it asks
  pub to_end : EndReady q₁ o₁ h₁ a₁ row₁ w₁ s c
  to_end = record {
    mesh = λ f t. ready-mesh f t;
    answered = let a = (answered-is B) in let b = k-most in omega arith;
    answers-room = let a = A.answers-room in let b = B.answers in omega arith;
  }
    where
      ready-mesh : s.full ≡ false → 1 < s.counts.faces → MeshReady q₁ o₁ h₁ a₁ row₁ s.counts
      ready-mesh f t =
          let G : Good s.counts (links_of o₁ h₁ a₁) (position_of q₁)
          = rw ((counts-are B), (links-are B), (places-are B)) (rest.grown-good l e (subst (λ (C : Counts). 1 < C.faces) (counts-are B) t)) in
          let z = A.sizes in
          let x₁ = z.positions in let x₂ = z.outs in let x₃ = z.halves in let x₄ = z.faces in let x₅ = A.pending-rows in
          let y₁ = B.lengths.positions in let y₂ = B.lengths.outs in let y₃ = B.lengths.halves in let y₄ = B.lengths.faces in let y₅ = B.pending in
          let u = count-edges G.wf in let v = count-faces G.wf in let m = A.most in
          let b = ap bit (sym (full_is B) ∙ f) in
          let w = rest.vertices-most l e in
          let d = ap (λ (C : Counts). C.vertices) (counts-are B) in
          let j = k-most in
          record {
            rows = record {
              room = record { outs = omega arith; halves = omega arith; faces = omega arith; small = omega arith };
              positions = omega arith;
              good = G;
            };
            sized = record { halves = omega arith; faces = omega arith; pending = omega arith; small = omega arith };
          }

  -- ---- after it
  module _ (o₂ h₂ a₂ w₂ : List ℕ) (x : BulkLoadAnswer) (Q : EndLeaves q₁ o₁ h₁ a₁ row₁ w₁ s c o₂ h₂ a₂ w₂ x)
      (T : SameLengths (mesh_rows q₁ o₁ h₁ a₁) (mesh_rows q₁ o₂ h₂ a₂)) (answers-kept : length w₂ ≡ length w₁) where
    end_is : end_of (length row₁) s.counts (links_of o₁ h₁ a₁) (position_of q₁) s.full s.answered c ≡ F
    end_is = rw (B.pending, (counts-are B), (links-are B), (places-are B), (full_is B), (answered-is B), B.all) refl

    answer-ended : x ≡ (loaded_by l W).answer
    unfolding loaded_by
    answer-ended = Q.answer ∙ ap (λ (z : Ending). z.answer) end_is

    mesh-ended : mesh_rows q₁ o₂ h₂ a₂ ≡ (loaded_by l W).mesh
    unfolding loaded_by
    mesh-ended = mesh-rows-from
        (record {
          positions = T.positions ∙ B.lengths.positions;
          outs = T.outs ∙ B.lengths.outs;
          halves = T.halves ∙ B.lengths.halves;
          faces = T.faces ∙ B.lengths.faces;
        })
        (Q.links ∙ ap (λ (z : Ending). z.links) end_is) (places-are B)

    -- each entry of the answers
    entry-ended : (y : ℕ) → row_of w₂ y ≡ seed_answers l y
    unfolding seed_answers zero_from
    entry-ended y = Q.answers-are y ∙ rw ((full_is B), (answered-is B), B.all) (go (dec_lt y (answer_words * n)) (dec_lt y (answer_words * k)) (seeded l).growing.mesh.full refl)
      where
        go : Dec (y < answer_words * n) → Dec (y < answer_words * k) → (b : Bool) → (seeded l).growing.mesh.full ≡ b
            → cond ((seeded l).growing.mesh.full && (leb (answer_words * k) y && ltb y (answer_words * n))) 0 (row_of w₁ y)
            ≡ cond (ltb y (answer_words * n)) (cond (ltb (y / answer_words) k) (seeded_word l (y / answer_words) (y % answer_words)) 0) (row_of l.answers y)
        go (yes a) (yes b) true f = rw (f, lt-leb (answer_words * k) y b, lt-ltb y (answer_words * n) a, lt-ltb (y / answer_words) k (omega arith)) (seed-answer B y b)
        go (yes a) (yes b) false f = rw (f, lt-ltb y (answer_words * n) a, lt-ltb (y / answer_words) k (omega arith)) (seed-answer B y b)
        go (yes a) (no b) true f = rw (f, le-leb (answer_words * k) y (omega arith), lt-ltb y (answer_words * n) a, le-ltb (y / answer_words) k (omega arith)) refl
        go (yes a) (no b) false f = absurd (let t = (rest.keeps l e).going not-ready f in omega arith)
        go (no a) (yes b) t f = absurd (let m = k-most in omega arith)
        go (no a) (no b) true f = rw (f, le-leb (answer_words * k) y (omega arith), le-ltb y (answer_words * n) (omega arith)) (seed-old B y (omega arith))
        go (no a) (no b) false f = rw (f, le-ltb y (answer_words * n) (omega arith)) (seed-old B y (omega arith))

    answers-ended : w₂ ≡ (loaded_by l W).answers
    unfolding loaded_by row_of
    answers-ended = from_entries w₂ (seed_answers l) 0 entry-ended ∙ ap (λ (j : ℕ). row_from_of j (seed_answers l)) (answers-kept ∙ B.answers)

    pub store-ended : StoreReady (point_count l.points) (length l.heights) (length l.point_heights_of) w₂ x.finish
    store-ended =
        subst (λ (v : List ℕ). StoreReady (point_count l.points) (length l.heights) (length l.point_heights_of) v x.finish)
        (ap (λ (B : BulkLoadOutcome). B.answers) is-ended ∙ sym answers-ended)
        (subst (λ (f : FinishAnswer). StoreReady (point_count l.points) (length l.heights) (length l.point_heights_of) (bulk_load_of l).answers f)
        (ap (λ (B : BulkLoadOutcome). B.answer.finish) is-ended ∙ ap (λ (f : BulkLoadAnswer). f.finish) (sym answer-ended)) (load_store l e))

    pub done-ended : (row₂ row₃ : List ℕ) (ring₃ : RingRows) → length row₂ ≡ length row₁ → RowsCleared l.ring row₂ ring₃ row₃
        → (hs : List ℤ) → length hs ≡ length l.heights
        → height_of hs ≡ finished_heights x.finish w₂ (height_of l.point_heights_of) (height_of l.heights) (point_count l.points)
        → loaded_with x (mesh_rows q₁ o₂ h₂ a₂) hs ring₃ row₃ w₂ ≡ bulk_load_of l
    unfolding loaded_by
    done-ended row₂ row₃ ring₃ p Z hs a b =
        outcome-is answer-ended mesh-ended (heights-from l W hs a b (ap (λ (f : BulkLoadAnswer). f.finish) answer-ended) answers-ended)
        ring-same pending-zeros answers-ended
        ∙ sym is-ended
      where
        ring-same : ring₃ ≡ (loaded_by l W).ring
        ring-same = Z.ring-zero

        pending-zeros : row₃ ≡ (loaded_by l W).pending
        pending-zeros = Z.pending-zero ∙ ap (λ (j : ℕ). replicate j 0) (p ∙ B.pending)
