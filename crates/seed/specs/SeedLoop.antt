-- The loop of the seed: after i points of the list the rows hold the seed of the definition and the answers of those points. Assumes nothing.
use Rattle.std.specs.Prelude.{Bool, true, false, ◌||◌, List, ◌≡◌, ℕ, zero, suc, ◌+◌, ◌-◌, ◌/◌, ◌%◌, ◌<◌, ◌≤◌, ltb, eqb, ℤ, length}
use Rattle.std.proofs.Math.Bool.{cond}
use Rattle.std.proofs.Common.{sym, ◌∙◌, ap, subst, add-suc, add-zero, add-one, arith}
use Rattle.std.proofs.Math.Path.{refl}
use Rattle.std.proofs.Math.Decide.{ℕ_discrete, dec_lt}
use borrow.Author.Tests.{lt-ltb, le-ltb, eq-eqb, ne_eqb}
use Rattle.answers.specs.AnswerRows.{with_words}
use Rattle.bulk_load.specs.Seed.{Seeding, seeded_by, seed_point, seed_after, grow_at, grow_word}
use Rattle.bulk_load.proofs.SeedLaws.{SeedKeeps, seed-keeps, grown-most}
use Rattle.dcel.specs.MeshRows.{mesh_rows, SameLengths}
use Rattle.dcel.specs.Rows.{links_of, position_of, row_of}
use Rattle.grow.specs.GrowRows.{growing_at}
use Rattle.line.specs.Grow.{Growing, grow_on}
use Rattle.line.specs.GrowLaws.{Phase}
use Rattle.math.specs.declared.Point.{Point}
use Rattle.mesh.specs.declared.Counts.{Counts}
use Rattle.mesh.specs.Mesh.{Links}
use Rattle.sums.specs.Bit.{bit}
use Rattle.sweep.specs.Run.{answer_words}
use Rattle.seed.specs.declared.SeedEnd.{SeedEnd}
use Rattle.seed.specs.SeedLeaves.{SeedState, state_of, state_in, seeding_at, grown_at, PointReady, PointLeaves, SeedReady, word_at, answers_to, SeedLeaves}
use Rattle.seed.specs.PointLaws.{grow-same, phase-at}

-- ---- the definition's list
module _ (room : ℕ) (L : Links) (p point : ℕ → Point) where
  abbrev after : ℕ → Seeding
  after n = seed_after room L p point n

  after_next : (n : ℕ) → after (suc n) ≡ seed_point room (after n) (point n)
  unfolding seed_after
  after_next n = refl

  -- once the sweep may start, and after a refused flip, nothing follows
  stays : (s : Seeding) (q : Point) → (s.ready || s.growing.mesh.full) ≡ true → seed_point room s q ≡ s
  unfolding seed_point
  stays s q e = rw e refl

  frozen : (n k : ℕ) → ((after n).ready || (after n).growing.mesh.full) ≡ true → after (n + k) ≡ after n
  frozen n zero e = ap after (add-zero n)
  frozen n (suc k) e =
      let r = frozen n k e in
      ap after (add-suc n k) ∙ after_next (n + k)
      ∙ stays (after (n + k)) (point (n + k)) (ap (λ (s : Seeding). s.ready || s.growing.mesh.full) r ∙ e) ∙ r

  goes_on : (n : ℕ) → (after n).ready ≡ false → (after n).growing.mesh.full ≡ false
      → after (suc n) ≡ seeded_by (after n) (grow_at room L p point n)
  unfolding seed_point
  goes_on n r f = after_next n ∙ rw (r, f) refl

-- ---- the answers
module _ (word : ℕ → ℕ → ℕ) (row : ℕ → ℕ) where
  answers-none : (x : ℕ) → answers_to word 0 row x ≡ row x
  unfolding answers_to
  answers-none x = rw (le-ltb (x / answer_words) 0 (omega arith)) refl

  answers-more : (i : ℕ) (f : ℕ → ℕ) → ((x : ℕ) → f x ≡ answers_to word i row x) → (x : ℕ)
      → with_words f i (word i) x ≡ answers_to word (i + 1) row x
  unfolding answers_to with_words
  answers-more i f e x = go (ℕ_discrete (x / answer_words) i)
    where
      go : Dec (x / answer_words ≡ i)
          → cond (eqb (x / answer_words) i) (word i (x % answer_words)) (f x)
          ≡ cond (ltb (x / answer_words) (i + 1)) (word (x / answer_words) (x % answer_words)) (row x)
      go (yes q) = rw (eq-eqb (x / answer_words) i q, lt-ltb (x / answer_words) (i + 1) (omega arith)) (ap (λ (j : ℕ). word j (x % answer_words)) (sym q))
      go (no n) = rw (ne_eqb (x / answer_words) i n) (e x ∙ same (dec_lt (x / answer_words) i))
        where
          same : Dec (x / answer_words < i)
              → cond (ltb (x / answer_words) i) (word (x / answer_words) (x % answer_words)) (row x)
              ≡ cond (ltb (x / answer_words) (i + 1)) (word (x / answer_words) (x % answer_words)) (row x)
          same (yes b) = rw (lt-ltb (x / answer_words) i b, lt-ltb (x / answer_words) (i + 1) (omega arith)) refl
          same (no b) = rw (le-ltb (x / answer_words) i (omega arith), le-ltb (x / answer_words) (i + 1) (omega arith)) refl

-- ---- the loop
pub record SeedingOn (q₀ : List ℤ) (o₀ h₀ a₀ row₀ w₀ : List ℕ) (points : List ℤ) (n : ℕ)
    (C : Counts) (q : List ℤ) (o h a row w : List ℕ) (i : ℕ) : Type 0 where
  pub ready : SeedReady q₀ o₀ h₀ a₀ row₀ w₀ points n
  pub lengths : SameLengths (mesh_rows q₀ o₀ h₀ a₀) (mesh_rows q o h a)
  pub pending : length row ≡ length row₀
  pub answers : length w ≡ length w₀
  pub at : state_of (seed_after (length row₀) (links_of o₀ h₀ a₀) (position_of q₀) (position_of points) i)
      ≡ state_in q o h a (record { counts = C; answered = i; ready = false; full = false })
  pub answers-are : (x : ℕ) → row_of w x ≡ answers_to (word_at (length row₀) q₀ o₀ h₀ a₀ points) i (row_of w₀) x
  pub most : i ≤ n

pub seeding-starts : {q : List ℤ} {o h a row w : List ℕ} {points : List ℤ} {n : ℕ} → SeedReady q o h a row w points n
    → SeedingOn q o h a row w points n (record { vertices = 0; edges = 0; faces = 0 }) q o h a row w 0
unfolding seed_after
seeding-starts {w = w} R = record {
  ready = R;
  lengths = record { positions = refl; outs = refl; halves = refl; faces = refl };
  pending = refl;
  answers = refl;
  at = refl;
  answers-are = λ x. sym (answers-none _ (row_of w) x);
  most = omega arith;
}

module _ {q₀ : List ℤ} {o₀ h₀ a₀ row₀ w₀ : List ℕ} {points : List ℤ} {n : ℕ}
    {C : Counts} {q : List ℤ} {o h a row w : List ℕ} {i : ℕ} (I : SeedingOn q₀ o₀ h₀ a₀ row₀ w₀ points n C q o h a row w i) where
  abbrev room : ℕ
  room = length row₀

  abbrev L₀ : Links
  L₀ = links_of o₀ h₀ a₀

  abbrev p₀ : ℕ → Point
  p₀ = position_of q₀

  abbrev point : ℕ → Point
  point = position_of points

  abbrev list : ℕ → Seeding
  list k = seed_after room L₀ p₀ point k

  K : SeedKeeps room L₀ p₀ point i (list i)
  K = seed-keeps room L₀ p₀ point n I.ready.range i I.most

  not_full : (list i).growing.mesh.full ≡ false
  not_full = ap (λ (s : SeedState). s.full) I.at

  not-ready : (list i).ready ≡ false
  not-ready = ap (λ (s : SeedState). s.ready) I.at

  phase : Phase (growing_at C (links_of o h a) (position_of q))
  phase = subst (λ (s : SeedState). Phase (growing_at s.counts s.links s.positions)) I.at (phase-at K.phase not_full)

  few : C.vertices ≤ i
  few =
      let v = K.vertices in
      let b = ap bit not_full in
      let c = ap (λ (s : SeedState). s.counts.vertices) I.at in
      let m = grown-most room L₀ p₀ point (list i).answered in
      let l = K.most in
      omega arith

  pub seeding-point : i < n → PointReady C q o h a row w points i
  seeding-point l =
      let R = I.ready in let K = I.lengths in let f = few in
      let x₁ = R.positions in let x₂ = R.outs in let x₃ = R.halves in let x₄ = R.faces in let x₅ = R.pending in let x₆ = R.most in
      let y₁ = K.positions in let y₂ = K.outs in let y₃ = K.halves in let y₄ = K.faces in let y₅ = I.pending in
      record {
        ready = record {
          phase = phase;
          range = R.range i l;
          outs = omega arith;
          positions = omega arith;
          sized = record { halves = omega arith; faces = omega arith; pending = omega arith; small = omega arith };
        };
        pair = let p = R.pairs in omega arith;
        answers-room = let w = R.answers-room in let z = I.answers in omega arith;
        small = omega arith;
      }

  -- the point of the definition is the one of the rows
  grown-same : grow_at room L₀ p₀ point i ≡ grown_at room C q o h a points i
  grown-same =
      grow-same room (list i).growing (point i)
      ∙ ap (λ (s : SeedState). grow_on room (growing_at s.counts s.links s.positions) (point i)) I.at

  next-same : state_of (list (suc i)) ≡ state_of (seeded_by (seeding_at C q o h a i) (grown_at room C q o h a points i))
  next-same =
      ap state_of (goes_on room L₀ p₀ point i not-ready not_full)
      ∙ ap (λ (g : Growing). state_of (seeded_by (list i) g)) grown-same
      ∙ ap (λ (k : ℕ). state_of (seeded_by (record { growing = growing_at C (links_of o h a) (position_of q); answered = k; ready = false })
      (grown_at room C q o h a points i))) (ap (λ (s : SeedState). s.answered) I.at)

  -- ---- after a point
  module _ {q' : List ℤ} {o' h' a' w' : List ℕ} {r : SeedEnd}
      (P : PointLeaves C q o h a (length row) w points i q' o' h' a' w' r) where
    P' : PointLeaves C q o h a room w points i q' o' h' a' w' r
    P' = subst (λ (k : ℕ). PointLeaves C q o h a k w points i q' o' h' a' w' r) I.pending P

    state : state_in q' o' h' a' r ≡ state_of (list (suc i))
    state = P'.is ∙ sym next-same

    word_same : grow_word (grown_at room C q o h a points i) ≡ word_at room q₀ o₀ h₀ a₀ points i
    word_same = ap grow_word (sym grown-same)

    -- the answers after it
    answers_next : r.full ≡ false → (x : ℕ) → row_of w' x ≡ answers_to (word_at room q₀ o₀ h₀ a₀ points) (i + 1) (row_of w₀) x
    answers_next f x =
        ap (λ (g : ℕ → ℕ). g x) (P'.answers-are ∙ ap (λ (b : Bool). cond b (row_of w) (with_words (row_of w) i (grow_word (grown_at room C q o h a points i)))) f
        ∙ ap (with_words (row_of w) i) word_same)
        ∙ answers-more (word_at room q₀ o₀ h₀ a₀ points) (row_of w₀) i (row_of w) I.answers-are x

    answered-next : r.full ≡ false → r.answered ≡ i + 1
    answered-next f =
        ap (λ (s : SeedState). s.answered) P'.is
        ∙ rw (← ap (λ (s : SeedState). s.full) P'.is, f) (sym (add-one i))

    answered-full : r.full ≡ true → r.answered ≡ i
    answered-full f =
        ap (λ (s : SeedState). s.answered) P'.is
        ∙ rw (← ap (λ (s : SeedState). s.full) P'.is, f) refl

    -- the list's last state is this one
    last : i < n → (r.ready || r.full) ≡ true → state_of (list n) ≡ state_of (list (suc i))
    last l e =
        let k : suc i + (n - suc i) ≡ n = omega arith in
        ap state_of (ap list (sym k) ∙ frozen room L₀ p₀ point (suc i) (n - suc i)
        (ap (λ (s : SeedState). s.ready || s.full) (sym state) ∙ e))

    pub seeding-full : i < n → r.full ≡ true → SeedLeaves q₀ o₀ h₀ a₀ (length row₀) w₀ points n q' o' h' a' w' r
    seeding-full l f = record {
      is = state ∙ sym (last l (rw f (or-true r.ready)));
      answers-are = λ x.
          ap (λ (g : ℕ → ℕ). g x) (P'.answers-are ∙ ap (λ (b : Bool). cond b (row_of w) (with_words (row_of w) i (grow_word (grown_at room C q o h a points i)))) f)
          ∙ I.answers-are x ∙ ap (λ (k : ℕ). answers_to (word_at room q₀ o₀ h₀ a₀ points) k (row_of w₀) x) (sym (answered-full f));
    }
      where
        or-true : (b : Bool) → (b || true) ≡ true
        or-true true = refl
        or-true false = refl

    pub seeding-ready : i < n → r.full ≡ false → r.ready ≡ true → SeedLeaves q₀ o₀ h₀ a₀ (length row₀) w₀ points n q' o' h' a' w' r
    seeding-ready l f t = record {
      is = state ∙ sym (last l (rw t refl));
      answers-are = λ x. answers_next f x ∙ ap (λ (k : ℕ). answers_to (word_at room q₀ o₀ h₀ a₀ points) k (row_of w₀) x) (sym (answered-next f));
    }

    pub seeding-on : {row' : List ℕ} → i < n → r.full ≡ false → r.ready ≡ false → SameLengths (mesh_rows q o h a) (mesh_rows q' o' h' a')
        → length row' ≡ length row → length w' ≡ length w
        → SeedingOn q₀ o₀ h₀ a₀ row₀ w₀ points n r.counts q' o' h' a' row' w' (i + 1)
    seeding-on l f t S x y =
        let K = I.lengths in
        record {
          ready = I.ready;
          lengths = record {
            positions = S.positions ∙ K.positions;
            outs = S.outs ∙ K.outs;
            halves = S.halves ∙ K.halves;
            faces = S.faces ∙ K.faces;
          };
          pending = x ∙ I.pending;
          answers = y ∙ I.answers;
          at = rw (add-one i) (sym state ∙ rw (answered-next f, f, t, add-one i) refl);
          answers-are = answers_next f;
          most = omega arith;
        }

  pub seeding-end : n ≤ i → SeedLeaves q₀ o₀ h₀ a₀ (length row₀) w₀ points n q o h a w (record { counts = C; answered = n; ready = false; full = false })
  seeding-end l =
      let k : i ≡ n = (let m = I.most in omega arith) in
      record {
        is = ap (λ (j : ℕ). state_in q o h a (record { counts = C; answered = j; ready = false; full = false })) (sym k) ∙ sym I.at
            ∙ ap (λ (j : ℕ). state_of (list j)) k;
        answers-are = λ x. I.answers-are x ∙ ap (λ (j : ℕ). answers_to (word_at (length row₀) q₀ o₀ h₀ a₀ points) j (row_of w₀) x) k;
      }
