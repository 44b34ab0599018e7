-- The sweep after the seed meets demand 3 with an empty seed: the points that the seed took are numbered in list order, and the run's demand
-- 3 has the rest. Stated of any outcome B whose answers are those of the seed and then the run's, and whose mesh is the run's.
-- Assumes nothing but `SeedRows`.
use Rattle.std.specs.Prelude.{Bool, true, false, ◌||◌, ◌⊎◌, ◌≡◌, refl, T, eqb, length, Ok}
use Rattle.std.proofs.Common.{inl, inr, sym, ◌∙◌, subst, arith}
use Rattle.std.proofs.Math.Path.{ap, subst⁻¹}
use Prim.Native.Nat.{ℕ, ◌+◌, ◌-◌, ◌*◌, ◌<◌, ◌≤◌}
use Rattle.std.proofs.Math.Decide.{dec_lt}
use Rattle.dcel.specs.MeshRows.{MeshRows, links_in, places_in}
use Rattle.dcel.specs.Rows.{position_of}
use Rattle.finish.specs.declared.Totals.{Totals}
use Rattle.line.specs.Grow.{Growing}
use Rattle.math.specs.declared.Point.{Point}
use Rattle.mesh.specs.declared.Counts.{Counts}
use Rattle.mesh.specs.Mesh.{Links}
use Rattle.mesh_check.specs.Checked.{Checked}
use Rattle.mesh_check.specs.Check.{point_count}
use Rattle.sums.specs.Bit.{bit}
use Rattle.sums.proofs.BitLaws.{or_cases}
use Rattle.sums.specs.Bounded as bounded
use Rattle.sums.proofs.BoundedLaws.{count-ext, count_add, count_none}
use Rattle.sweep.specs.Demand3.{fate_of, vertex_of, is_entered, is_vertex, is_run_fate, added_before, entered_before, before_closing, Demand3, Demand3From}
use Rattle.sweep.specs.Run.{RunLent, RunOutcome, answer_words, answer_in, run_of}
use Rattle.bulk_load.specs.Seed.{grow_at, grow_word}
use Rattle.bulk_load.specs.BulkLoad.{BulkLoadLent, bulk_load_checked, count, seeded, counts, positions, rest_of}
use Rattle.bulk_load.specs.Demand3.{empty_seed}
use Rattle.bulk_load.proofs.RestFacts as rest
use Rattle.bulk_load.specs.Rest.{SeedRows}
use Rattle.bulk_load.proofs.RestLaws.{position-rest}
use Rattle.bulk_load.proofs.SeedLaws.{grown_before, SeedKeeps}

-- fates 1 and 9 by number
grown-fate : {f : ℕ} → (f ≡ 1) ⊎ (f ≡ 9) → T (is_run_fate f) × (is_entered f ≡ false) × (is_vertex f ≡ eqb f 1)
unfolding is_run_fate is_vertex is_entered
grown-fate (inl e) = rw e (tt, refl, refl)
grown-fate (inr e) = rw e (tt, refl, refl)

module _ (l : BulkLoadLent) (e : bulk_load_checked l ≡ Ok tt) where
  abbrev at : ℕ → Growing
  at i = grow_at (length l.pending) (links_in l.mesh) (places_in l.mesh) (position_of l.points) i

  abbrev k : ℕ
  k = (seeded l).answered

  abbrev pub grown : ℕ → ℕ
  grown n = grown_before (length l.pending) (links_in l.mesh) (places_in l.mesh) (position_of l.points) n

  abbrev K : SeedKeeps (length l.pending) (links_in l.mesh) (places_in l.mesh) (position_of l.points) (count l) (seeded l)
  K = rest.keeps l e

  -- the answers of the points that the seed took
  pub record SeedAnswers (B : RunOutcome) : Type 0 where
    pub word : (i w : ℕ) → i < k → w < answer_words → answer_in B.answers i w ≡ grow_word (at i) w

  module _ (B : RunOutcome) (A : SeedAnswers B) where
    pub fate-is : (i : ℕ) → i < k → fate_of B i ≡ (at i).fate
    unfolding grow_word
    fate-is i a = A.word i 0 a (omega arith)

    pub vertex-is : (i : ℕ) → i < k → vertex_of B i ≡ (at i).vertex
    unfolding grow_word
    vertex-is i a = A.word i 1 a (omega arith)

    pub seed-fate : (i : ℕ) → i < k → (fate_of B i ≡ 1) ⊎ (fate_of B i ≡ 9)
    seed-fate i a = rw (fate-is i a) (K.fates i a)

    pub seed-run-fate : (i : ℕ) → i < k → T (is_run_fate (fate_of B i))
    seed-run-fate i a = (grown-fate (seed-fate i a)).0

    pub seed-not-entered : (i : ℕ) → i < k → is_entered (fate_of B i) ≡ false
    seed-not-entered i a = (grown-fate (seed-fate i a)).1

    -- how many became vertices
    pub seed-added : (n : ℕ) → n ≤ k → added_before B n ≡ grown n
    seed-added n a = count-ext n (λ i. eqb (fate_of B i) 1) (λ i. eqb (at i).fate 1) (λ i b. ap (λ (f : ℕ). eqb f 1) (fate-is i (omega arith)))

    pub seed-entered : (n : ℕ) → n ≤ k → entered_before B n ≡ 0
    seed-entered n a = count_none n (λ i. is_entered (fate_of B i)) (λ i b t. subst T (seed-not-entered i (omega arith)) t)

    pub seed-vertices : (n : ℕ) → n ≤ k → bounded.count n (λ i. is_vertex (fate_of B i)) ≡ grown n
    seed-vertices n a =
        count-ext n (λ i. is_vertex (fate_of B i)) (λ i. eqb (fate_of B i) 1) (λ i b. (grown-fate (seed-fate i (omega arith))).2) ∙ seed-added n a

    pub seed-vertex : (i : ℕ) → i < k → fate_of B i ≡ 1 → vertex_of B i ≡ added_before B i
    seed-vertex i a f = vertex-is i a ∙ K.number i a (sym (fate-is i a) ∙ f) ∙ sym (seed-added i (omega arith))

    pub seed-used : (i : ℕ) → i < k → vertex_of B i < (counts l).vertices
    seed-used i a = rw (vertex-is i a) (K.used i a)

    pub seed-here : (i : ℕ) → i < k → positions l (vertex_of B i) ≡ position_of l.points i
    seed-here i a = rw (vertex-is i a) (K.here i a)

  -- ---- and then the run's
  module _ (S : SeedRows l) (r : (seeded l).ready ≡ true) where
    abbrev Z : RunLent
    Z = rest_of l

    abbrev R : RunOutcome
    R = run_of (rest_of l)

    abbrev m : ℕ
    m = point_count (rest_of l).points

    pub record RestAnswers (B : RunOutcome) : Type 0 where
      pub word : (j w : ℕ) → j < m → w < answer_words → answer_in B.answers (k + j) w ≡ answer_in R.answers j w
      pub mesh : B.mesh ≡ R.mesh
      pub counts : B.answer.counts ≡ R.answer.counts

    all : k + m ≡ count l
    unfolding rest_of
    all = rest.rest-count l e S r

    vertices-are : (counts l).vertices ≡ grown k
    vertices-are = let v = K.vertices in let f = ap bit (rest.ready-not-full l e S r) in omega arith

    counts-are : Z.counts.vertices ≡ grown k
    unfolding rest_of
    counts-are = vertices-are

    module _ (B : RunOutcome) (A : SeedAnswers B) (Q : RestAnswers B) (t : Totals) (D : Demand3 Z R t) where
      fate-at : (j : ℕ) → j < m → fate_of B (k + j) ≡ fate_of R j
      fate-at j a = Q.word j 0 a (omega arith)

      vertex-at : (j : ℕ) → j < m → vertex_of B (k + j) ≡ vertex_of R j
      vertex-at j a = Q.word j 1 a (omega arith)

      point_at : (j : ℕ) → position_of Z.points j ≡ position_of l.points (k + j)
      unfolding rest_of
      point_at j = position-rest k l.points j

      -- counts over the seed's points and then the run's
      parts : (f : ℕ → Bool) (n : ℕ) → n ≤ m
          → bounded.count (k + n) (λ i. f (fate_of B i)) ≡ bounded.count k (λ i. f (fate_of B i)) + bounded.count n (λ j. f (fate_of R j))
      parts f n a =
          count_add k n (λ i. f (fate_of B i))
          ∙ ap (λ (x : ℕ). bounded.count k (λ i. f (fate_of B i)) + x)
          (count-ext n (λ j. f (fate_of B (k + j))) (λ j. f (fate_of R j)) (λ j b. ap f (fate-at j (omega arith))))

      -- the seed's vertices keep their positions
      seed-place : (u : ℕ) → u < (counts l).vertices → places_in B.mesh u ≡ positions l u
      unfolding rest_of
      seed-place u a =
          ap (λ (M : MeshRows). places_in M u) Q.mesh ∙ D.seed u a
          ∙ ap (λ (p : ℕ → Point). p u) (rest.rest-places l e S r)

      -- ---- each clause by whether the seed took the point
      abbrev Each : (ℕ → Type 0) → Type 0
      Each F = (i : ℕ) → i < count l → F i

      each : (F : ℕ → Type 0) → ((i : ℕ) → i < k → F i) → ((j : ℕ) → j < m → F (k + j)) → Each F
      each F f g i a = go (dec_lt i k)
        where
          go : Dec (i < k) → F i
          go (yes b) = f i b
          go (no b) =
              let q = all in
              let s : k + (i - k) ≡ i = omega arith in
              subst F s (g (i - k) (omega arith))

      places : Each (λ i. T (is_vertex (fate_of B i)) → places_in B.mesh (vertex_of B i) ≡ position_of l.points i)
      places = each (λ i. T (is_vertex (fate_of B i)) → places_in B.mesh (vertex_of B i) ≡ position_of l.points i)
          (λ i a v. seed-place (vertex_of B i) (seed-used B A i a) ∙ seed-here B A i a)
          (λ j a v. ap (places_in B.mesh) (vertex-at j a) ∙ ap (λ (M : MeshRows). places_in M (vertex_of R j)) Q.mesh
          ∙ D.place j a (subst (λ (f : ℕ). T (is_vertex f)) (fate-at j a) v) ∙ point_at j)

      vertex : Each (λ i. fate_of B i ≡ 1 → vertex_of B i ≡ added_before B i)
      vertex = each (λ i. fate_of B i ≡ 1 → vertex_of B i ≡ added_before B i)
          (λ i a f. seed-vertex B A i a f)
          (λ j a f.
          let x = vertex-at j a in
          let y = D.vertex j a (sym (fate-at j a) ∙ f) in
          let z = parts (λ f. eqb f 1) j (omega arith) in
          let s = seed-added B A k (omega arith) in
          let v = counts-are in
          omega arith)

      entered : Each (λ i. T (is_entered (fate_of B i)) → vertex_of B i ≡ added_before B (count l) + entered_before B i)
      entered = each (λ i. T (is_entered (fate_of B i)) → vertex_of B i ≡ added_before B (count l) + entered_before B i)
          (λ i a f. absurd (subst T (seed-not-entered B A i a) f))
          (λ j a f.
          let x = vertex-at j a in
          let y = D.entered j a (subst (λ (g : ℕ). T (is_entered g)) (fate-at j a) f) in
          let z = parts is_entered j (omega arith) in
          let u = parts (λ f. eqb f 1) m (omega arith) in
          let q = ap (λ (n : ℕ). added_before B n) all in
          let s = seed-added B A k (omega arith) in
          let w = seed-entered B A k (omega arith) in
          let v = counts-are in
          omega arith)

      number : B.answer.counts.vertices ≡ bounded.count (count l) (λ i. is_vertex (fate_of B i))
      number =
          let c = ap (λ (C : Counts). C.vertices) Q.counts in
          let y = D.number in
          let u = parts is_vertex m (omega arith) in
          let q = ap (λ (n : ℕ). bounded.count n (λ i. is_vertex (fate_of B i))) all in
          let s = seed-vertices B A k (omega arith) in
          let v = counts-are in
          omega arith

      -- the seed's vertices are in use
      seed-less : (counts l).vertices ≤ B.answer.counts.vertices
      seed-less =
          let c = ap (λ (C : Counts). C.vertices) Q.counts in
          let y = D.number in
          let v = counts-are in
          let w = vertices-are in
          omega arith

      fates : Each (λ i. T (is_run_fate (fate_of B i)))
      fates = each (λ i. T (is_run_fate (fate_of B i))) (λ i a. seed-run-fate B A i a)
          (λ j a. subst (λ (f : ℕ). T (is_run_fate f)) (sym (fate-at j a)) (D.fates j a))

      abbrev On : ℕ → Type 0
      On i = (vertex_of B i < B.answer.counts.vertices) × (places_in B.mesh (vertex_of B i) ≡ position_of l.points i)

      seed-on : (i : ℕ) → i < k → On i
      seed-on i a =
          let u = seed-used B A i a in
          let v = seed-less in
          (omega arith, seed-place (vertex_of B i) u ∙ seed-here B A i a)

      on-vertex : Each (λ i. fate_of B i ≡ 9 → On i)
      on-vertex = each (λ i. fate_of B i ≡ 9 → On i) (λ i a f. seed-on i a) (λ j a f. rest-on j a (D.on-vertex j a (sym (fate-at j a) ∙ f)))
        where
          rest-on : (j : ℕ) → j < m → (vertex_of R j < R.answer.counts.vertices) × (places_in R.mesh (vertex_of R j) ≡ position_of Z.points j)
              → On (k + j)
          rest-on j a x =
              let c = ap (λ (C : Counts). C.vertices) Q.counts in
              let v = vertex-at j a in
              let y = x.0 in
              (omega arith, ap (places_in B.mesh) v ∙ ap (λ (M : MeshRows). places_in M (vertex_of R j)) Q.mesh ∙ x.1 ∙ point_at j)

      abbrev In : ℕ → Type 0
      In i = (u : ℕ) × (u < B.answer.counts.vertices) × (places_in B.mesh u ≡ position_of l.points i)

      all_in : Each In
      all_in = each In (λ i a. let x = seed-on i a in (vertex_of B i, x.0, x.1)) (λ j a. rest_in j (D.all_in j a))
        where
          rest_in : (j : ℕ) → (u : ℕ) × (u < R.answer.counts.vertices) × (places_in R.mesh u ≡ position_of Z.points j) → In (k + j)
          rest_in j (u, x, y) =
              let c = ap (λ (C : Counts). C.vertices) Q.counts in
              (u, omega arith, ap (λ (M : MeshRows). places_in M u) Q.mesh ∙ y ∙ point_at j)

      pub swept-demand-3 : Demand3From (empty_seed l) (before_closing Z) B t
      swept-demand-3 = record {
        seed = λ u a. absurd (omega arith);
        place = places;
        vertex = λ i a f. let v = vertex i a f in omega arith;
        entered = λ i a f. let v = entered i a f in omega arith;
        number = let v = number in omega arith;
        fates = fates;
        on-vertex = on-vertex;
        all_in = all_in;
        rules = rw (Q.counts, Q.mesh) D.rules;
        turning = rw (Q.counts, Q.mesh) D.turning;
        area = rw (Q.counts, Q.mesh) D.area;
        corners = rw (Q.counts, Q.mesh) D.corners;
        circles = rw (Q.counts, Q.mesh) D.circles;
        closing = rw (Q.counts, Q.mesh) D.closing;
        flips = rw (Q.counts, Q.mesh) D.flips;
        fall = rw (Q.counts, Q.mesh) D.fall;
      }
