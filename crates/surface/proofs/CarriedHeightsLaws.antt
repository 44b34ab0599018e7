-- Laws of specs/CarriedHeights.antt.
use Rattle.std.specs.Prelude.{◌||◌, ◌≢◌, ◌⊎◌, ◌≡◌, refl, ℕ, ◌+◌, ◌<◌, ◌≤◌, T, leb, eqb, ℤ, length}
use Rattle.std.proofs.Common.{inl, inr, ◌∙◌, arith, ne_eqb, leb→le}
use Rattle.std.proofs.Math.Decide.{ℕ_discrete}
use Rattle.dcel.specs.Rows.{row_from_of}
use Rattle.dcel.specs.Views.{length_from}
use Rattle.finish.specs.declared.Totals.{Totals}
use Rattle.heights.specs.Heights.{height_of}
use Rattle.mesh.specs.Mesh.{Links}
use Rattle.mesh_check.specs.Check.{point_count}
use Rattle.sums.specs.Bit.{bit}
use Rattle.sums.proofs.BitLaws.{eq_test, and_left, and_right}
use Rattle.sums.specs.Bounded.{count}
use Rattle.sums.proofs.BoundedLaws.{count-before, count-parts}
use Rattle.sweep.specs.Run.{RunLent, RunOutcome}
use Rattle.sweep.specs.Demand3.{fate_of, vertex_of, is_entered, is_vertex, added_before, entered_before, Demand3From}
use Rattle.surface.proofs.PutEachLaws.{put-each-kept, put-each-last}
use Rattle.surface.specs.StoredHeights.{is_from, is_inserted, stored_from, answered_heights}
use Rattle.surface.specs.Surface.{SurfaceRunLent, SurfaceRan}
use Rattle.surface.proofs.SurfaceLawsFacts.{row-height, row-entry}
use Rattle.surface.specs.CarriedHeights.{NoneFrom, CarriedHeights, Numbered}

-- ---- fates by number
only_one : (f : ℕ) → T (is_from 1 1 f) → f ≡ 1
unfolding is_from
only_one f t = let a = leb→le 1 f (and_left (leb 1 f) (leb f 1) t) in let b = leb→le f 1 (and_right (leb 1 f) (leb f 1) t) in omega arith

one_from : {f : ℕ} → f ≡ 1 → T (is_from 1 1 f)
unfolding is_from
one_from e = rw e tt

-- 6 to 9: entered, or 9
entered-or : (f : ℕ) → T (is_inserted f) → T (is_entered f) ⊎ (f ≡ 9)
unfolding is_from is_entered
entered-or f t = go (ℕ_discrete f 6) (ℕ_discrete f 7) (ℕ_discrete f 8) (leb→le 6 f (and_left (leb 6 f) (leb f 9) t)) (leb→le f 9 (and_right (leb 6 f) (leb f 9) t))
  where
    go : Dec (f ≡ 6) → Dec (f ≡ 7) → Dec (f ≡ 8) → 6 ≤ f → f ≤ 9 → T (eqb f 6 || (eqb f 7 || eqb f 8)) ⊎ (f ≡ 9)
    go (yes p) d k a b = inl (rw p tt)
    go (no n) (yes p) k a b = inl (rw p tt)
    go (no n) (no m) (yes p) a b = inl (rw p tt)
    go (no n) (no m) (no o) a b = inr (omega arith)

vertex-parts : (f : ℕ) → bit (is_vertex f) ≡ bit (eqb f 1) + bit (is_entered f)
unfolding is_vertex is_entered
vertex-parts f = go (ℕ_discrete f 1)
  where
    go : Dec (f ≡ 1) → bit (eqb f 1 || (eqb f 6 || (eqb f 7 || eqb f 8))) ≡ bit (eqb f 1) + bit (eqb f 6 || (eqb f 7 || eqb f 8))
    go (yes p) = rw p refl
    go (no n) = rw (ne_eqb f 1 n) (omega arith)

pub numbered : {l : RunLent} {before : Links} {r : RunOutcome} {t : Totals} → Demand3From l before r t → Numbered l r
numbered D = record { vertex = D.vertex; entered = D.entered; number = D.number; met = λ i a f. (D.on-vertex i a f).0 }

module _ (g : SurfaceRunLent) (w : SurfaceRan) (D : Numbered g.run w.call) where
  abbrev N : ℕ
  N = point_count g.run.points

  abbrev z : ℕ → ℤ
  z = height_of g.point_heights_of

  abbrev h : ℕ → ℤ
  h = height_of g.heights

  abbrev fate : ℕ → ℕ
  fate i = fate_of w.call i

  abbrev vertex : ℕ → ℕ
  vertex i = vertex_of w.call i

  abbrev added : ℕ → ℤ
  added = stored_from 1 1 w.call.answers z h N

  abbrev hs : ℕ → ℤ
  hs = answered_heights w.call.answers z h N

  -- the vertices in the answers are in use
  number : w.call.answer.counts.vertices ≡ g.run.counts.vertices + added_before w.call N + entered_before w.call N
  number =
      let a = D.number in
      let b = count-parts N (λ i. eqb (fate i) 1) (λ i. is_entered (fate i)) (λ i. is_vertex (fate i)) (λ i l. vertex-parts (fate i)) in
      omega arith

  added-vertex : (i : ℕ) → i < N → T (is_from 1 1 (fate i)) → vertex i ≡ g.run.counts.vertices + added_before w.call i
  added-vertex i a t = D.vertex i a (only_one (fate i) t)

  added-used : (i : ℕ) → i < N → T (is_from 1 1 (fate i)) → vertex i < w.call.answer.counts.vertices
  added-used i a t =
      let v = added-vertex i a t in
      let b = count-before i N (λ j. eqb (fate j) 1) a (eq_test (only_one (fate i) t)) in
      let n = number in
      omega arith

  inserted-used : (i : ℕ) → i < N → T (is_inserted (fate i)) → vertex i < w.call.answer.counts.vertices
  inserted-used i a t = go (entered-or (fate i) t)
    where
      go : T (is_entered (fate i)) ⊎ (fate i ≡ 9) → vertex i < w.call.answer.counts.vertices
      go (inl u) =
          let v = D.entered i a u in
          let b = count-before i N (λ j. is_entered (fate j)) a u in
          let n = number in
          omega arith
      go (inr u) = D.met i a u

  -- a vertex at which no skipped point was put in
  none_in : (u : ℕ) → NoneFrom g w.call 0 u → hs u ≡ added u
  unfolding answered_heights
  none_in u n = put-each-kept z added (λ i. is_inserted (fate i)) vertex u N (λ i a t q. n i (omega arith) a t q)

  -- and that no step added
  none-added : (u : ℕ) → ((i : ℕ) → i < N → T (is_from 1 1 (fate i)) → vertex i ≢ u) → added u ≡ h u
  none-added u n = put-each-kept z h (λ i. is_from 1 1 (fate i)) vertex u N n

  last-in : (i : ℕ) → i < N → T (is_inserted (fate i)) → NoneFrom g w.call (i + 1) (vertex i) → hs (vertex i) ≡ z i
  unfolding answered_heights
  last-in i a t n = put-each-last z added (λ i. is_inserted (fate i)) vertex i N a t (λ j b k u q. n j (omega arith) k u q)

  -- the vertices that steps added are numbered in list order
  first-added : (i : ℕ) → i < N → T (is_from 1 1 (fate i)) → added (vertex i) ≡ z i
  first-added i a t =
      put-each-last z h (λ i. is_from 1 1 (fate i)) vertex i N a t
      (λ j b k u q. let v = added-vertex i a t in let y = added-vertex j k u in
      let c = count-before i j (λ m. eqb (fate m) 1) b (eq_test (only_one (fate i) t)) in omega arith)

  pub carried-by : w.heights ≡ row_from_of (length g.heights) hs → w.call.answer.counts.vertices ≤ length g.heights
      → CarriedHeights g w
  carried-by e m = record {
    inserted = λ i a t n. let u = inserted-used i a t in rw e (row-entry (length g.heights) hs (vertex i) (omega arith) ∙ last-in i a t n);
    added = λ i a f n.
        let t = one_from f in
        let u = added-used i a t in
        rw e (row-entry (length g.heights) hs (vertex i) (omega arith) ∙ none_in (vertex i) n ∙ first-added i a t);
    seed = λ u a n. rw e (row-height g.heights hs u (none_in u n ∙ none-added u (λ i b t q. let v = added-vertex i b t in omega arith)));
    past = λ u a. rw e (row-height g.heights hs u
        (none_in u (λ i k b t q. let v = inserted-used i b t in omega arith) ∙ none-added u (λ i b t q. let v = added-used i b t in omega arith)));
    length-same = rw e (length_from (length g.heights) hs);
  }
