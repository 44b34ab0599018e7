-- The vertices that a run's answers name are below the number of the seed's vertices and the points together, and so is the last vertex
-- where it is that of a point that was refused a flip: a row of so many heights has them all. Assumes nothing.
use Rattle.std.specs.Prelude.{false, List, ◌≡◌, ℕ, ◌+◌, ◌<◌, ◌≤◌, T, ltb, length, Ok}
use Rattle.std.proofs.Common.{ap, subst, arith, ltb→lt}
use Rattle.convexity.proofs.ConvexityLawsFacts.{convexity-counts}
use Rattle.dcel.specs.Rows.{position_of}
use Rattle.math.specs.declared.Point.{Point}
use Rattle.mesh.specs.declared.Counts.{Counts}
use Rattle.mesh_check.specs.Checked.{Checked}
use Rattle.mesh_check.specs.Check.{point_count}
use Rattle.skipped.specs.Fill.{Filling, Completing}
use Rattle.skipped.proofs.FillLawsFacts.{fill-used}
use Rattle.sums.proofs.BitLaws.{is_true, and_left, and_right}
use Rattle.sweep.specs.Run.{Sweeping, RunLent, run_checked, sweep_of, skipped_of, run_completes, fill_of, run_of}
use Rattle.sweep.proofs.RunLaws.{run-keeps, swept-good, points-range, one_each}
use Rattle.surface.proofs.Stages.{whole_to}
use Rattle.surface.specs.StoredHeights.{fate_word, vertex_word, is_from, place_of}
use Rattle.surface.proofs.RunAnswers.{adds, fill_on, added-test, added-vertex, inserted-test, inserted-vertex}
use Rattle.surface.proofs.RunRefused.{at-step, at-passes, at-point, at-end}
use Rattle.surface.proofs.RunRefused.{keeps, step-next, step-refused, passed-good, fill-count, point-refused, Ended, ended, vertices-are, place_end}

module _ (l : RunLent) (e : run_checked l ≡ Ok tt) where
  abbrev N : ℕ
  N = point_count l.points

  abbrev room : ℕ
  room = length l.pending

  abbrev point : ℕ → Point
  point = position_of l.points

  abbrev s : Sweeping
  s = sweep_of l N

  abbrev c : Completing
  c = run_completes l

  abbrev answers : List ℕ
  answers = (run_of l).answers

  -- a skipped point that is in was reached
  point-reached : (i : ℕ) → i < c.inserted → (s.full ≡ false) × ((fill_of l i).full ≡ false)
  point-reached i a = go (ended l e)
    where
      go : Ended l e → (s.full ≡ false) × ((fill_of l i).full ≡ false)
      go (at-step f p q v y) = absurd (omega arith)
      go (at-passes f p x q) = absurd (omega arith)
      go (at-point f p x q y v w) =
          (f, whole_to (λ (x : Filling). x.full) (fill_of l) (fill_on l) i (fill_of l N).answered (omega arith) (point-refused l e x).at.made)
      go (at-end f p x q y) = (f, whole_to (λ (x : Filling). x.full) (fill_of l) (fill_on l) i N (omega arith) x)

  -- no point is added and put in as well
  fill-most : s.full ≡ false → (fill_of l N).counts.vertices ≤ l.counts.vertices + N
  fill-most f =
      let a = fill-count l e N (omega arith) in
      let b = ap (λ (C : Counts). C.vertices) (convexity-counts room s.counts s.positions s.links (swept-good l e)) in
      let d = (run-keeps l e).number f in
      let o = one_each l e in
      omega arith

  -- ---- the answers
  pub added-used : (i : ℕ) → i < N → T (is_from 1 1 (fate_word answers i)) → vertex_word answers i < l.counts.vertices + N
  added-used i a t =
      let u = subst T (added-test l e i a) t in
      let n = step-next l e i (is_true (adds l i) (and_left (adds l i) (ltb i s.answered) u)) in
      let v = added-vertex l e i a t in
      let m = (keeps l e i (omega arith)).most in
      omega arith

  pub inserted-used : (i : ℕ) → i < N → T (is_from 6 9 (fate_word answers i)) → vertex_word answers i < l.counts.vertices + N
  inserted-used i a t =
      let u = subst T (inserted-test l e i a) t in
      let r = point-reached i (ltb→lt i c.inserted (and_right (skipped_of l i) (ltb i c.inserted) u)) in
      let v = inserted-vertex l e i a t in
      let k = fill-used room (passed-good l e) (skipped_of l) point (points-range l e) {i = i} {n = N} a (omega arith)
      (and_left (skipped_of l i) (ltb i c.inserted) u) r.1 in
      let m = fill-most r.0 in
      omega arith

  -- the vertex of a point that was refused a flip is the last
  pub last-used : place_of N (run_of l).answer.finished < N
      → (0 < (run_of l).answer.counts.vertices) × ((run_of l).answer.counts.vertices ≤ l.counts.vertices + N)
  last-used a = go (ended l e)
    where
      go : Ended l e → (0 < (run_of l).answer.counts.vertices) × ((run_of l).answer.counts.vertices ≤ l.counts.vertices + N)
      go (at-step f p q v y) =
          let w = vertices-are l e in let u = ap (λ (C : Counts). C.vertices) v in
          let k = (step-refused l e f).last in let m = (run-keeps l e).most in
          (omega arith, omega arith)
      go (at-passes f p q i) = absurd (let k = place_end l e q in omega arith)
      go (at-point f p x q i v y) =
          let w = vertices-are l e in let u = ap (λ (C : Counts). C.vertices) v in
          let k = (point-refused l e x).last in let m = fill-most f in
          (omega arith, omega arith)
      go (at-end f p x q i) = absurd (let k = place_end l e q in omega arith)
