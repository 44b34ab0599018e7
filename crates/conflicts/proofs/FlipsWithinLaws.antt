-- Laws of specs/FlipsWithin.antt.
use Rattle.std.specs.Prelude.{◌≡◌, ℕ, zero, suc, ◌+◌, ◌*◌, ◌-◌, ◌^◌, ◌<◌, ◌≤◌}
use Rattle.std.proofs.Common.{mul-le-mul, suc-mul, mul-add, mul-one, arith}
use Rattle.algebra.proofs.Order.{lt-le}
use Rattle.math.specs.declared.Point.{Point}
use Rattle.mesh.specs.declared.Counts.{Counts}
use Rattle.mesh.specs.Mesh.{Links}
use Rattle.mesh.proofs.CircleLawsFacts.{breaks, breaks-flippable}
use Rattle.mesh.proofs.CountsLaws.{faces-fit, vertices-few}
use Rattle.mesh.specs.FlipRun.{FlipRun, none, then}
use Rattle.mesh.proofs.FlipRunLaws.{run-good}
use Rattle.mesh.specs.HeightLaws.{FaceAdded}
use Rattle.mesh.specs.Good.{Good}
use Rattle.mesh.specs.Wf.{Wf}
use Rattle.conflicts.specs.Conflicts.{conflicts}
use Rattle.conflicts.proofs.ConflictLaws.{circle-conflicts, conflicts-small, face-conflicts, vertex-conflicts}
use Rattle.conflicts.specs.FlipsWithin.{FlipsWithin}

-- ---- a run of flips
module _ {C : Counts} {p : ℕ → Point} {L : Links} (G : Good C L p) where
  -- each flip takes a vertex out of a circle
  pub run-conflicts : {M : Links} {n : ℕ} → FlipRun C p L M n → n + conflicts C M p ≤ conflicts C L p
  run-conflicts none = omega arith
  run-conflicts (then {M = M} r u l b) =
      let H = run-good G r in
      let K = breaks M p u b in
      let h = run-conflicts r in
      let k = circle-conflicts H (breaks-flippable H l K) (lt-le K.inside) K.inside in
      omega arith

  -- AT MOST A VERTEX FOR EACH TRIANGLE
  pub run-few : {M : Links} {n : ℕ} → FlipRun C p L M n → n ≤ (C.faces - 1) * C.vertices
  run-few r = let h = run-conflicts r in let k = conflicts-small C L p in omega arith

-- the same number
pub within_same : {C : Counts} {L : Links} {p : ℕ → Point} {m n : ℕ} → m ≡ n → FlipsWithin C L p m → FlipsWithin C L p n
within_same e B = record { within = let h = B.within in omega arith }

-- where a count begins
pub within_none : {C : Counts} {L : Links} {p : ℕ → Point} → FlipsWithin C L p 0
within_none {C} {L} {p} = record { within = let h = conflicts-small C L p in omega arith }

-- after n flips more
pub within-run : {C : Counts} {p : ℕ → Point} {L M : Links} → Good C L p → {m n : ℕ} → FlipsWithin C L p m → FlipRun C p L M n
    → FlipsWithin C M p (m + n)
within-run G B r = record { within = let h = B.within in let k = run-conflicts G r in omega arith }

-- a new face raises the bound by as much as the vertices inside circles, or more; one with a new vertex too
module _ {C C' : Counts} {L L' : Links} (W : Wf C L) (W' : Wf C' L') where
  pub within-face : {p : ℕ → Point} {a b c : ℕ} → FaceAdded C C' L L' p p a b c → C'.vertices ≡ C.vertices
      → {n : ℕ} → FlipsWithin C L p n → FlipsWithin C' L' p n
  within-face A v {n} B = record {
    within = more C.faces C'.faces C.vertices C'.vertices n _ _ A.faces W.some v B.within (face-conflicts W W' A v);
  }
    where
      more : (f f' k k' n h h' : ℕ) → f' ≡ f + 1 → 0 < f → k' ≡ k → n + h ≤ (f - 1) * k → h' ≤ h + k → n + h' ≤ (f' - 1) * k'
      more zero f' k k' n h h' q i e b s = absurd (omega arith)
      more (suc f) f' k k' n h h' q i e b s =
          let x : f' - 1 ≡ suc f = omega arith in
          let y : suc f - 1 ≡ f = omega arith in
          rw (x, e, suc-mul f k) (omega (arith, rw y at b))

  pub within-vertex : {p p' : ℕ → Point} {a b c : ℕ} → FaceAdded C C' L L' p p' a b c → C'.vertices ≡ C.vertices + 1
      → {n : ℕ} → FlipsWithin C L p n → FlipsWithin C' L' p' n
  within-vertex A v {n} B = record {
    within = more C.faces C'.faces C.vertices C'.vertices n _ _ A.faces W.some v B.within (vertex-conflicts W W' A v);
  }
    where
      more : (f f' k k' n h h' : ℕ) → f' ≡ f + 1 → 0 < f → k' ≡ k + 1 → n + h ≤ (f - 1) * k → h' ≤ h + (f - 1) + (k + 1)
          → n + h' ≤ (f' - 1) * k'
      more zero f' k k' n h h' q i e b s = absurd (omega arith)
      more (suc f) f' k k' n h h' q i e b s =
          let x : f' - 1 ≡ suc f = omega arith in
          let y : suc f - 1 ≡ f = omega arith in
          let z = mul-add f k 1 in let w = mul-one f in
          rw (x, e, suc-mul f (k + 1)) (omega (arith, rw y at b, rw y at s))

-- ---- in numbers
module _ {C : Counts} {L : Links} {p : ℕ → Point} {n : ℕ} (B : FlipsWithin C L p n) where
  pub within-few : n ≤ (C.faces - 1) * C.vertices
  within-few = let h = B.within in omega arith

  -- 01, refusal 1: at most 1,000,000 vertices. One more can be counted
  pub within-fit : Wf C L → C.vertices ≤ 1000000 → n + 1 < 2 ^ 41
  within-fit W l =
      let f : C.faces - 1 ≤ 2000000 = (let k = faces-fit W {N = C.vertices} (omega arith) in omega arith) in
      let h = within-few in
      let m = mul-le-mul f l in
      omega arith

  -- by the faces alone: one more can be counted in 64 bits
  pub within-room : Wf C L → C.faces ≤ 2 ^ 25 → n + 1 < 2 ^ 64
  within-room W l =
      let f : C.faces - 1 ≤ 2 ^ 25 = omega arith in
      let v : C.vertices ≤ 2 ^ 26 = (let k = vertices-few W in omega arith) in
      let h = within-few in
      let m = mul-le-mul f v in
      omega arith
