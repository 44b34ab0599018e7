-- Laws of specs/FlipRun.antt.
use Rattle.std.specs.Prelude.{true, ◌≡◌, ℕ, zero, suc, ◌+◌, ◌*◌, ◌<◌, ◌≤◌, ℤ, pos, nat_abs, ◌+ℤ◌}
use Rattle.std.proofs.Math.Path.{refl}
use Rattle.std.proofs.Common.{sym, ◌∙◌, ap, subst, add-suc, add-zero, arith}
use mathlib.Core.List.{[], ◌∷◌}
use Rattle.algebra.specs.Ring.{◌⊕◌}
use Rattle.algebra.proofs.RingLaws.{v0, v1, v2, v3, v4, #◌}
use Rattle.algebra.proofs.Sign.{eq-in, eq-by, ◌+⁰◌}
use Rattle.math.specs.declared.Point.{Point}
use Rattle.mesh.specs.declared.Counts.{Counts}
use Rattle.mesh.specs.Mesh.{Links}
use Rattle.mesh.specs.Operations.{flip_cw}
use Rattle.mesh.specs.Frame.{SameBoundary}
use Rattle.mesh.proofs.FrameLaws.{boundary-refl, boundary-trans}
use Rattle.mesh.specs.Area.{boundary_length, hull_edge, area_total, height_sum, circle_at}
use Rattle.mesh.proofs.HeightLawsFacts.{flip-areas, flip-heights}
use Rattle.mesh.proofs.BoundarySequence.{boundary-same}
use Rattle.mesh.specs.Good.{Good}
use Rattle.mesh.proofs.GoodLaws.{flip-length}
use Rattle.mesh.specs.Circle.{breaks_circle}
use Rattle.mesh.proofs.CircleLawsFacts.{breaks, breaks-flippable, breaks-good, breaks-falls, breaks-boundary}
use Rattle.mesh.specs.FlipRun.{FlipRun, none, then, determinants}

-- one flip, and one run after another
pub run-one : {C : Counts} {p : ℕ → Point} {L : Links} {u : ℕ} → u < C.edges → breaks_circle L p u ≡ true → FlipRun C p L (flip_cw L u) 1
run-one {u = u} l b = then none u l b

pub run_join : {C : Counts} {p : ℕ → Point} {L M N : Links} {m n : ℕ} → FlipRun C p L M m → FlipRun C p M N n → FlipRun C p L N (m + n)
run_join {C} {p} {L} {m = m} r none = subst (FlipRun C p L _) (sym (add-zero m)) r
run_join {C} {p} {L} {m = m} r (then {n = n} s u l b) = subst (FlipRun C p L _) (sym (add-suc m n)) (then (run_join r s) u l b)

module _ {C : Counts} {p : ℕ → Point} {L : Links} (G : Good C L p) where
  pub run-good : {M : Links} {n : ℕ} → FlipRun C p L M n → Good C M p
  run-good none = G
  run-good (then {M = M} r u l b) = breaks-good (run-good r) l (breaks M p u b)

  pub run-boundary : {M : Links} {n : ℕ} → FlipRun C p L M n → SameBoundary C L M
  run-boundary none = boundary-refl
  run-boundary (then {M = M} r u l b) = boundary-trans (run-boundary r) (breaks-boundary (run-good r) l (breaks M p u b))

  -- the boundary as the walk from face 0's stored edge
  pub run-sequence : {M : Links} {n : ℕ} → FlipRun C p L M n → (k : ℕ) → hull_edge M k ≡ hull_edge L k
  run-sequence r = boundary-same G.wf (run-boundary r)

  pub run_length : {M : Links} {n : ℕ} → FlipRun C p L M n → boundary_length C M ≡ boundary_length C L
  run_length none = refl
  run_length (then {M = M} r u l b) = let H = run-good r in flip-length H.wf (breaks-flippable H l (breaks M p u b)) ∙ run_length r

  pub run-area : {M : Links} {n : ℕ} → FlipRun C p L M n → area_total C M p ≡ area_total C L p
  run-area none = refl
  run-area (then {M = M} r u l b) = let H = run-good r in flip-areas H.wf (breaks-flippable H l (breaks M p u b)) p ∙ run-area r

  -- 01: "Each flip lowers the height sum by exactly the circle determinant."
  pub run-heights : {M : Links} {n : ℕ} (r : FlipRun C p L M n) → height_sum C L p ≡ height_sum C M p +ℤ determinants r
  unfolding determinants
  run-heights none = eq-by (eq-in (height_sum C L p ∷ []) v0 v0 refl) v0 (v0 ⊕ # 0) refl
  run-heights (then {M = M} r u l b) =
      let H = run-good r in
      let ρ = height_sum C L p ∷ height_sum C M p ∷ determinants r ∷ height_sum C (flip_cw M u) p ∷ circle_at M p (2 * u) ∷ [] in
      eq-by (eq-in ρ v0 (v1 ⊕ v2) (run-heights r) +⁰ eq-in ρ v1 (v3 ⊕ v4) (flip-heights H.wf (breaks-flippable H l (breaks M p u b)) p)) v0 (v3 ⊕ (v2 ⊕ v4)) refl

  pub run-falls : {M : Links} {n : ℕ} → FlipRun C p L M n → n + nat_abs (height_sum C M p) ≤ nat_abs (height_sum C L p)
  run-falls none = omega arith
  run-falls (then {M = M} r u l b) = let h = run-falls r in let k = breaks-falls (run-good r) l (breaks M p u b) in omega arith
