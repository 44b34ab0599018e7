-- At most one triangle of a left-turning mesh has a point left of its three edges, where the boundary crosses the
-- point's ray at most once from above. Assumes nothing.
use Rattle.std.specs.Prelude.{◌≡◌, refl, [], ◌∷◌, ℕ, suc, ◌-◌, ◌<◌, ℤ, pos, negsuc, ◌+ℤ◌, ◌-ℤ◌, ◌≤ℤ◌}
use Rattle.std.proofs.Common.{sym, ◌∙◌, ap}
use Rattle.std.proofs.Math.Decide.{ℕ_discrete}
use native.Mathlib.Omega.{arith}
use Rattle.std.specs.Int.Signed.{≤ℤ_refl, lt_z_yes}
use Rattle.algebra.specs.Ring.{num, ◌⊕◌, ◌⊖◌, ⊝◌}
use Rattle.algebra.proofs.RingLaws.{#◌, v0, v1, v2}
use Rattle.algebra.proofs.Sign.{◌+⁺◌, ◌+°◌, pos-in, nn-in, le_in, le-by, refute, eq-in, zero°}
use Rattle.sums.specs.Put.{put}
use Rattle.sums.proofs.PutLaws.{put_same, put_other}
use Rattle.sums.specs.Half.{rev}
use Rattle.sums.specs.Sum.{sum}
use Rattle.sums.proofs.SumLaws.{sum-put, sum_nonneg}
use Rattle.math.specs.declared.Point.{Point}
use Rattle.mesh.specs.declared.Counts.{Counts}
use Rattle.mesh.specs.Mesh.{Links, In, to}
use Rattle.mesh.specs.Wf.{Wf}
use Rattle.mesh.specs.Area.{at_corners, LeftTurning}
use Rattle.mesh.proofs.AreaCorners.{face-at}
use Rattle.mesh.proofs.BoundaryLaws.{inner-stored, three_back}
use Rattle.mesh.proofs.LeftLaws.{left_at}
use Rattle.mesh.specs.Cochain.{circulation, inner_circulation}
use Rattle.mesh.proofs.Stokes.{stokes}
use Rattle.covering.specs.Crossing.{crossings}
use Rattle.covering.specs.CrossingLaws.{crossings-next, crossing-cochain}
use Rattle.walkable.proofs.CrossingTotal.{crossings-nonneg}
use Rattle.walkable.proofs.CrossingInside.{crossings-inside}
use Rattle.covering.specs.Crossing.{edge_crossing}
use Rattle.walkable.specs.Covering.{boundary_crossings}
use Rattle.walkable.proofs.CoveringFacts.{InsideAt}

-- a sum of numbers of at least 0, itself at most 1: only one of them is 1
pub sum-sole : (n : ℕ) (f : ℕ → ℤ) → ((i : ℕ) → i < n → pos 0 ≤ℤ f i) → sum n f ≤ℤ pos 1 → {i j : ℕ} → i < n → j < n
    → f i ≡ pos 1 → f j ≡ pos 1 → i ≡ j
sum-sole n f low most {i} {j} u v ei ej = go (ℕ_discrete j i)
  where
    g : ℕ → ℤ
    g = put f i (pos 0)

    keeps : (f : ℕ → ℤ) (i : ℕ) → ((k : ℕ) → k < n → pos 0 ≤ℤ f k) → (k : ℕ) → k < n → pos 0 ≤ℤ put f i (pos 0) k
    keeps f i low k l = at (ℕ_discrete k i)
      where
        at : Dec (k ≡ i) → pos 0 ≤ℤ put f i (pos 0) k
        at (yes e) = rw (e, put_same f i (pos 0)) (≤ℤ_refl (pos 0))
        at (no d) = rw (put_other f i (pos 0) k d) (low k l)

    go : Dec (j ≡ i) → i ≡ j
    go (yes e) = sym e
    go (no d) =
        let ρ = sum n f ∷ sum n g ∷ sum n (put g j (pos 0)) ∷ [] in
        let a : sum n g ≡ sum n f -ℤ pos 1 +ℤ pos 0 = sum-put f (pos 0) u ∙ ap (λ (z : ℤ). sum n f -ℤ z +ℤ pos 0) ei in
        let b : sum n (put g j (pos 0)) ≡ sum n g -ℤ pos 1 +ℤ pos 0 = sum-put g (pos 0) v ∙ ap (λ (z : ℤ). sum n g -ℤ z +ℤ pos 0) (put_other f i (pos 0) j d ∙ ej) in
        absurd (refute (pos-in ρ (# 1) (lt_z_yes tt) +⁺ le_in ρ v0 (# 1) most
        +⁺ nn-in ρ v2 (sum_nonneg n (put g j (pos 0)) (keeps g j (keeps f i low)))
        +⁺ zero° (eq-in ρ (v0 ⊖ # 1 ⊕ # 0) v1 (sym a)) +⁺ zero° (eq-in ρ (v1 ⊖ # 1 ⊕ # 0) v2 (sym b))) tt)

module _ {C : Counts} {L : Links} (W : Wf C L) where
  -- round an inner face
  crossing-corners : (p : ℕ → Point) (q : Point) {f : ℕ} → 0 < f → f < C.faces
      → circulation L (edge_crossing L p q) (L.adjacent f) ≡ at_corners (crossings q) L p (L.adjacent f)
  crossing-corners p q {f} i l =
      let a = L.adjacent f in
      let m = W.ranges.adjacent< l in
      let n = W.ranges.next< m in
      let o = W.ranges.next< n in
      let e₁ = W.links.origin-next m in let e₂ = W.links.origin-next n in
      let e₃ : L.origin a ≡ L.origin (rev (L.next (L.next a))) = ap L.origin (sym (three_back W m (inner-stored W i l))) ∙ W.links.origin-next o in
      rw (← e₁, ← e₂, ← e₃)

  module _ {p : ℕ → Point} (T : LeftTurning C L p) (q : Point) where
    crossings-low : (f : ℕ) → f < C.faces - 1 → pos 0 ≤ℤ circulation L (edge_crossing L p q) (L.adjacent (suc f))
    crossings-low f l = rw (crossing-corners p q {f = suc f} (omega arith) (omega arith))
        (crossings-nonneg q _ _ _ (T.left {f = suc f} (omega arith) (omega arith)))

    crossings-most : negsuc 0 ≤ℤ boundary_crossings C L p q → inner_circulation C L (edge_crossing L p q) ≤ℤ pos 1
    crossings-most h =
        let ρ = inner_circulation C L (edge_crossing L p q) ∷ boundary_crossings C L p q ∷ [] in
        le-by (le_in ρ (num (negsuc 0)) v1 h +° zero° (eq-in ρ (⊝ v1) v0 (sym (stokes W (crossing-cochain L p q))))) v0 (# 1) refl

    -- the face of e, whose stored edge's number is one less
    crossings-one : {e : ℕ} → In C e → 0 < L.face e → InsideAt L p q e
        → circulation L (edge_crossing L p q) (L.adjacent (suc (L.face e - 1))) ≡ pos 1
    crossings-one {e} l i I =
        let s : suc (L.face e - 1) ≡ L.face e = omega arith in
        rw s (crossing-corners p q i (W.ranges.face< l) ∙ face-at W (crossings q) p (crossings-next q) l i
        ∙ crossings-inside q (p (L.origin e)) (p (to L e)) (p (L.origin (L.prev e))) (left_at W T l i) I)

    -- COVERING: at most one triangle has q strictly inside
    pub covering : negsuc 0 ≤ℤ boundary_crossings C L p q → {d e : ℕ} → In C d → In C e → 0 < L.face d → 0 < L.face e
        → InsideAt L p q d → InsideAt L p q e → L.face d ≡ L.face e
    unfolding inner_circulation
    covering h {d} {e} ld le i j I J =
        let fd = W.ranges.face< ld in let fe = W.ranges.face< le in
        let same = sum-sole (C.faces - 1) (λ f. circulation L (edge_crossing L p q) (L.adjacent (suc f))) crossings-low (crossings-most h)
        {i = L.face d - 1} {j = L.face e - 1} (omega arith) (omega arith) (crossings-one ld i I) (crossings-one le j J) in
        omega arith
