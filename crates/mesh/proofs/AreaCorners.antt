-- A function of the corners of an inner face, such as its area: by the names of the corners, from any of its
-- half-edges, and where the face is kept.
-- Assumes nothing.
use Rattle.std.specs.Prelude.{◌≡◌, refl, ℕ, ◌<◌, ℤ}
use Rattle.std.proofs.Common.{sym, ◌∙◌, ap}
use Rattle.math.specs.declared.Point.{Point}
use Rattle.sums.specs.Half.{rev}
use Rattle.mesh.specs.declared.Counts.{Counts}
use Rattle.mesh.specs.Mesh.{Links, In}
use Rattle.mesh.specs.Wf.{Wf}
use Rattle.mesh.specs.Frame.{Corners, SameFace}
use Rattle.mesh.proofs.FrameLaws.{by-corners}
use Rattle.mesh.specs.Area.{at_corners}
use Rattle.mesh.proofs.BoundaryLaws.{inner-stored}

-- three arguments at once
ap₃ : (F : Point → Point → Point → ℤ) {a b c x y z : Point} → a ≡ x → b ≡ y → c ≡ z → F a b c ≡ F x y z
ap₃ F {a} {b} {c} {x} {y} {z} p q r = ap (λ (u : Point). F u b c) p ∙ ap (λ (u : Point). F x u c) q ∙ ap (F x y) r

module _ {C : Counts} {L : Links} (W : Wf C L) (F : Point → Point → Point → ℤ) (p : ℕ → Point) where
  -- the corners of an inner face, named
  pub corners-at : {f a b c : ℕ} → 0 < f → f < C.faces → Corners L f a b c → at_corners F L p (L.adjacent f) ≡ F (p a) (p b) (p c)
  corners-at i l K = ap₃ F (ap p K.first) (ap p K.second)
      (ap (λ (d : ℕ). p (L.origin d)) (W.faces.three (W.ranges.adjacent< l) (inner-stored W i l)) ∙ ap p K.third)

  -- from any half-edge of the face, where F does not depend on the first corner
  pub face-at : ((a b c : Point) → F a b c ≡ F b c a) → {e : ℕ} → In C e → 0 < L.face e
      → at_corners F L p (L.adjacent (L.face e)) ≡ F (p (L.origin e)) (p (L.origin (rev e))) (p (L.origin (L.prev e)))
  face-at turn {e} l i =
      let K : Corners L (L.face e) _ _ _ = record { first = refl; second = refl; third = refl } in
      corners-at i (W.ranges.face< l) K
      ∙ sym (by-corners W (λ a b c. F (p a) (p b) (p c)) (λ a b c. turn (p a) (p b) (p c)) l i K)
      ∙ ap (λ (v : ℕ). F (p (L.origin e)) (p v) (p (L.origin (L.prev e)))) (W.links.origin-next l)

  -- a face that keeps its half-edges, and its corners their positions
  pub kept_at : {L' : Links} {p' : ℕ → Point} → ((v : ℕ) → v < C.vertices → p' v ≡ p v) → {f : ℕ} → 0 < f → f < C.faces → SameFace L L' f
      → at_corners F L' p' (L'.adjacent f) ≡ at_corners F L p (L.adjacent f)
  kept_at {L'} {p'} same {f} i l S =
      let m = W.ranges.adjacent< l in let t = W.faces.three m (inner-stored W i l) in
      let u = S.first in let v = S.second in let w = S.third in
      let o₁ : L'.origin (L'.adjacent f) ≡ L.origin (L.adjacent f) = cc in
      let o₂ : L'.origin (L'.next (L'.adjacent f)) ≡ L.origin (L.next (L.adjacent f)) = cc in
      let o₃ : L'.origin (L'.next (L'.next (L'.adjacent f))) ≡ L.origin (L.next (L.next (L.adjacent f))) = cc in
      ap₃ F (ap p' o₁ ∙ same _ (W.ranges.origin< m)) (ap p' o₂ ∙ same _ (W.ranges.origin< (W.ranges.next< m)))
      (ap p' o₃ ∙ same _ (W.ranges.origin< (W.ranges.next< (W.ranges.next< m))))
