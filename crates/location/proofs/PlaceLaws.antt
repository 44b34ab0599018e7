-- What the certificates of a face and of an edge say of the corners of a triangle: what `insertion` asks. Assumes nothing.
use Rattle.std.specs.Prelude.{◌≡◌, ℕ, ◌<◌, ℤ, pos, ◌<ℤ◌}
use Rattle.std.proofs.Common.{sym, ap, ap₂, subst}
use Rattle.math.specs.declared.Point.{Point}
use Rattle.math.specs.Determinant.{orient2d}
use Rattle.mesh.specs.declared.Counts.{Counts}
use Rattle.mesh.specs.Mesh.{Links, In, to}
use Rattle.mesh.specs.Wf.{Wf}
use Rattle.mesh.specs.Area.{LeftTurning}
use Rattle.mesh.proofs.LeftLaws.{left_at}
use Rattle.mesh.specs.Triangle.{Triangle, triangle}
use Rattle.insertion_laws.specs.InTriangle.{strict-between}
use Rattle.insertion.specs.Plane.{Inside, Between}
use Rattle.location.specs.Place.{area_at, InFace, InEdge}

-- the second and the third area of a triangle, by its corners
module _ {C : Counts} {L : Links} (p : ℕ → Point) (q : Point) where
  pub area-next : {a b c : ℕ} → Triangle C L a b c → area_at L p q b ≡ orient2d (p (to L a)) (p (L.origin c)) q
  area-next t = ap₂ (λ (u v : ℕ). orient2d (p u) (p v) q) (sym t.to-a) t.to-b

  pub area-prev : {a b c : ℕ} → Triangle C L a b c → area_at L p q c ≡ orient2d (p (L.origin c)) (p (L.origin a)) q
  area-prev {a} {b} {c} t = ap (λ (v : ℕ). orient2d (p (L.origin c)) (p v) q) t.to-c

module _ {C : Counts} {L : Links} (W : Wf C L) (p : ℕ → Point) (q : Point) where
  -- strictly inside the triangle, from any of its half-edges
  pub in-face-at : {f : ℕ} → InFace C L p q f → {e : ℕ} → In C e → L.face e ≡ f
      → Inside (p (L.origin e)) (p (to L e)) (p (L.origin (L.prev e))) q
  in-face-at {f} I {e} l k =
      let t = triangle W l (subst (λ (g : ℕ). 0 < g) (sym k) I.inner) in
      record {
        ab = I.left l k;
        bc = subst (λ (z : ℤ). pos 0 <ℤ z) (area-next p q t) (I.left t.in_b (cc (t.face-b, k)));
        ca = subst (λ (z : ℤ). pos 0 <ℤ z) (area-prev p q t) (I.left t.in_c (cc (t.face-c, k)));
      }

  -- strictly between the ends of the edge
  pub in-edge-at : LeftTurning C L p → {e : ℕ} → InEdge C L p q e → Between (p (L.origin e)) (p (to L e)) q
  in-edge-at T {e} I =
      let t = triangle W I.used I.inner in
      strict-between (p (L.origin e)) (p (to L e)) (p (L.origin (L.prev e))) q (left_at W T I.used I.inner) I.on
      (subst (λ (z : ℤ). pos 0 <ℤ z) (area-next p q t) I.left-next)
      (subst (λ (z : ℤ). pos 0 <ℤ z) (area-prev p q t) I.left-prev)
