-- On a good mesh to walk on, a point that is strictly inside a face has no other place: every certified answer is that face.
-- Assumes nothing.
use Rattle.std.specs.Prelude.{◌≡◌, ℕ, ◌<◌, ℤ, pos, ◌<ℤ◌, ◌≤ℤ◌}
use Rattle.std.proofs.Common.{sym, ◌∙◌, ap, subst, arith}
use Rattle.std.proofs.Math.Decide.{ℕ_discrete}
use Rattle.std.specs.Int.Signed.{≤ℤ_refl, clash_ℤ}
use Rattle.algebra.proofs.Order.{lt-le}
use Rattle.sums.specs.Half.{rev}
use Rattle.sums.proofs.HalfLaws.{rev-rev}
use Rattle.math.specs.declared.Point.{Point}
use Rattle.math.specs.Determinant.{orient2d}
use Rattle.math.proofs.Plane.{orient2d-next, orient2d-aba, orient2d-abb}
use Rattle.mesh.specs.declared.Counts.{Counts}
use Rattle.mesh.specs.Mesh.{Links, In, to}
use Rattle.mesh.specs.Wf.{Wf}
use Rattle.mesh.specs.Good.{Good}
use Rattle.mesh.proofs.LeftLaws.{left_at}
use Rattle.mesh.specs.Triangle.{triangle, rev-in}
use Rattle.covering.specs.Holds.{Holds, HoldsAt}
use Rattle.walkable.proofs.CoveringFacts.{InsideAt}
use Rattle.walkable.proofs.InwardLaws.{inside-holds}
use Rattle.walkable.proofs.Locality.{holds-inside-only}
use Rattle.walkable.proofs.WindingLaws.{winds-once}
use Rattle.walkable.specs.Walkable.{Walkable}
use Rattle.walkable.proofs.WalkableLaws.{walkable-peak, leaving-outside}
use Rattle.location.specs.Place.{AtVertex, InFace, InEdge, Beyond}
use Rattle.location.proofs.PlaceFacts.{Certified}
use Rattle.location.specs.declared.PositionInTriangulation.{PositionInTriangulation}
use Rattle.location.specs.declared.PositionInTriangulation.TheVariants.{OnVertex, OnFace, OnEdge, OutsideOfConvexHull}
use Rattle.location.proofs.PlaceLaws.{area-next, area-prev, in-face-at}
use Rattle.location.specs.Scan.{locate_point}
use Rattle.location.proofs.LocateLaws.{locate-good}

-- a number that is 0 is not positive
not-0 : {z : ℤ} → z ≡ pos 0 → pos 0 <ℤ z → ⊥
not-0 e h = clash_ℤ h (subst (λ (y : ℤ). y ≤ℤ pos 0) (sym e) (≤ℤ_refl (pos 0)))

from-0 : {z : ℤ} → z ≡ pos 0 → pos 0 ≤ℤ z
from-0 e = subst (λ (y : ℤ). pos 0 ≤ℤ y) (sym e) (≤ℤ_refl (pos 0))

-- a triangle holds its corners
corner-holds : (a b c : Point) → pos 0 <ℤ orient2d a b c → Holds a a b c
corner-holds a b c h = record {
  ab = from-0 (orient2d-aba a b);
  bc = lt-le (subst (λ (z : ℤ). pos 0 <ℤ z) (orient2d-next a b c) h);
  ca = from-0 (orient2d-abb c a);
}

-- from each vertex in use some half-edge of an inner face starts
pub inner_out : {C : Counts} {L : Links} → Wf C L → {v : ℕ} → v < C.vertices → (x : ℕ) × In C x × (0 < L.face x) × (L.origin x ≡ v)
inner_out {C} {L} W {v} l = go (ℕ_discrete (L.face (L.out v)) 0)
  where
    e : ℕ
    e = L.out v

    h : In C (L.out v)
    h = W.ranges.out< l

    go : Dec (L.face (L.out v) ≡ 0) → (x : ℕ) × In C x × (0 < L.face x) × (L.origin x ≡ v)
    go (no n) = (L.out v, h, omega arith, W.about.based l)
    go (yes o) =
        let r = rev-in C h in (
          L.next (rev (L.out v)),
          W.ranges.next< r,
          subst (λ (f : ℕ). 0 < f) (sym (W.links.face-next r)) (W.faces.side h o),
          W.links.origin-next r ∙ ap L.origin (rev-rev (L.out v)) ∙ W.about.based l,
        )

module _ {C : Counts} {L : Links} {p : ℕ → Point} (G : Good C L p) (K : Walkable C L p) {q : Point} {f : ℕ} (I : InFace C L p q f) where
  W : Wf C L
  W = G.wf

  stored : InsideAt L p q (L.adjacent f)
  stored = in-face-at W p q I (W.ranges.adjacent< I.below) (W.faces.stored I.below)

  inner : 0 < L.face (L.adjacent f)
  inner = subst (λ (g : ℕ). 0 < g) (sym (W.faces.stored I.below)) I.inner

  -- the only triangle that holds the point
  pub holds-inside : {x : ℕ} → In C x → 0 < L.face x → HoldsAt L p q x → L.face x ≡ f
  holds-inside l i H =
      holds-inside-only W G.turning (winds-once W (walkable-peak G K)) l i H (W.ranges.adjacent< I.below) inner stored
      ∙ W.faces.stored I.below

  no-vertex : {v : ℕ} → AtVertex C p q v → ⊥
  no-vertex {v} A =
      let o = inner_out W A.used in
      let x = o.0 in
      let here : p (L.origin x) ≡ q = ap p o.3 ∙ A.here in
      let H = corner-holds (p (L.origin x)) (p (to L x)) (p (L.origin (L.prev x))) (left_at W G.turning o.1 o.2) in
      not-0 (ap (orient2d (p (L.origin x)) (p (to L x))) (sym here) ∙ orient2d-aba (p (L.origin x)) (p (to L x)))
      (I.left o.1 (holds-inside o.1 o.2 (subst (λ (z : Point). Holds z (p (L.origin x)) (p (to L x)) (p (L.origin (L.prev x)))) here H)))

  no_edge : {e : ℕ} → InEdge C L p q e → ⊥
  no_edge E =
      let t = triangle W E.used E.inner in
      not-0 E.on (I.left E.used (holds-inside E.used E.inner (record {
        ab = from-0 E.on;
        bc = lt-le (subst (λ (z : ℤ). pos 0 <ℤ z) (area-next p q t) E.left-next);
        ca = lt-le (subst (λ (z : ℤ). pos 0 <ℤ z) (area-prev p q t) E.left-prev);
      })))

  no-outside : {e : ℕ} → Beyond C L p q e → ⊥
  no-outside B = leaving-outside G K B.used B.outer B.left (W.ranges.adjacent< I.below) inner (inside-holds stored)

  same : {g : ℕ} → InFace C L p q g → g ≡ f
  same J =
      let a = W.ranges.adjacent< J.below in
      let s = W.faces.stored J.below in
      sym s ∙ holds-inside a (subst (λ (g : ℕ). 0 < g) (sym s) J.inner) (inside-holds (in-face-at W p q J a s))

  -- ONE PLACE: what is certified of the point is that face
  pub inside-unique : (x : PositionInTriangulation) → Certified C L p q x → x ≡ OnFace f
  inside-unique (OnVertex v) c = absurd (no-vertex c)
  inside-unique (OnFace g) c = ap OnFace (same c)
  inside-unique (OnEdge e) c = absurd (no_edge c)
  inside-unique (OutsideOfConvexHull e) c = absurd (no-outside c)

  -- so point location answers it, by its search from vertex 0 or by its scan
  pub locate-inside : locate_point C L p q ≡ OnFace f
  locate-inside = inside-unique (locate_point C L p q) (locate-good G q)
