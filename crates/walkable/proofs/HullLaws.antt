-- The maximum principle: a line that has no boundary vertex strictly on its left has no vertex there, and no point of a
-- triangle. Assumes nothing.
use Rattle.std.specs.Prelude.{◌≡◌, refl, [], ◌∷◌, ℕ, zero, suc, ◌<◌, ℤ, pos, ◌+ℤ◌, ◌<ℤ◌, ◌≤ℤ◌}
use Rattle.std.proofs.Common.{sym, subst, ⊎_elim, arith}
use Rattle.std.specs.Int.Signed.{≤ℤ_refl}
use Rattle.algebra.specs.Ring.{E, var, ◌⊕◌, ◌⊖◌, ⊝◌}
use Rattle.algebra.proofs.RingLaws.{#◌, v0, v1, v2, ring}
use Rattle.algebra.proofs.Sign.{◌*⁺◌, ◌*°◌, ◌+⁺◌, ◌+°◌, weak, pos-in, nn-in, le_in, cases, le-by, refute, eq-in, zero°}
use Rattle.sums.proofs.BoundedLaws.{up_to}
use Rattle.sums.specs.Half.{rev}
use Rattle.sums.proofs.HalfLaws.{rev-rev, rev-below}
use Rattle.math.specs.declared.Point.{Point}
use Rattle.math.specs.Determinant.{Pt, Orient2d, orient2d, det2, Minus}
use Rattle.math.proofs.Plane.{E·, A, B, C, D, env}
use Rattle.math.specs.Vector.{difference, cross_of, dot_of}
use Rattle.mesh.specs.declared.Counts.{Counts}
use Rattle.mesh.specs.Mesh.{Links, In, to}
use Rattle.mesh.specs.Wf.{Wf}
use Rattle.mesh.specs.Area.{LeftTurning}
use Rattle.mesh.proofs.LeftLaws.{left_at}
use Rattle.walkable.proofs.Surround.{cross-dot}
use Rattle.walkable.specs.Fan.{Inner}
use Rattle.walkable.proofs.FanLaws.{spoke-beyond}
use Rattle.covering.specs.Holds.{Holds, HoldsAt}
use Rattle.walkable.specs.Hull.{Supports, Convex}

-- the greatest of f 0 .. f (n - 1)
pub greatest : (n : ℕ) (f : ℕ → ℤ) → 0 < n → (k : ℕ) × (k < n) × ((i : ℕ) → i < n → f i ≤ℤ f k)
greatest zero f l = absurd (omega arith)
greatest (suc zero) f l = (0, omega arith, up_to {P = λ i. f i ≤ℤ f 0} 0 (λ i u. absurd (omega arith)) (≤ℤ_refl (f 0)))
greatest (suc (suc n)) f l = go (greatest (suc n) f (omega arith))
  where
    go : (k : ℕ) × (k < suc n) × ((i : ℕ) → i < suc n → f i ≤ℤ f k)
        → (k : ℕ) × (k < suc (suc n)) × ((i : ℕ) → i < suc (suc n) → f i ≤ℤ f k)
    go (k, u, h) =
        let ρ = f k ∷ f (suc n) ∷ [] in
        ⊎_elim
        (λ g. (
          suc n,
          omega arith,
          up_to {P = λ i. f i ≤ℤ f (suc n)} (suc n)
              (λ i v. let σ = f i ∷ f k ∷ f (suc n) ∷ [] in le-by (le_in σ v0 v1 (h i v) +° nn-in σ (v2 ⊖ v1) (weak g).is) v0 v2 refl) (≤ℤ_refl (f (suc n))),
        ))
        (λ g. (k, omega arith, up_to {P = λ i. f i ≤ℤ f k} (suc n) h (le-by g v1 v0 refl)))
        (cases ρ (v1 ⊖ v0))

-- the difference of two points' areas over x y
orient2d-along : (x y a b : Point) → orient2d x y a ≡ orient2d x y b +ℤ cross_of (difference y x) (difference a b)
unfolding orient2d cross_of difference
orient2d-along x y a b =
    let u = Minus E· B A in let v = Minus E· C D in
    ring (env x y a b) (Orient2d E· A B C) (Orient2d E· A B D ⊕ det2 E· (u.x, u.y) (v.x, v.y)) refl

-- two points differ, where one of them is a corner with the other of a left-turning triangle
longer : (x y z : Point) → pos 0 <ℤ orient2d y x z → pos 0 <ℤ dot_of (difference y x) (difference y x)
unfolding orient2d cross_of difference
longer x y z h = cross-dot (difference y x) (difference x z) (subst (λ (t : ℤ). pos 0 <ℤ t) same h)
  where
    same : orient2d y x z ≡ cross_of (difference y x) (difference x z)
    same =
        let u = Minus E· B A in let v = Minus E· A C in
        ring (x.x ∷ x.y ∷ y.x ∷ y.y ∷ z.x ∷ z.y ∷ []) (Orient2d E· B A C) (det2 E· (u.x, u.y) (v.x, v.y)) refl

-- what a left-turning triangle holds is on no farther side of a line than its corners
abbrev X : Pt E
X = record { x = var 8; y = var 9 }

abbrev Y : Pt E
Y = record { x = var 10; y = var 11 }

pub convex-holds : (x y a b c q : Point) → pos 0 <ℤ orient2d a b c → Holds q a b c
    → orient2d x y a ≤ℤ pos 0 → orient2d x y b ≤ℤ pos 0 → orient2d x y c ≤ℤ pos 0 → orient2d x y q ≤ℤ pos 0
unfolding orient2d
convex-holds x y a b c q left H ha hb hc =
    let ρ = a.x ∷ a.y ∷ b.x ∷ b.y ∷ c.x ∷ c.y ∷ q.x ∷ q.y ∷ x.x ∷ x.y ∷ y.x ∷ y.y ∷ [] in
    ⊎_elim (λ k. absurd (refute (pos-in ρ (Orient2d E· A B C) left *⁺ k
    +⁺ nn-in ρ (Orient2d E· B C D) H.bc *° le_in ρ (Orient2d E· X Y A) (# 0) ha
    +⁺ nn-in ρ (Orient2d E· C A D) H.ca *° le_in ρ (Orient2d E· X Y B) (# 0) hb
    +⁺ nn-in ρ (Orient2d E· A B D) H.ab *° le_in ρ (Orient2d E· X Y C) (# 0) hc) tt))
    (λ n. le-by n (Orient2d E· X Y D) (# 0) refl)
    (cases ρ (Orient2d E· X Y D))

module _ {K : Counts} {L : Links} (W : Wf K L) {p : ℕ → Point} (turning : LeftTurning K L p) where
  -- MAXIMUM PRINCIPLE: the vertex farthest to the left of the line is on the boundary, for an inner one has a neighbour that is farther
  pub maximum-principle : (x y : Point) → pos 0 <ℤ dot_of (difference y x) (difference y x) → Supports K L p x y
      → {v : ℕ} → v < K.vertices → orient2d x y (p v) ≤ℤ pos 0
  maximum-principle x y dd S {v} l = go (greatest K.vertices (λ v. orient2d x y (p v)) (omega arith))
    where
      go : (m : ℕ) × (m < K.vertices) × ((i : ℕ) → i < K.vertices → orient2d x y (p i) ≤ℤ orient2d x y (p m))
          → orient2d x y (p v) ≤ℤ pos 0
      go (m, u, h) = ⊎_elim (λ k. absurd (beyond k.is))
          (λ k. let σ = orient2d x y (p v) ∷ orient2d x y (p m) ∷ [] in le-by (le_in σ v0 v1 (h v l) +° nn-in σ (⊝ v1) k.is) v0 (# 0) refl)
          (cases (orient2d x y (p m) ∷ []) v0)
        where
          inner : pos 0 <ℤ orient2d x y (p m) → Inner K L m
          inner k = record { inner = λ {e} i o. at e i o (L.face e) refl }
            where
              at : (e : ℕ) → In K e → L.origin e ≡ m → (f : ℕ) → L.face e ≡ f → 0 < L.face e
              at e i o zero q =
                  let ρ = orient2d x y (p m) ∷ [] in
                  let r : orient2d x y (p m) ≤ℤ pos 0 = subst (λ (w : ℕ). orient2d x y (p w) ≤ℤ pos 0) o (S.right i q) in
                  absurd (refute (pos-in ρ v0 k +⁺ le_in ρ v0 (# 0) r) tt)
              at e i o (suc f) q = omega arith

          beyond : pos 0 <ℤ orient2d x y (p m) → ⊥
          beyond k =
              let r = spoke-beyond W turning (inner k) (W.ranges.out< u) (W.about.based u) (difference y x) dd in
              let e = r.0 in let a = p (to L e) in let b = p (L.origin e) in
              let ρ = orient2d x y a ∷ orient2d x y b ∷ cross_of (difference y x) (difference a b) ∷ [] in
              let most : orient2d x y a ≤ℤ orient2d x y b = subst (λ (w : ℕ). orient2d x y a ≤ℤ orient2d x y (p w)) (sym r.2) (h (to L e) (W.ranges.origin< (rev-below K.edges r.1))) in
              refute (pos-in ρ v2 r.3 +⁺ le_in ρ v0 v1 most +⁺ zero° (eq-in ρ v0 (v1 ⊕ v2) (orient2d-along x y a b))) tt

  -- an outer half-edge's ends differ, for a triangle is on its other side
  pub outer-direction : {e : ℕ} → In K e → L.face e ≡ 0
      → let x = p (L.origin e) in let y = p (to L e) in pos 0 <ℤ dot_of (difference y x) (difference y x)
  outer-direction {e} l o =
      let x = p (L.origin e) in let y = p (to L e) in let z = p (L.origin (L.prev (rev e))) in
      let h : pos 0 <ℤ orient2d y x z = subst (λ (d : ℕ). pos 0 <ℤ orient2d y (p (L.origin d)) z) (rev-rev e) (left_at W turning (rev-below K.edges l) (W.faces.side l o)) in
      longer x y z h

  -- no vertex is strictly left of a boundary edge
  pub hull-vertices : Convex K L p → {e : ℕ} → In K e → L.face e ≡ 0 → {v : ℕ} → v < K.vertices
      → orient2d (p (L.origin e)) (p (to L e)) (p v) ≤ℤ pos 0
  hull-vertices X {e} l o u = maximum-principle (p (L.origin e)) (p (to L e)) (outer-direction l o) (X.hull l o) u

  -- LEAVING MEANS OUTSIDE: a triangle holds no point strictly left of a boundary edge
  pub outside : Convex K L p → {e : ℕ} → In K e → L.face e ≡ 0 → {q : Point} → pos 0 <ℤ orient2d (p (L.origin e)) (p (to L e)) q
      → {x : ℕ} → In K x → 0 < L.face x → HoldsAt L p q x → ⊥
  outside X {e} l o {q} h {x} m i H =
      let r = convex-holds (p (L.origin e)) (p (to L e)) (p (L.origin x)) (p (to L x)) (p (L.origin (L.prev x))) q (left_at W turning m i) H
      (hull-vertices X l o (W.ranges.origin< m)) (hull-vertices X l o (W.ranges.origin< (rev-below K.edges m))) (hull-vertices X l o (W.ranges.origin< (W.ranges.prev< m))) in
      let ρ = orient2d (p (L.origin e)) (p (to L e)) q ∷ [] in
      refute (pos-in ρ v0 h +⁺ le_in ρ v0 (# 0) r) tt
