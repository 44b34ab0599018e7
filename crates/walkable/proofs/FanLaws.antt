-- The fan of an inner vertex of a left-turning mesh surrounds it. Assumes nothing.
use Rattle.std.specs.Prelude.{◌≡◌, ◌⊎◌, Bool, not, ◌&&◌, ℕ, ◌*◌, ◌<◌, T, eqb, pos, ◌<ℤ◌, ◌≤ℤ◌}
use Rattle.std.proofs.Common.{sym, ◌∙◌, ap, subst, inl, inr, eqb→eq}
use Rattle.std.proofs.Math.Dec.{not_T}
use Rattle.std.specs.Int.Signed.{lt_z, lt_z_yes, lt_z_no}
use Rattle.sums.proofs.BitLaws.{test, eq_test, and_left, and_right, and_both}
use Rattle.sums.specs.Bounded.{any_below}
use Rattle.sums.proofs.BoundedLaws.{any-below→, none-below→}
use Rattle.sums.specs.Half.{rev}
use Rattle.sums.proofs.HalfLaws.{rev-rev, rev-below, rev-inverse}
use Rattle.sums.specs.Iterate.{iter, Inverse}
use Rattle.sums.proofs.IterateLaws.{iter-last, iter-add, iter-keeps, inverse-sym, inverse-then, period}
use Rattle.math.specs.declared.Point.{Point}
use Rattle.math.specs.declared.Vector.{Vector}
use Rattle.math.specs.Vector.{cross_of, dot_of}
use Rattle.math.proofs.VectorLaws.{orient2d-vectors}
use Rattle.mesh.specs.declared.Counts.{Counts}
use Rattle.mesh.specs.Mesh.{Links, In, to, turn}
use Rattle.mesh.specs.Wf.{Wf}
use Rattle.mesh.specs.Area.{LeftTurning}
use Rattle.mesh.proofs.BoundaryLaws.{next-inverse}
use Rattle.mesh.proofs.LeftLaws.{left_at}
use Rattle.walkable.specs.Fan.{Inner}
use Rattle.walkable.proofs.FanFacts.{spoke}
use Rattle.walkable.proofs.Surround.{surround}

module _ {C : Counts} {L : Links} (W : Wf C L) where
  pub turn-inverse : Inverse (2 * C.edges) (turn L) (λ e. L.next (rev e))
  turn-inverse = inverse-then (inverse-sym (next-inverse W)) (rev-inverse C.edges)

  pub turn_in : {e : ℕ} → In C e → In C (turn L e)
  turn_in l = rev-below C.edges (W.ranges.prev< l)

  pub turn-origin : {e : ℕ} → In C e → L.origin (turn L e) ≡ L.origin e
  turn-origin l = sym (W.links.origin-next (W.ranges.prev< l)) ∙ ap L.origin (W.links.next-prev l)

  pub turn-to : (e : ℕ) → to L (turn L e) ≡ L.origin (L.prev e)
  turn-to e = ap L.origin (rev-rev (L.prev e))

  -- all half-edges that turning meets start at the vertex
  pub turns-about : (k : ℕ) {e v : ℕ} → In C e → L.origin e ≡ v → In C (iter k (turn L) e) × (L.origin (iter k (turn L) e) ≡ v)
  turns-about k {e} {v} l o = iter-keeps (λ x. In C x × (L.origin x ≡ v)) (λ x h. (turn_in h.0, turn-origin h.0 ∙ h.1)) k (l, o)

  module _ {p : ℕ → Point} (turning : LeftTurning C L p) where
    -- the next spoke is to the left
    pub spoke-left : {e : ℕ} → In C e → 0 < L.face e → pos 0 <ℤ cross_of (spoke L p e) (spoke L p (turn L e))
    spoke-left {e} l i = rw (turn-to e, turn-origin l, orient2d-vectors (p (L.origin e)) (p (to L e)) (p (L.origin (L.prev e)))) (left_at W turning l i)

    -- an inner vertex: not all spokes are right of a direction, or along it
    pub not-all-right : {v e : ℕ} → Inner C L v → In C e → L.origin e ≡ v → (d : Vector) → pos 0 <ℤ dot_of d d
        → ((x : ℕ) → In C x → L.origin x ≡ v → cross_of d (spoke L p x) ≤ℤ pos 0) → ⊥
    not-all-right {v} {e} I l o d dd h =
        let P = period turn-inverse l in let m = P.0 in
        surround (λ k. spoke L p (iter k (turn L) e)) m P.2.positive
        (λ k. ap (spoke L p) (iter-add m k (turn L) e ∙ ap (iter k (turn L)) P.2.back))
        (λ k. let a = turns-about k l o in
        subst (λ (x : ℕ). pos 0 <ℤ cross_of (spoke L p (iter k (turn L) e)) (spoke L p x)) (sym (iter-last k (turn L) e)) (spoke-left a.0 (I.inner a.0 a.1)))
        d dd (λ k. let a = turns-about k l o in h (iter k (turn L) e) a.0 a.1)

    -- SURROUNDED: some spoke is strictly left of it
    pub spoke-beyond : {v e : ℕ} → Inner C L v → In C e → L.origin e ≡ v → (d : Vector) → pos 0 <ℤ dot_of d d
        → (x : ℕ) × In C x × (L.origin x ≡ v) × (pos 0 <ℤ cross_of d (spoke L p x))
    spoke-beyond {v} {e} I l o d dd = go (test (any_below (2 * C.edges) t))
      where
        t : ℕ → Bool
        t x = eqb (L.origin x) v && lt_z (pos 0) (cross_of d (spoke L p x))

        go : T (any_below (2 * C.edges) t) ⊎ T (not (any_below (2 * C.edges) t))
            → (x : ℕ) × In C x × (L.origin x ≡ v) × (pos 0 <ℤ cross_of d (spoke L p x))
        go (inl y) =
            let r = any-below→ (2 * C.edges) t y in let x = r.0 in (
              x,
              r.1,
              eqb→eq (L.origin x) v (and_left (eqb (L.origin x) v) (lt_z (pos 0) (cross_of d (spoke L p x))) r.2),
              lt_z_yes (and_right (eqb (L.origin x) v) (lt_z (pos 0) (cross_of d (spoke L p x))) r.2),
            )
        go (inr n) = absurd (not-all-right I l o d dd at)
          where
            at : (x : ℕ) → In C x → L.origin x ≡ v → cross_of d (spoke L p x) ≤ℤ pos 0
            at x m q = lt_z_no (not_T (lt_z (pos 0) (cross_of d (spoke L p x)))
                (λ y. none-below→ (2 * C.edges) t n x m (and_both (eqb (L.origin x) v) (lt_z (pos 0) (cross_of d (spoke L p x))) (eq_test q) y)))
