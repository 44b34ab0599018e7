-- The fan over a whole line has no corner on its boundary that turns left: it turns right at the new vertex and at both
-- ends of the line, and goes straight on along the line. Assumes nothing.
use Rattle.std.specs.Prelude.{◌≡◌, refl, ◌≢◌, ◌⊎◌, [], ◌∷◌, ℤ, pos, neg_ℤ, ◌<ℤ◌, ◌≤ℤ◌}
use Rattle.std.proofs.Common.{sym, ◌∙◌, ap, subst, inl, inr, arith}
use Prim.Native.Nat.{ℕ, zero, suc, ◌+◌, ◌*◌, ◌<◌, ◌≤◌}
use Rattle.std.specs.Int.Signed.{≤ℤ_refl}
use Rattle.algebra.proofs.Order.{lt-le, neg-<0}
use Rattle.convexity.specs.Convexity.{NoLeftCorner}
use Rattle.math.specs.declared.Point.{Point}
use Rattle.math.specs.Determinant.{orient2d}
use Rattle.math.proofs.Plane.{orient2d-next, orient2d-swap}
use Rattle.mesh.specs.declared.Counts.{Counts}
use Rattle.mesh.specs.Mesh.{Links, In, to}
use Rattle.mesh.specs.Area.{at_corners}
use Rattle.sums.specs.Half.{rev}
use Rattle.sums.proofs.HalfLaws.{rev-rev}
use Rattle.line.specs.Chain.{Chain}
use Rattle.line.proofs.ChainLaws.{in-r, in-rev}
use Rattle.line.specs.Fan.{Fan, Seen}
use Rattle.line.proofs.ChainRules.{by_kind}
use Rattle.line.specs.Straight.{Straight}

-- what is strictly left of an edge is not left of its reverse; and where there is no area, not either
right_of : (a b c : Point) → pos 0 <ℤ orient2d a b c → orient2d b a c ≤ℤ pos 0
right_of a b c h = subst (λ (z : ℤ). z ≤ℤ pos 0) (sym (orient2d-swap a b c)) (lt-le (neg-<0 h))

straight-back : (a b c : Point) → orient2d a b c ≡ pos 0 → orient2d c b a ≤ℤ pos 0
straight-back a b c h = subst (λ (z : ℤ). z ≤ℤ pos 0) (sym (orient2d-next c b a ∙ orient2d-swap a b c ∙ ap neg_ℤ h)) (≤ℤ_refl (pos 0))

module _ {C₀ : Counts} {L₀ : Links} {at r : ℕ → ℕ} (K : Chain C₀ L₀ at r) {p : ℕ → Point} (S : Seen C₀ at p C₀.vertices)
    (Y : Straight C₀ at p) {C : Counts} {L : Links} {l f : ℕ} (X : Fan C₀ L₀ at r p C L 0 C₀.edges l f) where
  abbrev E : ℕ
  E = C₀.edges

  abbrev w : ℕ
  w = C₀.vertices

  not_new : {i : ℕ} → i ≤ E → at i ≢ w
  not_new m e = let k = K.placed m in omega arith

  -- a boundary half-edge by the place that it comes from
  By : ℕ → ℕ → Type 0
  By y zero = y ≡ l
  By y (suc i) = y ≡ rev (r (suc i))

  from_place : {y : ℕ} (j : ℕ) → j ≤ E → In C y → L.face y ≡ 0 → L.origin y ≡ at j → By y j
  unfolding By
  from_place {y} j m h z o = go (X.was h z)
    where
      first : (j : ℕ) → j ≤ E → L.origin l ≡ at j → y ≡ l → By y j
      first zero m e q = q
      first (suc j) m e q = absurd (let k = K.once {i = 0} {j = suc j} (omega arith) m (sym X.origin-l ∙ e) in omega arith)

      back : (i j : ℕ) → i < E → j ≤ E → L.origin y ≡ at j → y ≡ rev (r (suc i)) → By y j
      back i j u m o q = on j (K.once m u (sym o ∙ ap L.origin q ∙ X.ends (in-rev K {i = suc i} (omega arith)) ∙ K.to {i = suc i} u))
        where
          on : (j : ℕ) → j ≡ suc i → By y j
          on zero e = absurd (omega arith)
          on (suc j) e = q ∙ ap (λ (n : ℕ). rev (r n)) (sym e)

      old : {x : ℕ} → In C₀ x → y ≡ x → By y j
      old = by_kind K (λ x. y ≡ x → By y j)
          (λ i u q. absurd (let c = X.covered {i = i} (omega arith) u in let k : L.face (r (suc i)) ≡ 0 = ap L.face (sym q) ∙ z in omega arith))
          (λ i u q. back i j u m o q)

      go : (y ≡ l) ⊎ (y ≡ f) ⊎ In C₀ y → By y j
      go (inl q) = first j m (ap L.origin (sym q) ∙ o) q
      go (inr (inl q)) = absurd (not_new m (sym o ∙ ap L.origin q ∙ X.origin-f))
      go (inr (inr k)) = old k refl

  -- the corner of the reverse of r (i + 1), and of r (i + 1) read back
  back-corner : (i : ℕ) → i < E → let e = rev (r (suc i)) in
      orient2d (p (at (suc i))) (p (at i)) (p (L.origin (L.next (L.next e)))) ≤ℤ pos 0
  unfolding By
  back-corner i u = go i u (from_place i (omega arith) in-y face-y origin-y)
    where
      e : ℕ
      e = rev (r (suc i))

      in_e : In C e
      in_e = let k = in-rev K {i = suc i} (omega arith) in let a = X.edges in omega arith

      in-y : In C (L.next e)
      in-y = X.rules.ranges.next< in_e

      face-y : L.face (L.next e) ≡ 0
      face-y = X.rules.links.face-next in_e ∙ X.beneath u

      origin-y : L.origin (L.next e) ≡ at i
      origin-y = X.rules.links.origin-next in_e ∙ ap L.origin (rev-rev (r (suc i))) ∙ X.ends (in-r K {i = suc i} (omega arith)) ∙ K.from {i = i} (omega arith)

      to-y : L.origin (L.next (L.next e)) ≡ to L (L.next e)
      to-y = X.rules.links.origin-next in-y

      go : (i' : ℕ) → i' < E → By (L.next e) i'
          → orient2d (p (at (suc i'))) (p (at i')) (p (L.origin (L.next (L.next e)))) ≤ℤ pos 0
      go zero v q = rw (to-y ∙ ap (to L) q ∙ X.to-l) (right_of (p (at 0)) (p (at 1)) (p w) (S.left v))
      go (suc j) v q =
          let t : L.origin (L.next (L.next e)) ≡ at j = to-y ∙ ap (to L) q ∙ ap L.origin (rev-rev (r (suc j)))
          ∙ X.ends (in-r K {i = suc j} (omega arith)) ∙ K.from {i = j} (omega arith) in
          rw t (straight-back (p (at j)) (p (at (suc j))) (p (at (suc (suc j)))) (Y.flat v))

  -- the corners at the new vertex, and at the end of the line after it
  pub fan-corners : NoLeftCorner C L p
  fan-corners = record { corner = λ {e} h z. go e h z (X.was h z) }
    where
      after : (e : ℕ) → L.next e ≡ r (suc E) → (n : ℕ) → E ≡ suc n → L.origin e ≡ w → at_corners orient2d L p e ≤ℤ pos 0
      after e q n k o =
          let c = q ∙ K.high ∙ ap (λ (m : ℕ). rev (r m)) k in
          let a : L.origin (L.next e) ≡ at (suc n) = ap L.origin c ∙ X.ends (in-rev K {i = suc n} (omega arith)) ∙ K.to {i = suc n} (omega arith) in
          let b = back-corner n (omega arith) in
          let d : L.next (L.next e) ≡ L.next (rev (r (suc n))) = ap L.next c in
          let t : L.origin (L.next (L.next e)) ≡ at n = ap L.origin d ∙ at_n n (omega arith) in
          rw (o, a, t) (subst (λ (x : ℤ). x ≤ℤ pos 0) (sym (orient2d-next (p w) (p (at (suc n))) (p (at n))))
          (right_of (p (at n)) (p (at (suc n))) (p w) (S.left (omega arith))))
        where
          at_n : (n : ℕ) → n < E → L.origin (L.next (rev (r (suc n)))) ≡ at n
          at_n n u = X.rules.links.origin-next (let k = in-rev K {i = suc n} (omega arith) in let a = X.edges in omega arith)
              ∙ ap L.origin (rev-rev (r (suc n))) ∙ X.ends (in-r K {i = suc n} (omega arith)) ∙ K.from {i = n} (omega arith)

      some : (n : ℕ) → 0 < n → (m : ℕ) × (n ≡ suc m)
      some zero u = absurd (omega arith)
      some (suc m) u = (m, refl)

      old : {x : ℕ} → In C₀ x → L.face x ≡ 0 → at_corners orient2d L p x ≤ℤ pos 0
      old = by_kind K (λ x. L.face x ≡ 0 → at_corners orient2d L p x ≤ℤ pos 0)
          (λ i u z. absurd (let c = X.covered {i = i} (omega arith) u in omega arith))
          (λ i u z.
          let in_e : In C (rev (r (suc i))) = (let k = in-rev K {i = suc i} (omega arith) in let a = X.edges in omega arith) in
          let a : L.origin (rev (r (suc i))) ≡ at (suc i) = X.ends (in-rev K {i = suc i} (omega arith)) ∙ K.to {i = suc i} u in
          let b : L.origin (L.next (rev (r (suc i)))) ≡ at i = X.rules.links.origin-next in_e ∙ ap L.origin (rev-rev (r (suc i)))
          ∙ X.ends (in-r K {i = suc i} (omega arith)) ∙ K.from {i = i} (omega arith) in
          rw (a, b) (back-corner i u))

      go : (e : ℕ) → In C e → L.face e ≡ 0 → (e ≡ l) ⊎ (e ≡ f) ⊎ In C₀ e → at_corners orient2d L p e ≤ℤ pos 0
      go e h z (inl q) =
          let a : L.origin e ≡ at 0 = ap L.origin q ∙ X.origin-l in
          let n : L.next e ≡ f = ap L.next q ∙ X.next-l in
          let b : L.origin (L.next e) ≡ w = ap L.origin n ∙ X.origin-f in
          let c : L.origin (L.next (L.next e)) ≡ at E = ap (λ (x : ℕ). L.origin (L.next x)) n ∙ ap L.origin X.next-f
          ∙ X.ends (in-r K {i = suc E} (omega arith)) ∙ K.from {i = E} (omega arith) in
          rw (a, b, c) (subst (λ (x : ℤ). x ≤ℤ pos 0) (orient2d-next (p (at E)) (p (at 0)) (p w)) (right_of (p (at 0)) (p (at E)) (p w) S.whole))
      go e h z (inr (inl q)) = let k = some E K.some in after e (ap L.next q ∙ X.next-f) k.0 k.1 (ap L.origin q ∙ X.origin-f)
      go e h z (inr (inr k)) = old k z
