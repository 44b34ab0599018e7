-- The fan over a whole line is settled: no circle of a triangle strictly contains a neighbour's far vertex, since three
-- corners of the two triangles lie on the line. Assumes nothing.
use Rattle.std.specs.Prelude.{◌≡◌, refl, ◌≢◌, ◌⊎◌, ℤ, ◌<ℤ◌, ◌≤ℤ◌}
use Rattle.std.proofs.Common.{sym, ◌∙◌, subst, inl, inr, arith}
use Rattle.std.proofs.Math.Path.{ap}
use Prim.Native.Nat.{ℕ, zero, suc, ◌+◌, ◌*◌, ◌<◌, ◌≤◌}
use Rattle.std.proofs.Math.IntN.{pos}
use Rattle.math.specs.declared.Point.{Point}
use Rattle.math.specs.Determinant.{orient2d, incircle}
use Rattle.math.proofs.Plane.{incircle-next}
use Rattle.mesh.specs.declared.Counts.{Counts}
use Rattle.mesh.specs.Mesh.{Links, In, to}
use Rattle.mesh.specs.Wf.{Wf}
use Rattle.mesh.specs.Area.{circle_at}
use Rattle.mesh.specs.Circle.{Settled}
use Rattle.mesh.proofs.CircleLawsFacts.{settled-by}
use Rattle.mesh.proofs.HeightLawsFacts.{circle-rev}
use Rattle.mesh.specs.Triangle.{Triangle, triangle, same-face, rev-in}
use Rattle.sums.specs.Half.{rev}
use Rattle.sums.proofs.HalfLaws.{rev-rev}
use Rattle.line.specs.Chain.{Chain}
use Rattle.line.proofs.ChainLaws.{in-r, in-rev}
use Rattle.line.specs.Fan.{Fan, Seen}
use Rattle.line.proofs.FanWhole.{fan-wf}
use Rattle.line.specs.Straight.{Straight}
use Rattle.line.proofs.StraightLaws.{beyond-circle}

module _ {C₀ : Counts} {L₀ : Links} {at r : ℕ → ℕ} (K : Chain C₀ L₀ at r) {p : ℕ → Point} (S : Seen C₀ at p C₀.vertices)
    (Y : Straight C₀ at p) {C : Counts} {L : Links} {l f : ℕ} (X : Fan C₀ L₀ at r p C L 0 C₀.edges l f) where
  abbrev E : ℕ
  E = C₀.edges

  W : Wf C L
  W = fan-wf K X

  -- the triangle over the half-edge to the place i + 1
  record Over (i : ℕ) : Type 0 where
    below : i < E
    tri : Triangle C L (r (suc i)) (L.next (r (suc i))) (L.prev (r (suc i)))
    origin : L.origin (r (suc i)) ≡ at i
    end : to L (r (suc i)) ≡ at (suc i)
    tip : L.origin (L.prev (r (suc i))) ≡ C₀.vertices

  over-at : {i : ℕ} → i < E → Over i
  over-at {i} u = record {
    below = u;
    tri = triangle W (let k = in-r K {i = suc i} (omega arith) in let a = X.edges in omega arith) (X.covered {i = i} (omega arith) u);
    origin = X.ends (in-r K {i = suc i} (omega arith)) ∙ K.from {i = i} (omega arith);
    end = X.ends (in-rev K {i = suc i} (omega arith)) ∙ K.to {i = suc i} u;
    tip = X.apex {i = i} (omega arith) u;
  }

  -- a half-edge with a triangle on both sides leads to the new vertex or from it
  abbrev Kind : ℕ → Type 0
  Kind x = (i : ℕ) × Over i × ((x ≡ L.next (r (suc i))) ⊎ (x ≡ L.prev (r (suc i))))

  kind : {x : ℕ} → In C x → 0 < L.face x → 0 < L.face (rev x) → Kind x
  kind {x} h u v =
      let t = X.over (L.face x) u (W.ranges.face< h) in
      let O = over-at t.2 in
      (t.0, O, go t.0 t.2 (same-face W O.tri.in-a h (X.covered t.1 t.2) t.3))
    where
      go : (i : ℕ) → i < E → (x ≡ r (suc i)) ⊎ (x ≡ L.next (r (suc i))) ⊎ (x ≡ L.prev (r (suc i)))
          → (x ≡ L.next (r (suc i))) ⊎ (x ≡ L.prev (r (suc i)))
      go i m (inl q) = absurd (let z = X.beneath m in let y : L.face (rev x) ≡ 0 = ap (λ (e : ℕ). L.face (rev e)) q ∙ z in omega arith)
      go i m (inr s) = s

  not_new : {i : ℕ} → i ≤ E → at i ≢ C₀.vertices
  not_new m e = let k = K.placed m in omega arith

  -- to the new vertex: the triangle before it on the left, the one after it on the right
  inward : {x i j : ℕ} → Over i → Over j → x ≡ L.next (r (suc i)) → rev x ≡ L.prev (r (suc j)) → circle_at L p x ≤ℤ pos 0
  unfolding circle_at
  inward {x} {i} {j} U O q s =
      let a = U.tri in let b = O.tri in
      let uo = U.origin in let ue = U.end in let ut = U.tip in
      let oo = O.origin in let oe = O.end in let ot = O.tip in
      let rr = rev-rev x in
      let o : L.origin x ≡ at (suc i) = cc in
      let e : to L x ≡ C₀.vertices = cc in
      let g : L.origin (L.prev x) ≡ at i = cc in
      let d : L.origin (L.prev (rev x)) ≡ at (suc j) = cc in
      let y : at (suc i) ≡ at j = cc in
      let n : suc i ≡ j = K.once U.below (let k = O.below in omega arith) y in
      let m : suc i < E = (let k = O.below in omega arith) in
      let d' : L.origin (L.prev (rev x)) ≡ at (suc (suc i)) = d ∙ ap (λ (z : ℕ). at (suc z)) (sym n) in
      rw (o, e, g, d') (subst (λ (z : ℤ). z ≤ℤ pos 0) (incircle-next (p (at i)) (p (at (suc i))) (p C₀.vertices) (p (at (suc (suc i)))))
      (beyond-circle (p (at i)) (p (at (suc i))) (p C₀.vertices) (p (at (suc (suc i)))) (S.left U.below) (Y.flat m) (Y.on m)))

  pub fan-settled : Settled C L p
  fan-settled = settled-by (λ x h u v. go x (kind h u v) (kind (rev-in C h) v (subst (λ (e : ℕ). 0 < L.face e) (sym (rev-rev x)) u)))
    where
      go : (x : ℕ) → Kind x → Kind (rev x) → circle_at L p x ≤ℤ pos 0
      go x (i, U, inl q) (j, O, inr s) = inward U O q s
      go x (i, U, inr q) (j, O, inl s) = subst (λ (z : ℤ). z ≤ℤ pos 0) (circle-rev L p x) (inward O U s (rev-rev x ∙ q))
      go x (i, U, inl q) (j, O, inl s) = absurd (not_new O.below
          (let a = U.tri in let b = O.tri in let ut = U.tip in let oe = O.end in cc))
      go x (i, U, inr q) (j, O, inr s) = absurd (not_new {i = i} (let k = U.below in omega arith)
          (let a = U.tri in let b = O.tri in let uo = U.origin in let ot = O.tip in cc))
