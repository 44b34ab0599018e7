-- The fan over a whole line is a good mesh. Assumes nothing.
use Rattle.std.specs.Prelude.{◌≡◌, refl, ◌≢◌, ◌⊎◌, ℕ, suc, ◌+◌, ◌<◌, ℤ, pos, ◌<ℤ◌}
use Rattle.std.proofs.Common.{sym, ◌∙◌, ap, subst, inl, inr, arith}
use Rattle.math.specs.declared.Point.{Point}
use Rattle.math.specs.Determinant.{orient2d, InRange}
use Rattle.mesh.specs.declared.Counts.{Counts}
use Rattle.mesh.specs.Mesh.{Links, In}
use Rattle.mesh.specs.LinkRules.{Wide, Sided}
use Rattle.mesh.proofs.LinkRulesWfLaws.{wf-of-links}
use Rattle.mesh.specs.Wf.{Wf}
use Rattle.mesh.proofs.AreaCorners.{corners-at}
use Rattle.mesh.specs.Good.{Good}
use Rattle.sums.specs.Half.{rev}
use Rattle.sums.proofs.HalfLaws.{rev-rev}
use Rattle.sums.proofs.IterateLaws.{Reach, reach-keeps}
use Rattle.line.specs.Chain.{Chain}
use Rattle.line.proofs.ChainLaws.{in-rev}
use Rattle.line.proofs.ChainRules.{by_kind}
use Rattle.line.specs.Fan.{Fan}
use Rattle.line.proofs.FanLaws.{fresh, still}

module _ {C₀ : Counts} {L₀ : Links} {at r : ℕ → ℕ} (K : Chain C₀ L₀ at r) {p : ℕ → Point} {C : Counts} {L : Links} {l f : ℕ}
    (X : Fan C₀ L₀ at r p C L 0 C₀.edges l f) where
  -- a cycle of two meets nothing else
  two : {x : ℕ} → L.next (L.next x) ≡ x → {y : ℕ} → Reach L.next x y → (y ≡ x) ⊎ (y ≡ L.next x)
  two {x} e = reach-keeps (λ y. (y ≡ x) ⊎ (y ≡ L.next x)) (λ z s. go z s) (inl refl)
    where
      go : (z : ℕ) → (z ≡ x) ⊎ (z ≡ L.next x) → (L.next z ≡ x) ⊎ (L.next z ≡ L.next x)
      go z (inl q) = inr (ap L.next q)
      go z (inr q) = inl (ap L.next q ∙ e)

  -- three cannot be two
  three : {x y a b c : ℕ} → a ≢ b → b ≢ c → a ≢ c → (a ≡ x) ⊎ (a ≡ y) → (b ≡ x) ⊎ (b ≡ y) → (c ≡ x) ⊎ (c ≡ y) → ⊥
  three u v w (inl s) (inl t) k = u (s ∙ sym t)
  three u v w (inr s) (inr t) k = u (s ∙ sym t)
  three u v w (inl s) (inr t) (inl k) = w (s ∙ sym k)
  three u v w (inl s) (inr t) (inr k) = v (t ∙ sym k)
  three u v w (inr s) (inl t) (inl k) = v (t ∙ sym k)
  three u v w (inr s) (inl t) (inr k) = w (s ∙ sym k)

  wide : Wide C L
  wide x h z e = three X.apart (λ q. fresh k X.new-f (sym q)) (λ q. fresh k X.new-l (sym q))
      (met X.in-l X.outer-l) (met X.in_f X.outer-f) (met (still X k) (X.beneath X.some))
    where
      k : In C₀ (rev (r 1))
      k = in-rev K {i = 1} (let s = X.some in omega arith)

      met : {y : ℕ} → In C y → L.face y ≡ 0 → (y ≡ x) ⊎ (y ≡ L.next x)
      met m o = two e (X.rules.faces.outer h m z o)

  side : Sided C L
  side x h z = go (X.was h z)
    where
      old : {e : ℕ} → In C₀ e → L.face e ≡ 0 → 0 < L.face (rev e)
      old = by_kind K (λ e. L.face e ≡ 0 → 0 < L.face (rev e))
          (λ i m z. absurd (let c = X.covered {i = i} (omega arith) m in omega arith))
          (λ i m z. rw (rev-rev (r (suc i))) (X.covered {i = i} (omega arith) m))

      go : (x ≡ l) ⊎ (x ≡ f) ⊎ In C₀ x → 0 < L.face (rev x)
      go (inl q) = rw q X.inner-l
      go (inr (inl q)) = rw q X.inner-f
      go (inr (inr m)) = old m z

  pub fan-wf : Wf C L
  fan-wf = wf-of-links X.rules wide side

  -- THE FAN OVER THE WHOLE LINE IS A GOOD MESH
  pub fan-good : ((v : ℕ) → v < C₀.vertices + 1 → InRange (p v)) → Good C L p
  fan-good range = record {
    wf = fan-wf;
    turning = record {
      left = λ {f = g} u m. let t = X.turned g u m in
          subst (λ (z : ℤ). pos 0 <ℤ z) (sym (corners-at fan-wf orient2d p u m t.3)) t.4;
    };
    range = λ {v} m. range v (let q = X.vertices in omega arith);
  }
