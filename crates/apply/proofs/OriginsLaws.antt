-- Laws of specs/Origins.antt.
use Rattle.std.specs.Prelude.{◌⊎◌, ◌≡◌, refl, ℕ, zero, suc, ◌+◌, ◌<◌}
use Rattle.std.proofs.Common.{inl, inr, sym, ◌∙◌, ap, subst, arith}
use Rattle.corner.specs.Corner.{Extended}
use Rattle.math.specs.declared.Point.{Point}
use Rattle.mesh.specs.declared.Counts.{Counts}
use Rattle.mesh.specs.Mesh.{Links, In}
use Rattle.mesh.specs.Area.{boundary_length}
use Rattle.ring.specs.Ring.{edge_angle}
use Rattle.ring.proofs.Boundary.{outer-walk, outer-on}
use Rattle.ring.specs.Covered.{Covered}
use Rattle.ring.proofs.CoveredLaws.{covered-rest, covered-in}
use Rattle.ring.specs.CoveredEnds.{RestEnds}
use Rattle.sums.specs.Iterate.{iter}
use Rattle.apply.specs.Walks.{Before, Along}
use Rattle.apply.specs.Origins.{OldVertex}

module _ {C : Counts} {L : Links} {p₀ : ℕ → Point} {α₀ : ℕ → ℕ} {p : ℕ → Point} {α : ℕ → ℕ} {v : Point} {q e : ℕ}
    (B : Before C L p₀ α₀ p α v q e)
    {left right : ℕ} {m : Extended} {l r : ℕ} (A : Along C L α₀ p α q e left right m l r) where
  -- the edges that are not covered are the boundary's before
  rest_in : (k : ℕ)
      → In C (iter k L.next (iter (suc right) L.next e))
      × (L.face (iter k L.next (iter (suc right) L.next e)) ≡ 0)
  rest_in k = let b = outer-walk B.good.wf B.edge B.outer (suc right) in outer-walk B.good.wf b.0 b.1 k

  -- the edge to the new vertex starts where the last of them ends
  start-old : (n : ℕ) → 0 < n
      → Covered L.next (edge_angle L α₀) m.counts m.links α (iter left L.prev e) (left + 1 + right) n l r
      q (iter (suc right) L.next e)
      → RestEnds L m.links n (iter (suc right) L.next e) → OldVertex C L (m.links.origin l)
  start-old zero h K E = absurd (omega arith)
  start-old (suc n) h K E =
      let x = iter n L.next (iter (suc right) L.next e) in
      let i = rest_in n in
      record {
        edge = L.next x;
        in_use = B.good.wf.ranges.next< i.0;
        outer = B.good.wf.links.face-next i.0 ∙ i.1;
        is = ap m.links.origin (sym (K.spliced.last n refl)) ∙ A.good.wf.links.origin-next (covered-in A.good.wf K n (omega arith))
            ∙ (E.at n (omega arith)).end ∙ sym (B.good.wf.links.origin-next i.0);
      }

  pub along-origin : {d : ℕ} → In m.counts d → m.links.face d ≡ 0
      → (m.links.origin d ≡ C.vertices) ⊎ OldVertex C L (m.links.origin d)
  along-origin {d} i o = let g = outer-on A.good.wf A.covered.in_use A.covered.outer i o in go g.0 g.1 g.2
    where
      go : (k : ℕ) → k < boundary_length m.counts m.links → iter k m.links.next l ≡ d
          → (m.links.origin d ≡ C.vertices) ⊎ OldVertex C L (m.links.origin d)
      go zero h z = inr (subst (λ (x : ℕ). OldVertex C L (m.links.origin x)) z (start-old A.rest A.covered.spliced.more A.covered A.ends))
      go (suc zero) h z = inl (ap m.links.origin (sym z ∙ A.covered.spliced.l-p) ∙ A.from)
      go (suc (suc k)) h z =
          let u : k < A.rest = (let x = A.covered.length in omega arith) in
          let j = rest_in k in
          inr (record {
            edge = iter k L.next (iter (suc right) L.next e);
            in_use = j.0;
            outer = j.1;
            is = ap m.links.origin (sym z ∙ covered-rest A.good.wf A.covered k u) ∙ (A.ends.at k u).origin;
          })
