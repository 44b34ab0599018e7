-- A chain keeps the links' rules: all the mesh rules but the two that a line breaks. Assumes nothing.
use Rattle.std.specs.Prelude.{◌≡◌, refl, ◌≢◌, ◌⊎◌, ℕ, zero, suc, ◌+◌, ◌-◌, ◌<◌, ◌≤◌}
use Rattle.std.proofs.Common.{sym, ◌∙◌, ap, inl, inr, arith}
use Rattle.mesh.specs.declared.Counts.{Counts}
use Rattle.mesh.specs.Mesh.{Links, In, turn}
use Rattle.mesh.specs.LinkRules.{LinkRules, FaceCycles}
use Rattle.mesh.specs.Wf.{Ranges, Linked}
use Rattle.mesh.proofs.WfPartsLaws.{next-inverse}
use Rattle.sums.specs.Half.{rev}
use Rattle.sums.proofs.HalfLaws.{rev-rev}
use Rattle.sums.proofs.IterateLaws.{Reach, reach-at, reach-one, reach-then, reach-trans, reach-sym}
use Rattle.line.specs.Chain.{Chain}
use Rattle.line.proofs.ChainLaws.{in-r, in-rev, prev-r, prev-back, by-origin}

module _ {C : Counts} {L : Links} {at r : ℕ → ℕ} (K : Chain C L at r) where
  abbrev E : ℕ
  E = C.edges

  -- a statement of every half-edge
  pub by_kind : (P : ℕ → Type 0) → ((i : ℕ) → i < E → P (r (suc i))) → ((i : ℕ) → i < E → P (rev (r (suc i)))) → {e : ℕ} → In C e → P e
  by_kind P f g {e} h = go (K.all h)
    where
      go : (i : ℕ) × (0 < i) × (i ≤ E) × ((e ≡ r i) ⊎ (e ≡ rev (r i))) → P e
      go (zero, u, l, s) = absurd (omega arith)
      go (suc i, u, l, inl q) = rw q (f i l)
      go (suc i, u, l, inr q) = rw q (g i l)

  ranges : Ranges C L
  ranges = record {
    next< = by_kind (λ e. In C (L.next e)) (λ i l. rw (K.next {i = suc i} l) (in-r K {i = suc (suc i)} (omega arith)))
        (λ i l. rw (K.back {i = i} (omega arith)) (in-rev K {i = i} (omega arith)));
    prev< = by_kind (λ e. In C (L.prev e)) (λ i l. rw (prev-r K {i = i} (omega arith)) (in-r K {i = i} (omega arith)))
        (λ i l. rw (prev-back K {i = suc i} l) (in-rev K {i = suc (suc i)} (omega arith)));
    face< = λ h. let k = K.outer h in let m = K.faces in omega arith;
    origin< = by_kind (λ e. L.origin e < C.vertices) (λ i l. rw (K.from {i = i} (omega arith)) (K.placed {i = i} (omega arith)))
        (λ i l. rw (K.to {i = suc i} l) (K.placed {i = suc i} l));
    adjacent< = λ {f} l. let q : f ≡ 0 = (let m = K.faces in omega arith) in rw (q, K.stored) (let s = K.some in omega arith);
    out< = K.out<;
  }

  links : Linked C L
  links = record {
    prev-next = K.prev-next;
    next-prev = by_kind (λ e. L.next (L.prev e) ≡ e) (λ i l. let a = prev-r K {i = i} (omega arith) in let b = K.next {i = i} (omega arith) in cc)
        (λ i l. let a = prev-back K {i = suc i} l in let b = K.back {i = suc i} l in cc);
    face-next = λ h. K.outer (ranges.next< h) ∙ sym (K.outer h);
    origin-next = by_kind (λ e. L.origin (L.next e) ≡ L.origin (rev e))
        (λ i l. let a = K.next {i = suc i} l in let b = K.from {i = suc i} l in let c = K.to {i = suc i} l in cc)
        (λ i l. let a = K.back {i = i} (omega arith) in let b = K.to {i = i} (omega arith) in let c = K.from {i = i} (omega arith) in
        let d = rev-rev (r (suc i)) in cc);
  }

  -- ---- the cycle: from the first half-edge up to the end and back
  up : (i : ℕ) → i ≤ E → Reach L.next (r 1) (r (suc i))
  up zero l = reach-at refl
  up (suc i) l = let a = reach-then (up i (omega arith)) in rw (K.next {i = suc i} l) at a

  down : (k i : ℕ) → i + k ≡ E → Reach L.next (r 1) (rev (r i))
  down zero i e = let q : i ≡ E = omega arith in rw (q, ← K.high) (up E (omega arith))
  down (suc k) i e = let a = reach-then (down k (suc i) (omega arith)) in rw (K.back {i = i} (omega arith)) at a

  from_first : {e : ℕ} → In C e → Reach L.next (r 1) e
  from_first = by_kind (λ e. Reach L.next (r 1) e) (λ i l. up i (omega arith)) (λ i l. down (E - suc i) (suc i) (omega arith))

  faces : FaceCycles C L
  faces = record {
    stored = λ {f} l. let q : f ≡ 0 = (let m = K.faces in omega arith) in
        rw q (K.outer (ranges.adjacent< (let m = K.faces in omega arith)));
    three = λ h p. let k = K.outer h in absurd (omega arith);
    apart = λ {e} h q. by_kind (λ e. L.origin (L.next e) ≢ L.origin e)
        (λ i l q. let a = K.next {i = suc i} l in let b = K.from {i = suc i} l in let c = K.from {i = i} (omega arith) in
        let z = K.once {i = suc i} {j = i} l (omega arith) (cc) in omega arith)
        (λ i l q. let a = K.back {i = i} (omega arith) in let b = K.to {i = i} (omega arith) in let c = K.to {i = suc i} l in
        let z = K.once {i = i} {j = suc i} (omega arith) l (cc) in omega arith) h (ap L.origin q);
    inner = λ h p. let k = K.outer h in absurd (omega arith);
    outer = λ {d} {e} h k p q. reach-trans (reach-sym (next-inverse C L ranges links) (in-r K {i = 1} (omega arith)) (from_first h)) (from_first k);
  }

  -- ---- about a vertex: two half-edges, or one at an end
  round : (d e : ℕ) → In C d → In C e → L.origin d ≡ L.origin e → Reach (turn L) d e
  round d e h k q = go (K.every (ranges.origin< h))
    where
      on : (i : ℕ) → i ≤ E → (d ≡ r (suc i)) ⊎ (d ≡ rev (r i)) → (e ≡ r (suc i)) ⊎ (e ≡ rev (r i)) → Reach (turn L) d e
      on i l (inl s) (inl t) = reach-at (cc)
      on i l (inl s) (inr t) = reach-one (let a = prev-r K l in cc)
      on i l (inr s) (inl t) = reach-one (let a = prev-back K l in let b = rev-rev (r (suc i)) in cc)
      on i l (inr s) (inr t) = reach-at (cc)

      go : (i : ℕ) × (i ≤ E) × (at i ≡ L.origin d) → Reach (turn L) d e
      go (i, l, s) = on i l (by-origin K l h (sym s)) (by-origin K l k (sym (s ∙ q)))

  pub chain-rules : LinkRules C L
  chain-rules = record {
    ranges = ranges;
    links = links;
    faces = faces;
    about = record { based = K.based; round = λ {d} {e} h k q. round d e h k q };
    euler = let a = K.vertices in let b = K.faces in omega arith;
    some = let b = K.faces in omega arith;
  }
