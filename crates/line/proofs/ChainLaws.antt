-- What follows from a chain: which of its half-edges differ, their prevs, and the chain read from its other end. Assumes
-- nothing.
use Rattle.std.specs.Prelude.{◌≡◌, refl, ◌≢◌, ◌⊎◌, ℕ, zero, suc, ◌+◌, ◌-◌, ◌*◌, ◌<◌, ◌≤◌}
use Rattle.std.proofs.Common.{sym, ◌∙◌, ap, inl, inr, arith}
use Rattle.std.proofs.Math.Decide.{ℕ_discrete}
use Rattle.mesh.specs.declared.Counts.{Counts}
use Rattle.mesh.specs.Mesh.{Links, In}
use Rattle.sums.specs.Half.{rev}
use Rattle.sums.proofs.HalfLaws.{rev-rev, rev-below, rev-inj}
use Rattle.line.specs.Chain.{Chain}

module _ {C : Counts} {L : Links} {at r : ℕ → ℕ} (K : Chain C L at r) where
  -- also at the two ends
  pub in-r : {i : ℕ} → i ≤ suc C.edges → In C (r i)
  in-r {i} l = go i l (ℕ_discrete i (suc C.edges))
    where
      go : (i : ℕ) → i ≤ suc C.edges → Dec (i ≡ suc C.edges) → In C (r i)
      go zero l d = rw K.low (rev-below C.edges (K.used (omega arith) (let k = K.some in omega arith)))
      go (suc i) l (yes e) = rw (e, K.high) (rev-below C.edges (K.used K.some (omega arith)))
      go (suc i) l (no n) = K.used (omega arith) (omega arith)

  pub in-rev : {i : ℕ} → i ≤ suc C.edges → In C (rev (r i))
  in-rev l = rev-below C.edges (in-r l)

  -- ---- half-edges that lead to different vertices, or come from different ones, differ
  pub same_ahead : {i j : ℕ} → i ≤ C.edges → j ≤ C.edges → r i ≡ r j → i ≡ j
  same_ahead l m e = K.once l m (let a = K.to l in let b = K.to m in cc)

  pub same_back : {i j : ℕ} → i ≤ C.edges → j ≤ C.edges → rev (r (suc i)) ≡ rev (r (suc j)) → i ≡ j
  same_back l m e = K.once l m (let a = K.from l in let b = K.from m in let c = rev-inj _ _ e in cc)

  pub same-across : {i j : ℕ} → i ≤ C.edges → j ≤ C.edges → r i ≡ rev (r (suc j)) → i ≡ j
  same-across {i} {j} l m e = K.once l m (let a = K.to l in let b = K.from m in let c = rev-rev (r (suc j)) in cc)

  -- ---- prevs
  pub prev-r : {i : ℕ} → i ≤ C.edges → L.prev (r (suc i)) ≡ r i
  prev-r {i} l = let a = K.next l in let b = K.prev-next (in-r {i = i} (omega arith)) in cc

  pub prev-back : {i : ℕ} → i ≤ C.edges → L.prev (rev (r i)) ≡ rev (r (suc i))
  prev-back {i} l = let a = K.back l in let b = K.prev-next (in-rev {i = suc i} (omega arith)) in cc

  -- ---- a half-edge by the vertex that it comes from
  pub by-origin : {i e : ℕ} → i ≤ C.edges → In C e → L.origin e ≡ at i → (e ≡ r (suc i)) ⊎ (e ≡ rev (r i))
  by-origin {i} {e} l h q = go (K.all h)
    where
      go : (j : ℕ) × (0 < j) × (j ≤ C.edges) × ((e ≡ r j) ⊎ (e ≡ rev (r j))) → (e ≡ r (suc i)) ⊎ (e ≡ rev (r i))
      go (zero, u, m, s) = absurd (omega arith)
      go (suc j, u, m, inl s) = inl (let d = K.once {i = j} {j = i} (omega arith) l (let a = K.from {i = j} (omega arith) in cc) in cc)
      go (suc j, u, m, inr s) = inr (let d = K.once m l (let a = K.to m in cc) in cc)

  -- the end of the chain has one out edge
  pub end-out : {e : ℕ} → In C e → L.origin e ≡ at C.edges → e ≡ rev (r C.edges)
  end-out {e} h q = go (by-origin (omega arith) h q)
    where
      go : (e ≡ r (suc C.edges)) ⊎ (e ≡ rev (r C.edges)) → e ≡ rev (r C.edges)
      go (inl s) = s ∙ K.high
      go (inr s) = s

  -- ---- from the other end
  abbrev pub back_at : ℕ → ℕ
  back_at i = at (C.edges - i)

  abbrev pub back_r : ℕ → ℕ
  back_r i = rev (r (suc C.edges - i))

  less : (n i : ℕ) → i ≤ n → suc n - i ≡ suc (n - i)
  less n i l = omega arith

  less-suc : (n i : ℕ) → suc n - suc i ≡ n - i
  less-suc n i = omega arith

  none : (n : ℕ) → n - 0 ≡ n
  none n = omega arith

  self : (n : ℕ) → n - n ≡ 0
  self n = omega arith

  twice : (n i : ℕ) → i ≤ n → n - (n - i) ≡ i
  twice n i l = omega arith

  pub reversed : Chain C L back_at back_r
  reversed = record {
    some = K.some;
    vertices = K.vertices;
    faces = K.faces;
    low = let a = none (suc C.edges) in let b = less-suc C.edges 0 in let c = none C.edges in let d = K.high in cc;
    high = let a = self (suc C.edges) in let b = less C.edges C.edges (omega arith) in let c = self C.edges in
        let d = K.low in let f = rev-rev (r 1) in cc;
    used = λ {i} u l. in-rev (omega arith);
    next = λ {i} l. let a = less C.edges i l in let b = less-suc C.edges i in let c = K.back {i = C.edges - i} (omega arith) in cc;
    back = λ {i} l. let a = less C.edges i l in let b = less-suc C.edges i in let c = K.next {i = C.edges - i} (omega arith) in
        let d = rev-rev (r (C.edges - i)) in let f = rev-rev (r (suc (C.edges - i))) in cc;
    from = λ {i} l. let b = less-suc C.edges i in let c = K.to {i = C.edges - i} (omega arith) in cc;
    to = λ {i} l. let a = less C.edges i l in let c = K.from {i = C.edges - i} (omega arith) in let f = rev-rev (r (suc (C.edges - i))) in cc;
    prev-next = K.prev-next;
    all = λ {e} h. turned (K.all h);
    placed = λ l. K.placed (omega arith);
    once = λ {i} {j} l m e. let q = K.once {i = C.edges - i} {j = C.edges - j} (omega arith) (omega arith) e in omega arith;
    every = λ {v} l. let k = K.every l in let m = k.1 in (C.edges - k.0, omega arith, ap at (twice C.edges k.0 m) ∙ k.2);
    outer = K.outer;
    stored = K.stored;
    out< = K.out<;
    based = K.based;
  }
    where
      turned : {e : ℕ} → (i : ℕ) × (0 < i) × (i ≤ C.edges) × ((e ≡ r i) ⊎ (e ≡ rev (r i)))
          → (i : ℕ) × (0 < i) × (i ≤ C.edges) × ((e ≡ back_r i) ⊎ (e ≡ rev (back_r i)))
      turned {e} (i, u, l, s) = let a = twice (suc C.edges) i (omega arith) in
          (suc C.edges - i, omega arith, omega arith, go a s)
        where
          go : suc C.edges - (suc C.edges - i) ≡ i → (e ≡ r i) ⊎ (e ≡ rev (r i))
              → (e ≡ back_r (suc C.edges - i)) ⊎ (e ≡ rev (back_r (suc C.edges - i)))
          go a (inl q) = inr (let f = rev-rev (r i) in cc)
          go a (inr q) = inl (cc)
