-- Laws of specs/Extend.antt.
use Rattle.std.specs.Prelude.{◌≡◌, refl, ◌≢◌, ◌⊎◌, List, [], ◌∷◌, ℕ, zero, suc, ◌+◌, ◌-◌, ◌*◌, ◌<◌, ◌≤◌}
use Rattle.std.proofs.Common.{sym, ◌∙◌, ap, ap₂, subst, inl, inr, add-one, arith}
use Rattle.std.proofs.Math.Decide.{ℕ_discrete, dec_lt}
use Rattle.mesh.specs.declared.Counts.{Counts}
use Rattle.mesh.specs.Mesh.{Links, In}
use Rattle.mesh.specs.Cases.{Differ, over}
use Rattle.mesh.proofs.CasesLaws.{differ}
use Rattle.sums.proofs.Cases.{All, None, each}
use Rattle.sums.specs.Half.{rev}
use Rattle.sums.proofs.HalfLaws.{rev-rev, rev-ne, rev-below, rev-even, rev-odd}
use Rattle.sums.specs.Put.{put}
use Rattle.sums.proofs.PutLaws.{put_same, put_other, stores}
use Rattle.line.specs.Operations.{extend_at, extend_line, with_line_vertex}
use Rattle.line.specs.Chain.{Chain}
use Rattle.line.proofs.ChainLaws.{in-r, in-rev, same_ahead, same-across, end-out}
use Rattle.line.specs.Extend.{Extends}

-- a statement of every number up to n + 1: below n, at n, and after it
pub up-to-suc : (P : ℕ → Type 0) (n : ℕ) → ((i : ℕ) → i < n → P i) → P n → P (suc n) → {i : ℕ} → i ≤ n + 1 → P i
up-to-suc P n f p q {i} l = go (dec_lt i n) (ℕ_discrete i n)
  where
    go : Dec (i < n) → Dec (i ≡ n) → P i
    go (yes m) d = f i m
    go (no m) (yes e) = subst P (sym e) p
    go (no m) (no k) = let e : suc n ≡ i = omega arith in subst P e q

pub extends : (C : Counts) (L : Links) (end : ℕ) {o i : ℕ} → In C o → In C i
    → Extends C L (extend_at L C end o i) end o i (2 * C.edges) (2 * C.edges + 1)
unfolding extend_at
extends C L end {o} {i} h k =
    let a = 2 * C.edges in let b = 2 * C.edges + 1 in
    let ab : Differ a b = differ (omega arith) in
    let ao : Differ a o = differ (omega arith) in
    let bo : Differ b o = differ (omega arith) in
    let ai : Differ a i = differ (omega arith) in
    let bi : Differ b i = differ (omega arith) in
    record {
      a-is = refl;
      b-is = refl;
      rev-a = rev-even C.edges;
      rev-b = rev-odd C.edges;
      next-i = search stores;
      next-a = search stores;
      next-b = search stores;
      prev-o = search stores;
      prev-a = search stores;
      prev-b = search stores;
      face-a = search stores;
      face-b = search stores;
      origin-a = search stores;
      origin-b = search stores;
      out-new = search stores;
      next-rest = λ {x} k l m. search stores;
      prev-rest = λ {x} k l m. search stores;
      face-rest = λ {x} k l. search stores;
      origin-rest = λ {x} k l. search stores;
      out-rest = λ {v} k. search stores;
      adjacent = refl;
    }

module _ {C : Counts} {L L' : Links} {at r : ℕ → ℕ} {a b : ℕ} (K : Chain C L at r)
    (F : Extends C L L' (at C.edges) (rev (r C.edges)) (r C.edges) a b) where
  abbrev E : ℕ
  E = C.edges

  -- the new vertex and the half-edge that leads to it stand at the end
  abbrev pub longer_at : ℕ → ℕ
  longer_at = put at (suc E) C.vertices

  abbrev pub longer_r : ℕ → ℕ
  longer_r = put (put r (suc E) b) (suc (suc E)) a

  at_old : {i : ℕ} → i ≤ E → longer_at i ≡ at i
  at_old {i} l = put_other at (suc E) C.vertices i (omega arith)

  at_new : longer_at (suc E) ≡ C.vertices
  at_new = put_same at (suc E) C.vertices

  r-old : {i : ℕ} → i ≤ E → longer_r i ≡ r i
  r-old {i} l = let k : i ≢ suc E = omega arith in let m : i ≢ suc (suc E) = omega arith in search stores

  r-new : longer_r (suc E) ≡ b
  r-new = let m : suc E ≢ suc (suc E) = omega arith in search stores

  r_last : longer_r (suc (suc E)) ≡ a
  r_last = search stores

  old : {x : ℕ} → In C x → (x ≢ a) × (x ≢ b)
  old h = (omega arith, omega arith)

  next-old : {x : ℕ} → In C x → x ≢ r E → L'.next x ≡ L.next x
  next-old h n = F.next-rest n (old h).0 (old h).1

  origin-old : {x : ℕ} → In C x → L'.origin x ≡ L.origin x
  origin-old h = F.origin-rest (old h).0 (old h).1

  -- a statement of every half-edge
  each-half : (P : ℕ → Type 0) (l : List ℕ) → P a → P b → All P l → ((x : ℕ) → In C x → None x l → P x)
      → {x : ℕ} → In (with_line_vertex C) x → P x
  each-half P l pa pb d f h = over P (2 * E) (2 * (E + 1)) (a ∷ b ∷ []) l
      (λ x h k. let u = k.0 in let v = k.1.0 in let q = F.a-is in let s = F.b-is in omega arith) (pa, (pb, tt)) d f h

  -- a statement of every vertex
  each-vertex : (P : ℕ → Type 0) → P C.vertices → ((v : ℕ) → v < C.vertices → P v) → {v : ℕ} → v < C.vertices + 1 → P v
  each-vertex P p f {v} l = go (ℕ_discrete v C.vertices)
    where
      go : Dec (v ≡ C.vertices) → P v
      go (yes e) = subst P (sym e) p
      go (no n) = f v (omega arith)

  pub longer : Chain (with_line_vertex C) L' longer_at longer_r
  longer = let q = add-one E in let rn = r-new in let rl = r_last in let an = at_new in let ro = r-old {i = E} (omega arith) in
      let ao = at_old {i = E} (omega arith) in record {
        some = omega arith;
        vertices = let k = K.vertices in omega arith;
        faces = K.faces;
        low = let s = K.some in let k = r-old {i = 0} (omega arith) in let m = r-old {i = 1} s in let z = K.low in cc;
        high = cc F.rev-b;
        used = λ {i} u l. up-to-suc (λ i. 0 < i → In (with_line_vertex C) (longer_r i)) E
            (λ i m u. rw (r-old {i = i} (omega arith)) (let h = K.used {i = i} u (omega arith) in omega arith))
            (λ u. rw ro (let h = K.used {i = E} u (omega arith) in omega arith)) (λ u. rw rn (let k = F.b-is in omega arith)) l u;
        next = λ {i} l. up-to-suc (λ i. L'.next (longer_r i) ≡ longer_r (suc i)) E
            (λ i m. let k = K.next {i = i} (omega arith) in let u = r-old {i = i} (omega arith) in let v = r-old {i = suc i} m in
            let w = next-old (in-r K {i = i} (omega arith)) (λ e. let z = same_ahead K {i = i} {j = E} (omega arith) (omega arith) e in omega arith) in cc)
            (cc F.next-i) (cc F.next-b) l;
        back = λ {i} l. up-to-suc (λ i. L'.next (rev (longer_r (suc i))) ≡ rev (longer_r i)) E
            (λ i m. let k = K.back {i = i} (omega arith) in let u = r-old {i = i} (omega arith) in let v = r-old {i = suc i} m in
            let w = next-old (in-rev K {i = suc i} (omega arith)) (λ e. let z = same-across K {i = E} {j = i} (omega arith) (omega arith) (sym e) in omega arith) in cc)
            (cc (F.rev-b, F.next-a)) (cc (F.rev-a, F.rev-b, F.next-b)) l;
        from = λ {i} l. up-to-suc (λ i. L'.origin (longer_r (suc i)) ≡ longer_at i) E
            (λ i m. let k = K.from {i = i} (omega arith) in let v = r-old {i = suc i} m in let u = at_old {i = i} (omega arith) in
            let w = origin-old (in-r K {i = suc i} (omega arith)) in cc)
            (cc F.origin-b) (cc F.origin-a) l;
        to = λ {i} l. up-to-suc (λ i. L'.origin (rev (longer_r i)) ≡ longer_at i) E
            (λ i m. let k = K.to {i = i} (omega arith) in let v = r-old {i = i} (omega arith) in let u = at_old {i = i} (omega arith) in
            let w = origin-old (in-rev K {i = i} (omega arith)) in cc)
            (let k = K.to {i = E} (omega arith) in let w = origin-old (in-rev K {i = E} (omega arith)) in cc) (cc (F.rev-b, F.origin-a)) l;
        prev-next = each-half (λ x. L'.prev (L'.next x) ≡ x) (r E ∷ []) (cc (F.next-a, F.prev-o)) (cc (F.next-b, F.prev-a)) (cc (F.next-i, F.prev-b), tt)
            (λ x h n. let w = next-old h n.0 in let k = K.prev-next h in let m = next-in h in
            let z = F.prev-rest {x = L.next x} (λ e. n.0 (let c = K.prev-next (in-r K {i = E} (omega arith)) in let d = K.next {i = E} (omega arith) in let f = K.high in cc))
            (old m).0 (old m).1 in cc);
        all = each-half (λ x. (i : ℕ) × (0 < i) × (i ≤ E + 1) × ((x ≡ longer_r i) ⊎ (x ≡ rev (longer_r i)))) []
            (suc E, omega arith, omega arith, inr (cc F.rev-b)) (suc E, omega arith, omega arith, inl (cc)) tt
            (λ x h n. older (K.all h));
        placed = λ {i} l. up-to-suc (λ i. longer_at i < C.vertices + 1) E
            (λ i m. rw (at_old {i = i} (omega arith)) (let k = K.placed {i = i} (omega arith) in omega arith))
            (rw ao (let k = K.placed {i = E} (omega arith) in omega arith)) (rw an (omega arith)) l;
        once = λ {i} {j} l m e. apart i j (dec_lt i (suc E)) (dec_lt j (suc E)) l m e;
        every = each-vertex (λ v. (i : ℕ) × (i ≤ E + 1) × (longer_at i ≡ v)) (suc E, omega arith, an)
            (λ v l. let k = K.every l in (k.0, (let m = k.1 in omega arith), at_old k.1 ∙ k.2));
        outer = let o = K.outer (in-rev K {i = E} (omega arith)) in each-half (λ x. L'.face x ≡ 0) [] (F.face-a ∙ o) (F.face-b ∙ o) tt
            (λ x h n. F.face-rest (old h).0 (old h).1 ∙ K.outer h);
        stored = ap (λ (f : ℕ → ℕ). f 0) F.adjacent ∙ K.stored;
        out< = each-vertex (λ v. In (with_line_vertex C) (L'.out v)) (rw F.out-new (let k = F.a-is in omega arith))
            (λ v l. rw (F.out-rest {v = v} (omega arith)) (let k = K.out< l in omega arith));
        based = each-vertex (λ v. L'.origin (L'.out v) ≡ v) (cc (F.out-new, F.origin-a))
            (λ v l. let k = F.out-rest {v = v} (omega arith) in let m = origin-old (K.out< l) in cc (K.based l));
      }
    where
      next-in : {x : ℕ} → In C x → In C (L.next x)
      next-in {x} h = go (K.all h)
        where
          go : (i : ℕ) × (0 < i) × (i ≤ E) × ((x ≡ r i) ⊎ (x ≡ rev (r i))) → In C (L.next x)
          go (i, u, l, inl q) = rw (q, K.next l) (in-r K {i = suc i} (omega arith))
          go (zero, u, l, inr q) = absurd (omega arith)
          go (suc i, u, l, inr q) = rw (q, K.back {i = i} (omega arith)) (in-rev K {i = i} (omega arith))

      older : {x : ℕ} → (i : ℕ) × (0 < i) × (i ≤ E) × ((x ≡ r i) ⊎ (x ≡ rev (r i)))
          → (i : ℕ) × (0 < i) × (i ≤ E + 1) × ((x ≡ longer_r i) ⊎ (x ≡ rev (longer_r i)))
      older {x} (i, u, l, s) = (i, u, omega arith, go s)
        where
          go : (x ≡ r i) ⊎ (x ≡ rev (r i)) → (x ≡ longer_r i) ⊎ (x ≡ rev (longer_r i))
          go (inl q) = let k = r-old l in inl (cc)
          go (inr q) = let k = r-old l in inr (cc)

      apart : (i j : ℕ) → Dec (i < suc E) → Dec (j < suc E) → i ≤ E + 1 → j ≤ E + 1 → longer_at i ≡ longer_at j → i ≡ j
      apart i j (yes u) (yes v) l m e = K.once {i = i} {j = j} (omega arith) (omega arith)
          (let a = at_old {i = i} (omega arith) in let b = at_old {i = j} (omega arith) in cc)
      apart i j (yes u) (no v) l m e = let q : j ≡ suc E = omega arith in let a = at_old {i = i} (omega arith) in let c = at_new in
          let d : at i ≡ C.vertices = cc in let k = K.placed {i = i} (omega arith) in absurd (omega arith)
      apart i j (no u) (yes v) l m e = let q : i ≡ suc E = omega arith in let a = at_old {i = j} (omega arith) in let c = at_new in
          let d : at j ≡ C.vertices = cc in let k = K.placed {i = j} (omega arith) in absurd (omega arith)
      apart i j (no u) (no v) l m e = omega arith

-- THE LINE GROWS AT AN END: at the last vertex of the chain
pub extend-chain : {C : Counts} {L : Links} {at r : ℕ → ℕ} → Chain C L at r
    → Chain (with_line_vertex C) (extend_line L C (at C.edges))
    (put at (suc C.edges) C.vertices) (put (put r (suc C.edges) (2 * C.edges + 1)) (suc (suc C.edges)) (2 * C.edges))
unfolding extend_line
extend-chain {C} {L} {at} {r} K =
    let l = K.placed {i = C.edges} (omega arith) in
    let q = end-out K (K.out< l) (K.based l) in
    rw (q, rev-rev (r C.edges)) (longer K (extends C L (at C.edges) (in-rev K {i = C.edges} (omega arith)) (in-r K {i = C.edges} (omega arith))))
