-- Laws of specs/Split.antt.
use Rattle.std.specs.Prelude.{◌≡◌, refl, ◌≢◌, ◌⊎◌, List, [], ◌∷◌, ℕ, zero, suc, ◌+◌, ◌*◌, ◌<◌, ◌≤◌, eqb}
use Rattle.std.proofs.Common.{sym, ◌∙◌, ap, subst, inl, inr, add-one, arith, eq-eqb, ne_eqb}
use Rattle.std.proofs.Math.Decide.{ℕ_discrete, dec_lt}
use Rattle.mesh.specs.declared.Counts.{Counts}
use Rattle.mesh.specs.Mesh.{Links, In}
use Rattle.mesh.specs.Cases.{over}
use Rattle.sums.proofs.Cases.{All, None}
use Rattle.sums.specs.Half.{rev}
use Rattle.sums.proofs.HalfLaws.{rev-rev}
use Rattle.sums.specs.Put.{put}
use Rattle.sums.proofs.PutLaws.{put_same, put_other}
use Rattle.line.specs.Operations.{split_at_of, split_edge_when_all_vertices_on_line, with_line_vertex}
use Rattle.line.specs.Chain.{Chain}
use Rattle.line.proofs.ChainLaws.{in-r, in-rev, same_ahead, same_back, same-across, prev-r, prev-back}
use Rattle.line.specs.Insert.{insert_at, Spot, below, here, above}
use Rattle.line.proofs.InsertLaws.{insert-below, insert-here, insert-above, spot}
use Rattle.line.specs.Splits.{Splits}
use Rattle.line.proofs.SplitsLaws.{splits-end, splits-inner}
use Rattle.line.specs.Split.{split_r}

module _ {C : Counts} {L L' : Links} {at r : ℕ → ℕ} {j y a b : ℕ} (K : Chain C L at r) (j< : j < C.edges)
    (F : Splits C L L' (rev (r (suc j))) (r (suc j)) y a b)
    (y-old : 0 < j → y ≡ r j) (y-new : j ≡ 0 → y ≡ a) where
  abbrev E : ℕ
  E = C.edges

  abbrev at' : ℕ → ℕ
  at' = insert_at at (suc j) C.vertices

  abbrev r' : ℕ → ℕ
  r' = split_r r j b

  at_old : {i : ℕ} → i ≤ j → at' i ≡ at i
  at_old {i} l = insert-below at (suc j) C.vertices (omega arith)

  at_new : at' (suc j) ≡ C.vertices
  at_new = insert-here at (suc j) C.vertices refl

  at_up : {i : ℕ} → suc j ≤ i → at' (suc i) ≡ at i
  at_up l = insert-above at (suc j) C.vertices l

  r-pos : (i : ℕ) → r' (suc i) ≡ insert_at r (suc j) b (suc i)
  r-pos i = put_other (insert_at r (suc j) b) 0 (rev (insert_at r (suc j) b 1)) (suc i) (omega arith)

  r-zero : r' 0 ≡ rev (r' 1)
  r-zero = put_same (insert_at r (suc j) b) 0 (rev (insert_at r (suc j) b 1)) ∙ ap rev (sym (r-pos 0))

  r-old : {i : ℕ} → i ≤ j → 0 < j → r' i ≡ r i
  r-old {i} l p = go i l
    where
      go : (i : ℕ) → i ≤ j → r' i ≡ r i
      go zero l = let q = r-zero in let s = r-pos 0 in let u = insert-below r (suc j) b {i = 1} (omega arith) in let v = K.low in cc
      go (suc i) l = r-pos i ∙ insert-below r (suc j) b (omega arith)

  r-new : r' (suc j) ≡ b
  r-new = r-pos j ∙ insert-here r (suc j) b refl

  r-up : {i : ℕ} → suc j ≤ i → r' (suc i) ≡ r i
  r-up {i} l = r-pos i ∙ insert-above r (suc j) b l

  r-y : r' j ≡ y
  r-y = go (dec_lt 0 j)
    where
      go : Dec (0 < j) → r' j ≡ y
      go (yes p) = r-old {i = j} (omega arith) p ∙ sym (y-old p)
      go (no n) = let q : j ≡ 0 = omega arith in let u = y-new q in let s = r-zero in let v = r-new in let w = F.rev-b in cc

  old : {x : ℕ} → In C x → (x ≢ a) × (x ≢ b)
  old h = (omega (arith, F.a-is), omega (arith, F.b-is))

  not-y : {x : ℕ} → In C x → (0 < j → x ≢ r j) → x ≢ y
  not-y {x} h n e = go (dec_lt 0 j)
    where
      go : Dec (0 < j) → ⊥
      go (yes p) = n p (e ∙ y-old p)
      go (no m) = (old h).0 (e ∙ y-new (omega arith))

  next-old : {x : ℕ} → In C x → x ≢ rev (r (suc j)) → (0 < j → x ≢ r j) → L'.next x ≡ L.next x
  next-old h n m = F.next-rest n (not-y h m) (old h).0 (old h).1

  origin-old : {x : ℕ} → In C x → x ≢ r (suc j) → L'.origin x ≡ L.origin x
  origin-old h n = F.origin-rest n (old h).0 (old h).1

  -- a statement of every number up to E + 1: below j, at j, at j + 1, and after
  parts : (P : ℕ → Type 0) → ((i : ℕ) → i < j → P i) → P j → P (suc j) → ((i : ℕ) → suc j ≤ i → i ≤ E → P (suc i))
      → {i : ℕ} → i ≤ E + 1 → P i
  parts P f p q g {i} l = go (spot j i) l
    where
      go : {i : ℕ} → Spot j i → i ≤ E + 1 → P i
      go (below m) l = f _ m
      go (here e) l = subst P (sym e) p
      go (above {i = i} m) l = on (ℕ_discrete i j)
        where
          on : Dec (i ≡ j) → P (suc i)
          on (yes e) = subst (λ (z : ℕ). P (suc z)) (sym e) q
          on (no n) = g i (omega arith) (omega arith)

  each-half : (P : ℕ → Type 0) (l : List ℕ) → P a → P b → All P l → ((x : ℕ) → In C x → None x l → P x)
      → {x : ℕ} → In (with_line_vertex C) x → P x
  each-half P l pa pb d f h = over P (2 * E) (2 * (E + 1)) (a ∷ b ∷ []) l
      (λ x h k. let u = k.0 in let v = k.1.0 in let q = F.a-is in let s = F.b-is in omega arith) (pa, (pb, tt)) d f h

  each-vertex : (P : ℕ → Type 0) → P C.vertices → ((v : ℕ) → v < C.vertices → P v) → {v : ℕ} → v < C.vertices + 1 → P v
  each-vertex P p f {v} l = go (ℕ_discrete v C.vertices)
    where
      go : Dec (v ≡ C.vertices) → P v
      go (yes e) = subst P (sym e) p
      go (no n) = f v (omega arith)

  abbrev t : ℕ
  t = r (suc j)

  in-t : In C t
  in-t = in-r K {i = suc j} (omega arith)

  at_j : L.origin t ≡ at j
  at_j = K.from {i = j} (omega arith)

  rev-t : {x : ℕ} → rev x ≡ t → x ≡ rev t
  rev-t {x} e = sym (rev-rev x) ∙ ap rev e

  -- what came before t, and before the reverse of y
  before-t : {x : ℕ} → In C x → L.next x ≡ t → x ≡ r j
  before-t {x} h e = let p = K.prev-next h in let q = prev-r K {i = j} (omega arith) in cc

  before-y : {x : ℕ} → In C x → In C (L.next x) → L.next x ≡ rev y → x ≡ rev t
  before-y {x} h k e = go (dec_lt 0 j)
    where
      go : Dec (0 < j) → x ≡ rev t
      go (yes p) = let u = y-old p in let v = prev-back K {i = j} (omega arith) in let w = K.prev-next h in cc
      go (no n) = let u = y-new (omega arith) in let w = F.rev-a in absurd ((old k).1 (cc))

  next-in : {x : ℕ} → In C x → In C (L.next x)
  next-in {x} h = go (K.all h)
    where
      go : (i : ℕ) × (0 < i) × (i ≤ E) × ((x ≡ r i) ⊎ (x ≡ rev (r i))) → In C (L.next x)
      go (i, u, l, inl q) = rw (q, K.next l) (in-r K {i = suc i} (omega arith))
      go (zero, u, l, inr q) = absurd (omega arith)
      go (suc i, u, l, inr q) = rw (q, K.back {i = i} (omega arith)) (in-rev K {i = i} (omega arith))

  -- an old half-edge has its place, or the one after it
  older : {x : ℕ} → (i : ℕ) × (0 < i) × (i ≤ E) × ((x ≡ r i) ⊎ (x ≡ rev (r i)))
      → (i : ℕ) × (0 < i) × (i ≤ E + 1) × ((x ≡ r' i) ⊎ (x ≡ rev (r' i)))
  older {x} (i, u, l, s) = go (dec_lt j i)
    where
      on : (k : ℕ) → r' k ≡ r i → (x ≡ r i) ⊎ (x ≡ rev (r i)) → (x ≡ r' k) ⊎ (x ≡ rev (r' k))
      on k q (inl e) = inl (cc)
      on k q (inr e) = inr (cc)

      go : Dec (j < i) → (i : ℕ) × (0 < i) × (i ≤ E + 1) × ((x ≡ r' i) ⊎ (x ≡ rev (r' i)))
      go (yes m) = (suc i, omega arith, omega arith, on (suc i) (r-up m) s)
      go (no m) = (i, u, omega arith, on i (r-old {i = i} (omega arith) (omega arith)) s)

  again : {v : ℕ} → (i : ℕ) × (i ≤ E) × (at i ≡ v) → (i : ℕ) × (i ≤ E + 1) × (at' i ≡ v)
  again {v} (i, l, q) = go (dec_lt j i)
    where
      go : Dec (j < i) → (i : ℕ) × (i ≤ E + 1) × (at' i ≡ v)
      go (yes m) = (suc i, omega arith, at_up m ∙ q)
      go (no m) = (i, omega arith, at_old {i = i} (omega arith) ∙ q)

  -- the place that a vertex had
  abbrev Was : ℕ → Type 0
  Was i = ((i ≡ suc j) × (at' i ≡ C.vertices))
      ⊎ ((k : ℕ) × (k ≤ E) × (at' i ≡ at k) × (((k ≤ j) × (i ≡ k)) ⊎ ((suc j ≤ k) × (i ≡ suc k))))

  was : {i : ℕ} → Spot (suc j) i → i ≤ E + 1 → Was i
  was (below {i = i} m) l = inr (i, omega arith, at_old (omega arith), inl (omega arith, refl))
  was (here e) l = inl (e, ap at' e ∙ at_new)
  was (above {i = i} m) l = inr (i, omega arith, at_up m, inr (m, refl))

  once' : {i k : ℕ} → i ≤ E + 1 → k ≤ E + 1 → at' i ≡ at' k → i ≡ k
  once' {i} {k} l m e = go (was (spot (suc j) i) l) (was (spot (suc j) k) m)
    where
      on : {x z : ℕ} → x ≡ z → ((x ≤ j) × (i ≡ x)) ⊎ ((suc j ≤ x) × (i ≡ suc x)) → ((z ≤ j) × (k ≡ z)) ⊎ ((suc j ≤ z) × (k ≡ suc z)) → i ≡ k
      on q (inl (u, v)) (inl (w, s)) = v ∙ q ∙ sym s
      on q (inl (u, v)) (inr (w, s)) = absurd (omega arith)
      on q (inr (u, v)) (inl (w, s)) = absurd (omega arith)
      on q (inr (u, v)) (inr (w, s)) = v ∙ ap suc q ∙ sym s

      go : Was i → Was k → i ≡ k
      go (inl u) (inl w) = u.0 ∙ sym w.0
      go (inl u) (inr (z, n, q, s)) = let d : at z ≡ C.vertices = (let f = u.1 in cc) in absurd (let p = K.placed n in omega arith)
      go (inr (z, n, q, s)) (inl u) = let d : at z ≡ C.vertices = (let f = u.1 in cc) in absurd (let p = K.placed n in omega arith)
      go (inr (x, n, q, s)) (inr (z, n', q', s')) = on (K.once n n' (let f = e in cc)) s s'

  pub split-keeps : Chain (with_line_vertex C) L' at' r'
  split-keeps = let ry = r-y in let rn = r-new in let an = at_new in let aj = at_j in let q = add-one E in record {
    some = omega arith;
    vertices = let k = K.vertices in omega arith;
    faces = K.faces;
    low = r-zero;
    high = let u = r-up {i = suc E} (omega arith) in let v = r-up {i = E} j< in let w = K.high in cc;
    used = λ {i} u l. parts (λ i. 0 < i → In (with_line_vertex C) (r' i))
        (λ i m u. rw (r-old {i = i} (omega arith) (omega arith)) (let h = in-r K {i = i} (omega arith) in omega arith))
        (λ u. rw (r-old {i = j} (omega arith) u) (let h = in-r K {i = j} (omega arith) in omega arith))
        (λ u. rw rn (let k = F.b-is in omega arith))
        (λ i m l u. rw (r-up m) (let h = in-r K {i = i} (omega arith) in omega arith)) l u;
    next = parts (λ i. L'.next (r' i) ≡ r' (suc i))
        (λ i m. let p : 0 < j = omega arith in let k = K.next {i = i} (omega arith) in let u = r-old {i = i} (omega arith) p in let v = r-old {i = suc i} m p in
        let w = next-old (in-r K {i = i} (omega arith)) (λ e. let z = same-across K {i = i} {j = j} (omega arith) (omega arith) e in omega arith)
        (λ p e. let z = same_ahead K {i = i} {j = j} (omega arith) (omega arith) e in omega arith) in cc)
        (cc F.next-y) (let u = r-up {i = suc j} (omega arith) in cc F.next-b)
        (λ i m l. let k = K.next {i = i} l in let u = r-up m in let v = r-up {i = suc i} (omega arith) in
        let w = next-old (in-r K {i = i} (omega arith)) (λ e. let z = same-across K {i = i} {j = j} (omega arith) (omega arith) e in omega arith)
        (λ p e. let z = same_ahead K {i = i} {j = j} (omega arith) (omega arith) e in omega arith) in cc);
    back = parts (λ i. L'.next (rev (r' (suc i))) ≡ rev (r' i))
        (λ i m. let p : 0 < j = omega arith in let k = K.back {i = i} (omega arith) in let u = r-old {i = i} (omega arith) p in let v = r-old {i = suc i} m p in
        let w = next-old (in-rev K {i = suc i} (omega arith)) (λ e. let z = same_back K {i = i} {j = j} (omega arith) (omega arith) e in omega arith)
        (λ p e. let z = same-across K {i = j} {j = i} (omega arith) (omega arith) (sym e) in omega arith) in cc)
        (cc (F.rev-b, F.next-a)) (let u = r-up {i = suc j} (omega arith) in cc (F.next-e, F.rev-b))
        (λ i m l. let k = K.back {i = i} l in let u = r-up m in let v = r-up {i = suc i} (omega arith) in
        let w = next-old (in-rev K {i = suc i} (omega arith)) (λ e. let z = same_back K {i = i} {j = j} (omega arith) (omega arith) e in omega arith)
        (λ p e. let z = same-across K {i = j} {j = i} (omega arith) (omega arith) (sym e) in omega arith) in cc);
    from = parts (λ i. L'.origin (r' (suc i)) ≡ at' i)
        (λ i m. let p : 0 < j = omega arith in let k = K.from {i = i} (omega arith) in let v = r-old {i = suc i} m p in let u = at_old {i = i} (omega arith) in
        let w = origin-old (in-r K {i = suc i} (omega arith)) (λ e. let z = same_back K {i = i} {j = j} (omega arith) (omega arith) (ap rev e) in omega arith) in cc)
        (let u = at_old {i = j} (omega arith) in cc F.origin-b) (let u = r-up {i = suc j} (omega arith) in cc F.origin-t)
        (λ i m l. let k = K.from {i = i} l in let v = r-up {i = suc i} (omega arith) in let u = at_up m in
        let w = origin-old (in-r K {i = suc i} (omega arith)) (λ e. let z = same_back K {i = i} {j = j} (omega arith) (omega arith) (ap rev e) in omega arith) in cc);
    to = parts (λ i. L'.origin (rev (r' i)) ≡ at' i)
        (λ i m. let p : 0 < j = omega arith in let k = K.to {i = i} (omega arith) in let v = r-old {i = i} (omega arith) p in let u = at_old {i = i} (omega arith) in
        let w = origin-old (in-rev K {i = i} (omega arith)) (λ e. let z = same-across K {i = i} {j = j} (omega arith) (omega arith) (rev-t e) in omega arith) in cc)
        (let u = at_old {i = j} (omega arith) in cc F.origin-y) (cc (F.rev-b, F.origin-a))
        (λ i m l. let k = K.to {i = i} l in let v = r-up m in let u = at_up m in
        let w = origin-old (in-rev K {i = i} (omega arith)) (λ e. let z = same-across K {i = i} {j = j} (omega arith) (omega arith) (rev-t e) in omega arith) in cc);
    prev-next = each-half (λ x. L'.prev (L'.next x) ≡ x) (rev t ∷ y ∷ []) (cc (F.next-a, F.prev-y)) (cc (F.next-b, F.prev-t))
        (cc (F.next-e, F.prev-a), (cc (F.next-y, F.prev-b), tt))
        (λ x h n. let m = next-in h in let w = F.next-rest {x = x} n.0 n.1.0 (old h).0 (old h).1 in let k = K.prev-next h in
        let z = F.prev-rest {x = L.next x} (λ e. after x h n (before-t h e)) (λ e. n.0 (before-y h m e)) (old m).0 (old m).1 in cc);
    all = each-half (λ x. (i : ℕ) × (0 < i) × (i ≤ E + 1) × ((x ≡ r' i) ⊎ (x ≡ rev (r' i)))) []
        (suc j, omega arith, omega arith, inr (cc F.rev-b)) (suc j, omega arith, omega arith, inl (cc)) tt (λ x h n. older (K.all h));
    placed = parts (λ i. at' i < C.vertices + 1)
        (λ i m. rw (at_old {i = i} (omega arith)) (let k = K.placed {i = i} (omega arith) in omega arith))
        (rw (at_old {i = j} (omega arith)) (let k = K.placed {i = j} (omega arith) in omega arith)) (rw an (omega arith))
        (λ i m l. rw (at_up m) (let k = K.placed l in omega arith));
    once = once';
    every = each-vertex (λ v. (i : ℕ) × (i ≤ E + 1) × (at' i ≡ v)) (suc j, omega arith, an) (λ v l. again (K.every l));
    outer = let o = K.outer (in-rev K {i = suc j} (omega arith)) in each-half (λ x. L'.face x ≡ 0) [] (F.face-a ∙ o) (F.face-b ∙ o) tt
        (λ x h n. F.face-rest (old h).0 (old h).1 ∙ K.outer h);
    stored = ap (λ (f : ℕ → ℕ). f 0) F.adjacent ∙ K.stored;
    out< = each-vertex (λ v. In (with_line_vertex C) (L'.out v)) (rw F.out-new (let k = F.a-is in omega arith)) (λ v l. out-in v l (ℕ_discrete v (L.origin t)));
    based = each-vertex (λ v. L'.origin (L'.out v) ≡ v) (cc (F.out-new, F.origin-a)) (λ v l. out_at v l (ℕ_discrete v (L.origin t)));
  }
    where
      after : (x : ℕ) → In C x → None x (rev t ∷ y ∷ []) → x ≡ r j → ⊥
      after x h n e = go (dec_lt 0 j)
        where
          go : Dec (0 < j) → ⊥
          go (yes p) = n.1.0 (e ∙ sym (y-old p))
          go (no m) = let q : j ≡ 0 = omega arith in let k = K.low in n.0 (cc)

      out-in : (v : ℕ) → v < C.vertices → Dec (v ≡ L.origin t) → In (with_line_vertex C) (L'.out v)
      out-in v l (yes e) = rw (e, F.out-to) (let k = F.b-is in omega arith)
      out-in v l (no n) = rw (F.out-rest n (omega arith)) (let k = K.out< l in omega arith)

      out_at : (v : ℕ) → v < C.vertices → Dec (v ≡ L.origin t) → L'.origin (L'.out v) ≡ v
      out_at v l (yes e) = cc (F.out-to, F.origin-b)
      out_at v l (no n) = let k = F.out-rest n (omega arith) in let b = K.based l in
          let m = origin-old (K.out< l) (λ e. n (cc)) in cc

-- THE LINE GROWS BETWEEN TWO NEIGHBOURS: at the half-edge from the place j + 1 to the place j
pub split-chain : {C : Counts} {L : Links} {at r : ℕ → ℕ} {j : ℕ} → Chain C L at r → j < C.edges
    → Chain (with_line_vertex C) (split_edge_when_all_vertices_on_line L C (rev (r (suc j))))
    (insert_at at (suc j) C.vertices) (split_r r j (2 * C.edges + 1))
unfolding split_edge_when_all_vertices_on_line
split-chain {C} {L} {at} {r} {j} K l = rw (rev-rev (r (suc j)), n-is, q-is) (go (ℕ_discrete j 0))
  where
    n-is : L.next (rev (r (suc j))) ≡ rev (r j)
    n-is = K.back {i = j} (omega arith)

    q-is : L.prev (r (suc j)) ≡ r j
    q-is = prev-r K {i = j} (omega arith)

    w : L.origin (r (suc j)) < C.vertices
    w = rw (K.from {i = j} (omega arith)) (K.placed {i = j} (omega arith))

    apart : 0 < j → rev (r j) ≢ r (suc j)
    apart p e = on j p l e
      where
        on : (j : ℕ) → 0 < j → j < C.edges → rev (r j) ≡ r (suc j) → ⊥
        on zero p l e = omega arith
        on (suc i) p l e =
            let a = K.from {i = i} (omega arith) in let b = K.to {i = suc (suc i)} (omega arith) in
            let c = rev-rev (r (suc i)) in
            let z = K.once {i = i} {j = suc (suc i)} (omega arith) (omega arith) (cc) in omega arith

    go : Dec (j ≡ 0)
        → Chain (with_line_vertex C) (split_at_of (eqb (rev (r j)) (r (suc j))) L C (rev (r (suc j))) (r (suc j)) (rev (r j)) (r j))
        (insert_at at (suc j) C.vertices) (split_r r j (2 * C.edges + 1))
    go (yes e) = rw (eq-eqb (rev (r j)) (r (suc j)) (let a = K.low in let b = rev-rev (r 1) in cc))
        (split-keeps K l (splits-end C L (in-rev K {i = suc j} (omega arith)) (in-r K {i = suc j} (omega arith)) w (rev (r j)) (r j))
        (λ p. absurd (omega arith)) (λ _. refl))
    go (no n) = let p : 0 < j = omega arith in rw (ne_eqb (rev (r j)) (r (suc j)) (apart p))
        (split-keeps K l (splits-inner C L (in-rev K {i = suc j} (omega arith)) (in-r K {i = suc j} (omega arith)) w (in-r K {i = j} (omega arith))
        (λ e. apart p (let c = rev-rev (r (suc j)) in let d = rev-rev (r j) in cc)) (apart p)
        (K.to {i = j} (omega arith) ∙ sym (K.from {i = j} (omega arith))))
        (λ _. refl) (λ e. absurd (n e)))
