-- Laws of specs/LineLaws.antt.
use Rattle.std.specs.Prelude.{◌≡◌, refl, ◌≢◌, ◌⊎◌, ℕ, zero, suc, ◌+◌, ◌-◌, ◌*◌, ◌<◌, ◌≤◌, T, ℤ, pos, neg_ℤ, ◌<ℤ◌}
use Rattle.std.proofs.Common.{sym, ◌∙◌, ap, subst, ⊎_elim, inl, inr, arith}
use Rattle.std.proofs.Math.Decide.{ℕ_discrete, dec_lt}
use Rattle.std.specs.Int.Signed.{<ℤ-≤ℤ_trans}
use Rattle.algebra.proofs.Order.{lt-le}
use Rattle.math.specs.declared.Point.{Point}
use Rattle.math.specs.Determinant.{orient2d, InRange}
use Rattle.math.proofs.Plane.{orient2d-swap, orient2d-aba, orient2d-abb}
use Rattle.mesh.specs.declared.Counts.{Counts}
use Rattle.mesh.specs.Mesh.{Links, In, to}
use Rattle.skipped.specs.Insert.{insert_outside}
use Rattle.sums.proofs.Cases.{each}
use Rattle.sums.specs.Half.{rev}
use Rattle.sums.proofs.HalfLaws.{rev-rev}
use Rattle.sums.specs.Put.{put}
use Rattle.sums.proofs.PutLaws.{put_same, put_other, stores}
use Rattle.line.specs.Operations.{setup_initial_two_vertices, extend_line, split_edge_when_all_vertices_on_line, with_line_vertex, two_vertices}
use Rattle.line.specs.Chain.{Chain}
use Rattle.line.proofs.ChainLaws.{in-r, in-rev, reversed, back_at, back_r}
use Rattle.line.proofs.ExtendLaws.{extend-chain, up-to-suc}
use Rattle.line.specs.Split.{split_r}
use Rattle.line.proofs.SplitLaws.{split-chain}
use Rattle.line.specs.Insert.{insert_at, Spot, below, here, above}
use Rattle.line.proofs.InsertLaws.{insert-below, insert-here, insert-above, spot}
use Rattle.line.specs.Order.{comes_before, key}
use Rattle.line.proofs.OrderLaws.{before-key, same-side, other-side, three-flat}
use Rattle.line.specs.Line.{Line}
use Rattle.line.specs.Fan.{Seen}
use Rattle.line.specs.OffLine.{OffLine}
use Rattle.line.proofs.OffLineLaws.{off-line}
use Rattle.line.specs.Straight.{Straight}
use Rattle.line.proofs.StraightLaws.{beyond-up, beyond-down}
use Rattle.line.specs.LineLaws.{Facing, two_r}

-- the point q is on the line of half-edge 0, as the search asks
abbrev pub OnTheLine : Links → (ℕ → Point) → Point → Type 0
OnTheLine L p q = orient2d (p (L.origin 0)) (p (to L 0)) q ≡ pos 0

pub two-chain : (L : Links) → Chain two_vertices (setup_initial_two_vertices L 0 1) (λ i. i) two_r
unfolding setup_initial_two_vertices rev put
two-chain L = record {
  some = omega arith;
  vertices = refl;
  faces = refl;
  low = refl;
  high = refl;
  used = λ {i} u l. pair (λ i. In two_vertices (two_r i)) (omega arith) (omega arith) i l;
  next = λ {i} l. pair (λ i. L₂.next (two_r i) ≡ two_r (suc i)) refl refl i l;
  back = λ {i} l. pair (λ i. L₂.next (rev (two_r (suc i))) ≡ rev (two_r i)) refl refl i l;
  from = λ {i} l. pair (λ i. L₂.origin (two_r (suc i)) ≡ i) refl refl i l;
  to = λ {i} l. pair (λ i. L₂.origin (rev (two_r i)) ≡ i) refl refl i l;
  prev-next = λ {e} l. pair (λ e. L₂.prev (L₂.next e) ≡ e) refl refl e (omega arith);
  all = λ {e} l. pair (λ e. (i : ℕ) × (0 < i) × (i ≤ 1) × ((e ≡ two_r i) ⊎ (e ≡ rev (two_r i))))
      (1, omega arith, omega arith, inl refl) (1, omega arith, omega arith, inr refl) e (omega arith);
  placed = λ l. omega arith;
  once = λ l m e. e;
  every = λ {v} l. (v, omega arith, refl);
  outer = λ {e} l. pair (λ e. L₂.face e ≡ 0) refl refl e (omega arith);
  stored = refl;
  out< = λ {v} l. pair (λ v. In two_vertices (L₂.out v)) (omega arith) (omega arith) v (omega arith);
  based = λ {v} l. pair (λ v. L₂.origin (L₂.out v) ≡ v) refl refl v (omega arith);
}
  where
    L₂ : Links
    L₂ = setup_initial_two_vertices L 0 1

    pair : (P : ℕ → Type 0) → P 0 → P 1 → (i : ℕ) → i ≤ 1 → P i
    pair P a b zero l = a
    pair P a b (suc zero) l = b
    pair P a b (suc (suc i)) l = absurd (omega arith)

-- THE FIRST TWO POINTS ARE A LINE, in whichever order they come
module _ (L : Links) (p : ℕ → Point) (r₀ : InRange (p 0)) (r₁ : InRange (p 1)) where
  below_two : (P : ℕ → Type 0) → P 0 → P 1 → {i : ℕ} → i < 2 → P i
  below_two P a b {i} l = go i l
    where
      go : (i : ℕ) → i < 2 → P i
      go zero l = a
      go (suc zero) l = b
      go (suc (suc i)) l = absurd (omega arith)

  two-flat : key (p 0) <ℤ key (p 1) ⊎ key (p 1) <ℤ key (p 0) → {u v w : ℕ} → u < 2 → v < 2 → w < 2 → orient2d (p u) (p v) (p w) ≡ pos 0
  two-flat (inl k) a b c = three-flat (p 0) (p 1) _ _ _ k (on a) (on b) (on c)
    where
      on : {v : ℕ} → v < 2 → orient2d (p 0) (p 1) (p v) ≡ pos 0
      on = below_two (λ v. orient2d (p 0) (p 1) (p v) ≡ pos 0) (orient2d-aba (p 0) (p 1)) (orient2d-abb (p 0) (p 1))
  two-flat (inr k) a b c = three-flat (p 1) (p 0) _ _ _ k (on a) (on b) (on c)
    where
      on : {v : ℕ} → v < 2 → orient2d (p 1) (p 0) (p v) ≡ pos 0
      on = below_two (λ v. orient2d (p 1) (p 0) (p v) ≡ pos 0) (orient2d-abb (p 1) (p 0)) (orient2d-aba (p 1) (p 0))

  pub two-line : T (comes_before (p 0) (p 1)) ⊎ T (comes_before (p 1) (p 0)) → Line two_vertices (setup_initial_two_vertices L 0 1) p
  two-line (inl t) = record {
    at = λ i. i;
    r = two_r;
    chain = two-chain L;
    rising = λ {i} l. let q : i ≡ 0 = omega arith in rw q t;
    flat = two-flat (inl (before-key (p 0) (p 1) r₀ r₁ t));
    range = below_two (λ v. InRange (p v)) r₀ r₁;
  }
  two-line (inr t) = record {
    at = back_at (two-chain L);
    r = back_r (two-chain L);
    chain = reversed (two-chain L);
    rising = λ {i} l. let q : i ≡ 0 = omega arith in rw q t;
    flat = two-flat (inr (before-key (p 1) (p 0) r₁ r₀ t));
    range = below_two (λ v. InRange (p v)) r₀ r₁;
  }

-- ---- a line and a point
module _ {C : Counts} {L : Links} {p : ℕ → Point} (X : Line C L p) where
  abbrev E : ℕ
  E = C.edges

  abbrev K : Chain C L X.at X.r
  K = X.chain

  in-range : {i : ℕ} → i ≤ E → InRange (p (X.at i))
  in-range l = X.range (K.placed l)

  key-next : {i : ℕ} → i < E → key (p (X.at i)) <ℤ key (p (X.at (suc i)))
  key-next {i} l = before-key _ _ (in-range {i = i} (omega arith)) (in-range {i = suc i} l) (X.rising l)

  -- the vertices in their order, also far apart
  pub key-rises : (k i : ℕ) → i + suc k ≤ E → key (p (X.at i)) <ℤ key (p (X.at (i + suc k)))
  key-rises zero i l = let q : suc i ≡ i + 1 = omega arith in subst (λ (j : ℕ). key (p (X.at i)) <ℤ key (p (X.at j))) q (key-next (omega arith))
  key-rises (suc k) i l =
      let q : suc i + suc k ≡ i + suc (suc k) = omega arith in
      subst (λ (j : ℕ). key (p (X.at i)) <ℤ key (p (X.at j))) q (<ℤ-≤ℤ_trans (key-next {i = i} (omega arith)) (lt-le (key-rises k (suc i) (omega arith))))

  pub key_apart : {i j : ℕ} → i < j → j ≤ E → key (p (X.at i)) <ℤ key (p (X.at j))
  key_apart {i} {j} l m = let q : i + suc (j - suc i) ≡ j = omega arith in
      subst (λ (n : ℕ). key (p (X.at i)) <ℤ key (p (X.at n))) q (key-rises (j - suc i) i (omega arith))

  -- a point on the line of half-edge 0 is on a line with any two vertices
  on-first : (q : Point) → OnTheLine L p q → orient2d (p (X.at 0)) (p (X.at 1)) q ≡ pos 0
  on-first q o = go (K.all (let s = K.some in omega arith))
    where
      s : 0 < E
      s = K.some

      by : {i : ℕ} → i < E → orient2d (p (X.at i)) (p (X.at (suc i))) q ≡ pos 0 → orient2d (p (X.at 0)) (p (X.at 1)) q ≡ pos 0
      by {i} l h = three-flat (p (X.at i)) (p (X.at (suc i))) _ _ q (key-next l) (X.flat (K.placed {i = i} (omega arith)) (K.placed {i = suc i} l) (K.placed {i = 0} (omega arith)))
          (X.flat (K.placed {i = i} (omega arith)) (K.placed {i = suc i} l) (K.placed {i = 1} s)) h

      go : (i : ℕ) × (0 < i) × (i ≤ E) × ((0 ≡ X.r i) ⊎ (0 ≡ rev (X.r i))) → orient2d (p (X.at 0)) (p (X.at 1)) q ≡ pos 0
      go (zero, u, l, t) = absurd (omega arith)
      go (suc i, u, l, inl e) = by l (let a : L.origin 0 ≡ X.at i = ap L.origin e ∙ K.from {i = i} (omega arith) in
          let b : to L 0 ≡ X.at (suc i) = ap (λ (x : ℕ). L.origin (rev x)) e ∙ K.to {i = suc i} l in rw (a, b) at o)
      go (suc i, u, l, inr e) = by l (let a : L.origin 0 ≡ X.at (suc i) = ap L.origin e ∙ K.to {i = suc i} l in
          let b : to L 0 ≡ X.at i = ap (λ (x : ℕ). L.origin (rev x)) e ∙ ap L.origin (rev-rev (X.r (suc i))) ∙ K.from {i = i} (omega arith) in
          let c : orient2d (p (X.at (suc i))) (p (X.at i)) q ≡ pos 0 = (rw (a, b) at o) in
          orient2d-swap (p (X.at (suc i))) (p (X.at i)) q ∙ ap neg_ℤ c)

  module _ {q : Point} (rq : InRange q) where
    abbrev n₀ : ℕ
    n₀ = C.vertices

    -- the positions with the new vertex's
    abbrev pub p' : ℕ → Point
    p' = put p C.vertices q

    p-old : {v : ℕ} → v < n₀ → p' v ≡ p v
    p-old {v} l = put_other p n₀ q v (omega arith)

    p-new : p' n₀ ≡ q
    p-new = put_same p n₀ q

    each-vertex : (P : ℕ → Type 0) → P n₀ → ((v : ℕ) → v < n₀ → P v) → {v : ℕ} → v < n₀ + 1 → P v
    each-vertex P a f {v} l = go (ℕ_discrete v n₀)
      where
        go : Dec (v ≡ n₀) → P v
        go (yes e) = subst P (sym e) a
        go (no n) = f v (omega arith)

    range' : {v : ℕ} → v < n₀ + 1 → InRange (p' v)
    range' = each-vertex (λ v. InRange (p' v)) (rw p-new rq) (λ v l. rw (p-old l) (X.range l))

    module _ (o : OnTheLine L p q) where
      flat' : {u v w : ℕ} → u < n₀ + 1 → v < n₀ + 1 → w < n₀ + 1 → orient2d (p' u) (p' v) (p' w) ≡ pos 0
      flat' a b c = three-flat (p (X.at 0)) (p (X.at 1)) _ _ _ (key-next K.some) (on a) (on b) (on c)
        where
          on : {v : ℕ} → v < n₀ + 1 → orient2d (p (X.at 0)) (p (X.at 1)) (p' v) ≡ pos 0
          on = each-vertex (λ v. orient2d (p (X.at 0)) (p (X.at 1)) (p' v) ≡ pos 0) (rw p-new (on-first q o))
              (λ v l. rw (p-old l) (X.flat (K.placed {i = 0} (omega arith)) (K.placed {i = 1} K.some) l))

      -- EXTEND_LINE KEEPS THE LINE, at its last vertex
      pub extend-high : T (comes_before (p (X.at C.edges)) q)
          → Line (with_line_vertex C) (extend_line L C (X.at C.edges)) (put p C.vertices q)
      extend-high t = record {
        at = at'';
        r = put (put X.r (suc E) (2 * E + 1)) (suc (suc E)) (2 * E);
        chain = extend-chain K;
        rising = λ {i} l. go (dec_lt i E) l;
        flat = flat';
        range = range';
      }
        where
          at'' : ℕ → ℕ
          at'' = put X.at (suc E) n₀

          old : {i : ℕ} → i ≤ E → p' (at'' i) ≡ p (X.at i)
          old {i} l = ap p' (put_other X.at (suc E) n₀ i (omega arith)) ∙ p-old (K.placed l)

          new : p' (at'' (suc E)) ≡ q
          new = ap p' (put_same X.at (suc E) n₀) ∙ p-new

          go : {i : ℕ} → Dec (i < E) → i < E + 1 → T (comes_before (p' (at'' i)) (p' (at'' (suc i))))
          go {i} (yes m) l = rw (old {i = i} (omega arith), old {i = suc i} m) (X.rising m)
          go {i} (no m) l = let e : i ≡ E = omega arith in rw (e, new, old {i = E} (omega arith)) t

      -- and at its first
      pub extend-low : T (comes_before q (p (X.at 0)))
          → Line (with_line_vertex C) (extend_line L C (X.at 0)) (put p C.vertices q)
      extend-low t = record {
        at = at'';
        r = back_r chain₁;
        chain = subst (λ (v : ℕ). Chain (with_line_vertex C) (extend_line L C v) at'' (back_r chain₁)) (ap X.at (self E)) (reversed chain₁);
        rising = λ {i} l. rise i l;
        flat = flat';
        range = range';
      }
        where
          chain₁ : Chain (with_line_vertex C) (extend_line L C (X.at (E - E))) (put (back_at K) (suc E) n₀)
              (put (put (back_r K) (suc E) (2 * E + 1)) (suc (suc E)) (2 * E))
          chain₁ = extend-chain (reversed K)

          at'' : ℕ → ℕ
          at'' i = put (back_at K) (suc E) n₀ (E + 1 - i)

          self : (n : ℕ) → n - n ≡ 0
          self n = omega arith

          first : at'' 0 ≡ n₀
          first = ap (put (back_at K) (suc E) n₀) (all E) ∙ put_same (back_at K) (suc E) n₀
            where
              all : (n : ℕ) → n + 1 - 0 ≡ suc n
              all n = omega arith

          after : (i : ℕ) → i ≤ E → at'' (suc i) ≡ X.at i
          after i l = put_other (back_at K) (suc E) n₀ (E + 1 - suc i) (omega arith) ∙ ap X.at (twice E i l)
            where
              twice : (n i : ℕ) → i ≤ n → n - (n + 1 - suc i) ≡ i
              twice n i l = omega arith

          old : (i : ℕ) → i ≤ E → p' (at'' (suc i)) ≡ p (X.at i)
          old i l = ap p' (after i l) ∙ p-old (K.placed l)

          rise : (i : ℕ) → i < E + 1 → T (comes_before (p' (at'' i)) (p' (at'' (suc i))))
          rise zero l = rw (ap p' first ∙ p-new, old 0 (omega arith)) t
          rise (suc i) l = rw (old i (omega arith), old (suc i) (omega arith)) (X.rising {i = i} (omega arith))

      -- SPLIT_EDGE_WHEN_ALL_VERTICES_ON_LINE KEEPS THE LINE, between two neighbours
      pub split-line : {j : ℕ} → j < C.edges → T (comes_before (p (X.at j)) q) → T (comes_before q (p (X.at (suc j))))
          → Line (with_line_vertex C) (split_edge_when_all_vertices_on_line L C (rev (X.r (suc j)))) (put p C.vertices q)
      split-line {j} j< t s = record {
        at = at'';
        r = split_r X.r j (2 * E + 1);
        chain = split-chain K j<;
        rising = λ {i} l. go (spot (suc j) i) l;
        flat = flat';
        range = range';
      }
        where
          at'' : ℕ → ℕ
          at'' = insert_at X.at (suc j) n₀

          old : {i : ℕ} → i ≤ j → p' (at'' i) ≡ p (X.at i)
          old {i} l = ap p' (insert-below X.at (suc j) n₀ {i = i} (omega arith)) ∙ p-old (K.placed {i = i} (omega arith))

          new : p' (at'' (suc j)) ≡ q
          new = ap p' (insert-here X.at (suc j) n₀ refl) ∙ p-new

          up : {i : ℕ} → suc j ≤ i → i ≤ E → p' (at'' (suc i)) ≡ p (X.at i)
          up {i} l m = ap p' (insert-above X.at (suc j) n₀ l) ∙ p-old (K.placed m)

          go : {i : ℕ} → Spot (suc j) i → i < E + 1 → T (comes_before (p' (at'' i)) (p' (at'' (suc i))))
          go (below {i = i} m) l = on (ℕ_discrete i j)
            where
              on : Dec (i ≡ j) → T (comes_before (p' (at'' i)) (p' (at'' (suc i))))
              on (yes e) = rw (e, new, old {i = j} (omega arith)) t
              on (no n) = rw (old {i = i} (omega arith), old {i = suc i} (omega arith)) (X.rising {i = i} (omega arith))
          go (here e) l = rw (e, new, up {i = suc j} (omega arith) j<) s
          go (above {i = i} m) l = rw (up {i = i} m (omega arith), up {i = suc i} (omega arith) (omega arith)) (X.rising {i = i} (omega arith))

    -- a half-edge that has the point strictly left is one of the chain, read from one end or the other
    pub line-facing : {e : ℕ} → In C e → pos 0 <ℤ orient2d (p (L.origin e)) (p (to L e)) q → Facing C L (put p C.vertices q) e
    line-facing {e} h seen = go (K.all h)
      where
        flat-at : {i j k : ℕ} → i ≤ E → j ≤ E → k ≤ E → orient2d (p (X.at i)) (p (X.at j)) (p (X.at k)) ≡ pos 0
        flat-at a b c = X.flat (K.placed a) (K.placed b) (K.placed c)

        at_old : {i : ℕ} → i ≤ E → p' (X.at i) ≡ p (X.at i)
        at_old l = p-old (K.placed l)

        upward : {i : ℕ} → i < E → pos 0 <ℤ orient2d (p (X.at i)) (p (X.at (suc i))) q → Seen C X.at p' n₀
        upward {i} l s = record {
          left = λ {i = j} m. rw (p-new, at_old {i = j} (omega arith), at_old {i = suc j} m)
              (same-side (p (X.at i)) (p (X.at (suc i))) (p (X.at j)) (p (X.at (suc j))) q (key-next l) (key-next m)
              (flat-at {i = i} {j = suc i} {k = j} (omega arith) l (omega arith)) (flat-at {i = i} {j = suc i} {k = suc j} (omega arith) l m)
              (flat-at {i = j} {j = suc j} {k = i} (omega arith) m (omega arith)) s);
          whole = rw (p-new, at_old {i = 0} (omega arith), at_old {i = E} (omega arith))
              (same-side (p (X.at i)) (p (X.at (suc i))) (p (X.at 0)) (p (X.at E)) q (key-next l) (key_apart K.some (omega arith))
              (flat-at {i = i} {j = suc i} {k = 0} (omega arith) l (omega arith)) (flat-at {i = i} {j = suc i} {k = E} (omega arith) l (omega arith))
              (flat-at {i = 0} {j = E} {k = i} (omega arith) (omega arith) (omega arith)) s);
        }

        downward : {i : ℕ} → i < E → pos 0 <ℤ orient2d (p (X.at (suc i))) (p (X.at i)) q → Seen C (back_at K) p' n₀
        downward {i} l s = record {
          left = λ {i = k} m. let j = E - suc k in let z : E - k ≡ suc j = omega arith in
              rw (z, p-new, at_old {i = j} (omega arith), at_old {i = suc j} (omega arith))
              (other-side (p (X.at i)) (p (X.at (suc i))) (p (X.at j)) (p (X.at (suc j))) q (key-next l) (key-next {i = j} (omega arith))
              (flat-at {i = i} {j = suc i} {k = j} (omega arith) l (omega arith)) (flat-at {i = i} {j = suc i} {k = suc j} (omega arith) l (omega arith))
              (flat-at {i = j} {j = suc j} {k = i} (omega arith) (omega arith) (omega arith)) s);
          whole = let y : E - 0 ≡ E = omega arith in let z : E - E ≡ 0 = omega arith in
              rw (y, z, p-new, at_old {i = 0} (omega arith), at_old {i = E} (omega arith))
              (other-side (p (X.at i)) (p (X.at (suc i))) (p (X.at 0)) (p (X.at E)) q (key-next l) (key_apart K.some (omega arith))
              (flat-at {i = i} {j = suc i} {k = 0} (omega arith) l (omega arith)) (flat-at {i = i} {j = suc i} {k = E} (omega arith) l (omega arith))
              (flat-at {i = 0} {j = E} {k = i} (omega arith) (omega arith) (omega arith)) s);
        }

        straight-up : Straight C X.at p'
        straight-up = record {
          flat = λ {i} m. rw (at_old {i = i} (omega arith), at_old {i = suc i} (omega arith), at_old {i = suc (suc i)} m)
              (flat-at {i = i} {j = suc i} {k = suc (suc i)} (omega arith) (omega arith) m);
          on = λ {i} m. rw (at_old {i = i} (omega arith), at_old {i = suc i} (omega arith), at_old {i = suc (suc i)} m)
              (beyond-up (p (X.at i)) (p (X.at (suc i))) (p (X.at (suc (suc i)))) (key-next {i = i} (omega arith)) (key-next m)
              (flat-at {i = i} {j = suc i} {k = suc (suc i)} (omega arith) (omega arith) m));
        }

        straight-down : Straight C (back_at K) p'
        straight-down = record {
          flat = λ {i} m. let j = E - suc (suc i) in let y : E - suc i ≡ suc j = omega arith in let z : E - i ≡ suc (suc j) = omega arith in
              rw (y, z, at_old {i = j} (omega arith), at_old {i = suc j} (omega arith), at_old {i = suc (suc j)} (omega arith))
              (flat-at {i = suc (suc j)} {j = suc j} {k = j} (omega arith) (omega arith) (omega arith));
          on = λ {i} m. let j = E - suc (suc i) in let y : E - suc i ≡ suc j = omega arith in let z : E - i ≡ suc (suc j) = omega arith in
              rw (y, z, at_old {i = j} (omega arith), at_old {i = suc j} (omega arith), at_old {i = suc (suc j)} (omega arith))
              (beyond-down (p (X.at (suc (suc j)))) (p (X.at (suc j))) (p (X.at j)) (key-next {i = suc j} (omega arith)) (key-next {i = j} (omega arith))
              (flat-at {i = suc (suc j)} {j = suc j} {k = j} (omega arith) (omega arith) (omega arith)));
        }

        back_is : (n i : ℕ) → i < n → suc n - suc (n - suc i) ≡ suc i
        back_is n i l = omega arith

        go : (i : ℕ) × (0 < i) × (i ≤ E) × ((e ≡ X.r i) ⊎ (e ≡ rev (X.r i))) → Facing C L p' e
        go (zero, u, l, t) = absurd (omega arith)
        go (suc i, u, l, inl t) =
            let a : L.origin e ≡ X.at i = ap L.origin t ∙ K.from {i = i} (omega arith) in
            let b : to L e ≡ X.at (suc i) = ap (λ (x : ℕ). L.origin (rev x)) t ∙ K.to {i = suc i} l in
            record { at = X.at; r = X.r; chain = K; seen = upward l (rw (a, b) at seen); straight = straight-up; place = i; within = l; is = t }
        go (suc i, u, l, inr t) =
            let a : L.origin e ≡ X.at (suc i) = ap L.origin t ∙ K.to {i = suc i} l in
            let b : to L e ≡ X.at i = ap (λ (x : ℕ). L.origin (rev x)) t ∙ ap L.origin (rev-rev (X.r (suc i))) ∙ K.from {i = i} (omega arith) in
            record {
              at = back_at K;
              r = back_r K;
              chain = reversed K;
              seen = downward l (rw (a, b) at seen);
              straight = straight-down;
              place = E - suc i;
              within = omega arith;
              is = t ∙ sym (ap (λ (x : ℕ). rev (X.r x)) (back_is E i l));
            }

    -- THE FIRST POINT OFF THE LINE MAKES A GOOD MESH, settled and without a left corner, with no flip: at any half-edge that has it strictly left
    pub line-off : (room : ℕ) {e : ℕ} → In C e → pos 0 <ℤ orient2d (p (L.origin e)) (p (to L e)) q
        → OffLine C (put p C.vertices q) (insert_outside room (put p C.vertices q) C L q e)
    line-off room h seen =
        let F = line-facing h seen in
        rw F.is (off-line F.chain F.seen p-new room {k = F.place} F.straight F.within (λ v m. range' m))
