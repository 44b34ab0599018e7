-- Each answer of the search on a line is true of the line. Assumes nothing.
use Rattle.std.specs.Prelude.{Bool, true, false, cond, ◌&&◌, ◌≡◌, refl, ◌≢◌, ◌⊎◌, ltb, eqb, pos, neg_ℤ, ◌<ℤ◌, ◌≤ℤ◌}
use Rattle.std.proofs.Math.Bool.{not}
use Rattle.std.proofs.Common.{sym, ◌∙◌, ap, ⊎_elim, inl, inr, arith, lt-ltb, le-ltb, eq-eqb, ne_eqb}
use Rattle.std.proofs.Math.Path.{subst}
use Prim.Native.Nat.{ℕ, zero, suc, ◌+◌, ◌-◌, ◌*◌, ◌<◌, ◌≤◌}
use Rattle.std.proofs.Math.Decide.{ℕ_discrete, dec_lt}
use Rattle.std.proofs.Math.Dec.{T}
use Rattle.std.proofs.Math.IntN.{ℤ}
use Rattle.std.specs.Int.Signed.{clash_ℤ, <ℤ-≤ℤ_trans, ≤ℤ_refl}
use Rattle.algebra.proofs.Order.{lt-le, neg-0<}
use Rattle.math.specs.declared.Point.{Point}
use Rattle.math.specs.Determinant.{orient2d, InRange}
use Rattle.math.proofs.Side.{by-sign}
use Rattle.math.proofs.Plane.{orient2d-swap}
use Rattle.mesh.specs.declared.Counts.{Counts}
use Rattle.mesh.specs.Mesh.{Links, In, to, turn}
use Rattle.sums.proofs.BitLaws.{and_left, and_right, and_both}
use Rattle.sums.specs.Bounded.{all_below, first_below}
use Rattle.sums.proofs.BoundedLaws.{all-below→, all-below←, first-below-le, first-below-passes, first-below-at-most, first-below-any}
use Rattle.sums.specs.Half.{rev}
use Rattle.sums.proofs.HalfLaws.{rev-rev}
use Rattle.line.specs.Chain.{Chain}
use Rattle.line.proofs.ChainLaws.{by-origin, prev-r}
use Rattle.line.specs.Order.{comes_before, is_same_of, key}
use Rattle.line.proofs.OrderLaws.{is_same, three_ways, before-key, key-before}
use Rattle.line.specs.Line.{Line}
use Rattle.line.proofs.LineLawsFacts.{OnTheLine, key_apart}
use Rattle.line.specs.declared.PositionWhenAllVerticesOnLine.{PositionWhenAllVerticesOnLine}
use Rattle.line.specs.declared.PositionWhenAllVerticesOnLine.TheVariants.{OnEdge, OnVertex, NotOnLine, ExtendingLine}
use Rattle.line.specs.Locate.{none_between, vertex_on, last_before, first_after, edge_from_neighbors, locate_on_line, locate_when_all_vertices_on_line, Off, AtVertex}
use Rattle.line.proofs.LocateFacts.{AtEnd, InEdge, LineCertified}

both-no : (a b : Bool) → T (not (a && b)) → T a → T b → ⊥
both-no true true n a b = n
both-no true false n a b = b
both-no false b n a c = a

no_both : (a b : Bool) → (T a → T b → ⊥) → T (not (a && b))
no_both true true n = n tt tt
no_both true false n = tt
no_both false b n = tt

module _ {C : Counts} {L : Links} {p : ℕ → Point} (X : Line C L p) (q : Point) (rq : InRange q) where
  abbrev E : ℕ
  E = C.edges

  abbrev K : Chain C L X.at X.r
  K = X.chain

  abbrev k : ℕ → ℤ
  k i = key (p (X.at i))

  range : {i : ℕ} → i ≤ E → InRange (p (X.at i))
  range l = X.range (K.placed l)

  -- ---- before and after by keys
  below : {i : ℕ} → i ≤ E → T (comes_before (p (X.at i)) q) → k i <ℤ key q
  below l t = before-key _ q (range l) rq t

  over : {i : ℕ} → i ≤ E → T (comes_before q (p (X.at i))) → key q <ℤ k i
  over l t = before-key q _ rq (range l) t

  rises : {i j : ℕ} → i ≤ E → j ≤ E → k i <ℤ k j → i < j
  rises {i} {j} l m h = go (dec_lt i j) (ℕ_discrete i j)
    where
      go : Dec (i < j) → Dec (i ≡ j) → i < j
      go (yes u) d = u
      go (no u) (yes e) = absurd (clash_ℤ h (subst (λ (n : ℕ). k n ≤ℤ k i) e (≤ℤ_refl (k i))))
      go (no u) (no e) = absurd (clash_ℤ h (lt-le (key_apart X {i = j} {j = i} (omega arith) l)))

  -- a test about vertices, asked at the places
  between-at : (a b : Point) → T (none_between C p a b) → {i : ℕ} → i ≤ E → T (comes_before a (p (X.at i)))
      → T (comes_before (p (X.at i)) b) → ⊥
  unfolding none_between
  between-at a b t {i} l u w = both-no (comes_before a (p (X.at i))) (comes_before (p (X.at i)) b) (all-below→ C.vertices (λ u. not (comes_before a (p u) && comes_before (p u) b)) t _ (K.placed l)) u w

  none-by : (a b : Point)
      → ((i : ℕ) → i ≤ E → T (comes_before a (p (X.at i))) → T (comes_before (p (X.at i)) b) → ⊥)
      → T (none_between C p a b)
  unfolding none_between
  none-by a b f = all-below← C.vertices (λ u. not (comes_before a (p u) && comes_before (p u) b))
      (λ u l. let z = K.every l in no_both (comes_before a (p u)) (comes_before (p u) b) (λ s t. f z.0 z.1
      (subst (λ (v : ℕ). T (comes_before a (p v))) (sym z.2) s) (subst (λ (v : ℕ). T (comes_before (p v) b)) (sym z.2) t)))

  order : {i j : ℕ} → i ≤ E → j ≤ E → T (comes_before (p (X.at i)) (p (X.at j))) → i < j
  order l m t = rises l m (before-key _ _ (range l) (range m) t)

  ordered : {i j : ℕ} → i < j → j ≤ E → T (comes_before (p (X.at i)) (p (X.at j)))
  ordered {i} {j} l m = key-before _ _ (range {i = i} (omega arith)) (range m) (key_apart X l m)

  -- where the point is at no vertex
  module _ (none : (v : ℕ) → v < C.vertices → T (is_same_of (p v) q) → ⊥) where
    either : {i : ℕ} → i ≤ E → T (comes_before (p (X.at i)) q) ⊎ T (comes_before q (p (X.at i)))
    either l = ⊎_elim (λ s. absurd (none _ (K.placed l) s)) (λ s. s) (three_ways (p (X.at _)) q)

    -- the last of those before the point, and the first of those after it
    last : (n i : ℕ) → i + n ≡ E → T (comes_before (p (X.at i)) q)
        → (j : ℕ) × (j ≤ E) × T (comes_before (p (X.at j)) q) × T (none_between C p (p (X.at j)) q)
    last zero i e t = (i, omega arith, t, none-by _ q (λ m l u w. let z = order {i = i} {j = m} (omega arith) l u in omega arith))
    last (suc n) i e t = go (last n (suc i) (omega arith)) (either {i = suc i} (omega arith))
      where
        go : (T (comes_before (p (X.at (suc i))) q)
            → (j : ℕ) × (j ≤ E) × T (comes_before (p (X.at j)) q) × T (none_between C p (p (X.at j)) q))
            → T (comes_before (p (X.at (suc i))) q) ⊎ T (comes_before q (p (X.at (suc i))))
            → (j : ℕ) × (j ≤ E) × T (comes_before (p (X.at j)) q) × T (none_between C p (p (X.at j)) q)
        go f (inl s) = f s
        go f (inr s) = (
          i,
          omega arith,
          t,
          none-by _ q (λ m l u w.
              let z = order {i = i} {j = m} (omega arith) l u in
              let y = rises {i = m} {j = suc i} l (omega arith) (<ℤ-≤ℤ_trans (below l w) (lt-le (over {i = suc i} (omega arith) s))) in omega arith),
        )

    first : (i : ℕ) → i ≤ E → T (comes_before q (p (X.at i)))
        → (j : ℕ) × (j ≤ E) × T (comes_before q (p (X.at j))) × T (none_between C p q (p (X.at j)))
    first zero l t = (0, omega arith, t, none-by q _ (λ m n u w. let z = order {i = m} {j = 0} n (omega arith) w in omega arith))
    first (suc i) l t = go (first i (omega arith)) (either {i = i} (omega arith))
      where
        go : (T (comes_before q (p (X.at i))) → (j : ℕ) × (j ≤ E) × T (comes_before q (p (X.at j))) × T (none_between C p q (p (X.at j))))
            → T (comes_before (p (X.at i)) q) ⊎ T (comes_before q (p (X.at i)))
            → (j : ℕ) × (j ≤ E) × T (comes_before q (p (X.at j))) × T (none_between C p q (p (X.at j)))
        go f (inr s) = f s
        go f (inl s) = (
          suc i,
          l,
          t,
          none-by q _ (λ m n u w.
              let z = order {i = m} {j = suc i} n l w in
              let y = rises {i = i} {j = m} (omega arith) n (<ℤ-≤ℤ_trans (below {i = i} (omega arith) s) (lt-le (over n u))) in omega arith),
        )

    -- ---- the searched vertices, where there are some
    abbrev Before : ℕ → Bool
    Before v = comes_before (p v) q && none_between C p (p v) q

    abbrev After : ℕ → Bool
    After v = comes_before q (p v) && none_between C p q (p v)

    no-before : last_before C p q ≡ C.vertices → {i : ℕ} → i ≤ E → T (comes_before (p (X.at i)) q) → ⊥
    unfolding last_before
    no-before e {i} l t = let z = last (E - i) i (omega arith) t in
        first-below-any C.vertices Before e _ (K.placed z.1) (and_both (comes_before (p (X.at z.0)) q) (none_between C p (p (X.at z.0)) q) z.2 z.3)

    no-after : first_after C p q ≡ C.vertices → {i : ℕ} → i ≤ E → T (comes_before q (p (X.at i))) → ⊥
    unfolding first_after
    no-after e {i} l t = let z = first i l t in
        first-below-any C.vertices After e _ (K.placed z.1) (and_both (comes_before q (p (X.at z.0))) (none_between C p q (p (X.at z.0))) z.2 z.3)

    -- the place of the last before, with the two facts
    pub record Low (v : ℕ) : Type 0 where
      pub place : ℕ
      pub most : place ≤ E
      pub is : X.at place ≡ v
      pub test : T (comes_before (p (X.at place)) q)
      pub free : T (none_between C p (p (X.at place)) q)

    pub record High (v : ℕ) : Type 0 where
      pub place : ℕ
      pub most : place ≤ E
      pub is : X.at place ≡ v
      pub test : T (comes_before q (p (X.at place)))
      pub free : T (none_between C p q (p (X.at place)))

    low : last_before C p q < C.vertices → Low (last_before C p q)
    unfolding last_before
    low l = let v = first_below C.vertices Before in let z = K.every l in
        let t = subst (λ (v : ℕ). T (Before v)) (sym z.2) (first-below-passes C.vertices Before l) in
        record { place = z.0; most = z.1; is = z.2; test = and_left (comes_before (p (X.at z.0)) q) (none_between C p (p (X.at z.0)) q) t; free = and_right (comes_before (p (X.at z.0)) q) (none_between C p (p (X.at z.0)) q) t }

    high : first_after C p q < C.vertices → High (first_after C p q)
    unfolding first_after
    high l = let z = K.every l in
        let t = subst (λ (v : ℕ). T (After v)) (sym z.2) (first-below-passes C.vertices After l) in
        record { place = z.0; most = z.1; is = z.2; test = and_left (comes_before q (p (X.at z.0))) (none_between C p q (p (X.at z.0))) t; free = and_right (comes_before q (p (X.at z.0))) (none_between C p q (p (X.at z.0))) t }

    low-le : last_before C p q ≤ C.vertices
    unfolding last_before
    low-le = first-below-le C.vertices Before

    high_le : first_after C p q ≤ C.vertices
    unfolding first_after
    high_le = first-below-le C.vertices After

    -- ---- beyond an end
    low_end : last_before C p q ≡ C.vertices → (first_after C p q ≡ X.at 0) × T (comes_before q (p (X.at 0)))
    low_end e = go (either {i = 0} (omega arith))
      where
        go : T (comes_before (p (X.at 0)) q) ⊎ T (comes_before q (p (X.at 0)))
            → (first_after C p q ≡ X.at 0) × T (comes_before q (p (X.at 0)))
        go (inl s) = absurd (no-before e {i = 0} (omega arith) s)
        go (inr s) =
            let f : first_after C p q ≢ C.vertices = (λ z. no-after z {i = 0} (omega arith) s) in
            let H = high (let m = high_le in omega arith) in
            on H (dec_lt 0 H.place)
          where
            on : (H : High (first_after C p q)) → Dec (0 < H.place) → (first_after C p q ≡ X.at 0) × T (comes_before q (p (X.at 0)))
            on H (yes u) = absurd (between-at q (p (X.at H.place)) H.free {i = 0} (omega arith) s (ordered u H.most))
            on H (no u) = let z : H.place ≡ 0 = omega arith in (sym H.is ∙ ap X.at z, s)

    high_end : first_after C p q ≡ C.vertices → (last_before C p q ≡ X.at E) × T (comes_before (p (X.at E)) q)
    high_end e = go (either {i = E} (omega arith))
      where
        go : T (comes_before (p (X.at E)) q) ⊎ T (comes_before q (p (X.at E)))
            → (last_before C p q ≡ X.at E) × T (comes_before (p (X.at E)) q)
        go (inr s) = absurd (no-after e {i = E} (omega arith) s)
        go (inl s) =
            let f : last_before C p q ≢ C.vertices = (λ z. no-before z {i = E} (omega arith) s) in
            let H = low (let m = low-le in omega arith) in
            on H (dec_lt H.place E)
          where
            on : (H : Low (last_before C p q)) → Dec (H.place < E) → (last_before C p q ≡ X.at E) × T (comes_before (p (X.at E)) q)
            on H (yes u) = absurd (between-at (p (X.at H.place)) q H.free {i = E} (omega arith) (ordered u (omega arith)) s)
            on H (no u) = let m = H.most in let z : H.place ≡ E = omega arith in (sym H.is ∙ ap X.at z, s)

    -- ---- between two neighbours
    neighbours : (A : Low (last_before C p q)) (B : High (first_after C p q)) → B.place ≡ suc A.place
    neighbours A B = go (either {i = suc A.place} (let n = l in let m = B.most in omega arith)) (dec_lt (suc A.place) B.place)
      where
        l : A.place < B.place
        l = rises A.most B.most (<ℤ-≤ℤ_trans (below A.most A.test) (lt-le (over B.most B.test)))

        go : T (comes_before (p (X.at (suc A.place))) q) ⊎ T (comes_before q (p (X.at (suc A.place))))
            → Dec (suc A.place < B.place)
            → B.place ≡ suc A.place
        go (inl s) d = absurd (between-at (p (X.at A.place)) q A.free {i = suc A.place} (let n = l in let m = B.most in omega arith)
            (ordered {i = A.place} {j = suc A.place} (omega arith) (let n = l in let m = B.most in omega arith)) s)
        go (inr s) (yes u) = absurd (between-at q (p (X.at B.place)) B.free {i = suc A.place} (let n = l in let m = B.most in omega arith) s (ordered u B.most))
        go (inr s) (no u) = let n = l in omega arith

  -- `get_edge_from_neighbors` finds the half-edge between two neighbours
  edge-found : {i : ℕ} → i < E → edge_from_neighbors L (X.at (suc i)) (X.at i) ≡ rev (X.r (suc i))
  unfolding edge_from_neighbors
  edge-found {i} l = go (by-origin K {i = suc i} l (K.out< v<) (K.based v<)) (ℕ_discrete (suc i) E)
    where
      v : ℕ
      v = X.at (suc i)

      v< : v < C.vertices
      v< = K.placed l

      back : L.out v ≡ rev (X.r (suc i)) → cond (eqb (to L (L.out v)) (X.at i)) (L.out v) (turn L (L.out v)) ≡ rev (X.r (suc i))
      back q =
          let a : to L (L.out v) ≡ X.at i = ap (λ (x : ℕ). L.origin (rev x)) q ∙ ap L.origin (rev-rev (X.r (suc i))) ∙ K.from {i = i} (omega arith) in
          rw (eq-eqb (to L (L.out v)) (X.at i) a) q

      go : (L.out v ≡ X.r (suc (suc i))) ⊎ (L.out v ≡ rev (X.r (suc i))) → Dec (suc i ≡ E)
          → cond (eqb (to L (L.out v)) (X.at i)) (L.out v) (turn L (L.out v)) ≡ rev (X.r (suc i))
      go (inr q) d = back q
      go (inl q) (yes e) = back (q ∙ ap (λ (n : ℕ). X.r (suc n)) e ∙ K.high ∙ ap (λ (n : ℕ). rev (X.r n)) (sym e))
      go (inl q) (no n) =
          let a : to L (L.out v) ≡ X.at (suc (suc i)) = ap (λ (x : ℕ). L.origin (rev x)) q ∙ K.to {i = suc (suc i)} (omega arith) in
          let d : to L (L.out v) ≢ X.at i = (λ e. let z = K.once {i = suc (suc i)} {j = i} (omega arith) (omega arith) (sym a ∙ e) in omega arith) in
          rw (ne_eqb (to L (L.out v)) (X.at i) d) (ap (λ (x : ℕ). rev (L.prev x)) q ∙ ap rev (prev-r K {i = suc i} l))

  -- ---- the certificates
  on_line : OnTheLine L p q → LineCertified X q (locate_on_line C L p q)
  unfolding locate_on_line vertex_on
  on_line o = first-test (dec_lt v C.vertices)
    where
      v : ℕ
      v = first_below C.vertices (λ v. is_same_of (p v) q)

      a : ℕ
      a = last_before C p q

      b : ℕ
      b = first_after C p q

      rest : ((v : ℕ) → v < C.vertices → T (is_same_of (p v) q) → ⊥) → Dec (a ≡ C.vertices) → Dec (b ≡ C.vertices)
          → LineCertified X q (cond (eqb a C.vertices) (ExtendingLine b)
          (cond (eqb b C.vertices) (ExtendingLine a) (OnEdge (edge_from_neighbors L b a))))
      rest none (yes e) d = let z = low_end none e in rw (eq-eqb a C.vertices e) (record { on = o; end = inl z })
      rest none (no n) (yes e) = let z = high_end none e in rw (ne_eqb a C.vertices n, eq-eqb b C.vertices e) (record { on = o; end = inr z })
      rest none (no n) (no m) =
          let A = low none (let u = low-le none in omega arith) in
          let B = high none (let u = high_le none in omega arith) in
          let s = neighbours none A B in
          let t = B.most in
          let j : A.place < E = omega arith in
          rw (ne_eqb a C.vertices n, ne_eqb b C.vertices m) (record {
            on = o;
            place = A.place;
            below = j;
            edge = ap (λ (x : ℕ). edge_from_neighbors L x a) (sym B.is ∙ ap X.at s) ∙ ap (edge_from_neighbors L (X.at (suc A.place))) (sym A.is) ∙ edge-found j;
            after = A.test;
            before = subst (λ (n : ℕ). T (comes_before q (p (X.at n)))) s B.test;
          })

      first-test : Dec (v < C.vertices) → LineCertified X q
          (cond (ltb v C.vertices) (OnVertex v)
          (cond (eqb a C.vertices) (ExtendingLine b) (cond (eqb b C.vertices) (ExtendingLine a) (OnEdge (edge_from_neighbors L b a)))))
      first-test (yes l) = rw (lt-ltb v C.vertices l)
          (record { used = l; here = is_same (p v) q (first-below-passes C.vertices (λ v. is_same_of (p v) q) l) })
      first-test (no n) =
          let m = first-below-le C.vertices (λ v. is_same_of (p v) q) in
          rw (le-ltb v C.vertices (omega arith))
          (rest (first-below-any C.vertices (λ v. is_same_of (p v) q) (omega arith)) (ℕ_discrete a C.vertices) (ℕ_discrete b C.vertices))

  -- THE SEARCH IS RIGHT
  pub locate-certified : LineCertified X q (locate_when_all_vertices_on_line C L p q)
  unfolding locate_when_all_vertices_on_line
  locate-certified = by-sign (LineCertified X q) z (λ l. record { used = in-0; left = l }) right on_line
    where
      z : ℤ
      z = orient2d (p (L.origin 0)) (p (to L 0)) q

      in-0 : In C 0
      in-0 = let s = K.some in omega arith

      right : z <ℤ pos 0 → Off C L p q (rev 0)
      right r = record {
        used = Rattle.sums.proofs.HalfLaws.rev-below C.edges in-0;
        left = subst (λ (x : ℕ). pos 0 <ℤ orient2d (p (L.origin (rev 0))) (p (L.origin x)) q) (sym (rev-rev 0))
            (subst (λ (x : ℤ). pos 0 <ℤ x) (sym (orient2d-swap (p (L.origin 0)) (p (to L 0)) q)) (neg-0< r));
      }
