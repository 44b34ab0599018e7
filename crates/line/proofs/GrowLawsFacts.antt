-- Laws of specs/GrowLaws.antt.
use Rattle.std.specs.Prelude.{Bool, true, false, not, cond, ◌≡◌, ◌⊎◌, ℕ, zero, suc, ◌+◌, ◌<◌, ◌≤◌, ℤ, pos, ◌<ℤ◌}
use Rattle.std.proofs.Math.Path.{refl}
use Rattle.std.proofs.Common.{sym, ◌∙◌, ap, subst, ⊎_elim, inl, inr}
use Rattle.std.proofs.Math.Decide.{dec_lt}
use native.Mathlib.Omega.{arith}
use borrow.Author.Tests.{lt-ltb, le-ltb}
use Rattle.std.proofs.Math.Dec.{T}
use Rattle.std.specs.Int.Signed.{<ℤ_irrefl}
use Rattle.convexity.specs.Convexity.{NoLeftCorner}
use Rattle.corner.specs.Corner.{Extended}
use Rattle.math.specs.declared.Point.{Point}
use Rattle.math.specs.Determinant.{orient2d, by_sign, InRange}
use Rattle.mesh.specs.declared.Counts.{Counts}
use Rattle.mesh.specs.Mesh.{Links, In, to}
use Rattle.mesh.specs.Good.{Good}
use Rattle.location.specs.declared.PositionInTriangulation.{PositionInTriangulation}
use Rattle.skipped.specs.Insert.{unflipped, is_new, position_vertex}
use Rattle.skipped.proofs.InsertLawsFacts.{insert-point}
use Rattle.skipped.proofs.InsertCorners.{insert-corners}
use Rattle.sums.specs.Bit.{bit}
use Rattle.sums.proofs.BitLaws.{is_true, is_false, from-true, and_both, test}
use Rattle.sums.specs.Bounded.{first_below}
use Rattle.sums.proofs.BoundedLaws.{first-below-passes, first-below-at-most}
use Rattle.sums.proofs.HalfLaws.{rev-below}
use Rattle.sums.specs.Put.{put}
use Rattle.sums.proofs.PutLaws.{put_same, put_other}
use Rattle.line.specs.Operations.{setup_initial_two_vertices, with_line_vertex, two_vertices}
use Rattle.line.proofs.ChainRules.{chain-rules}
use Rattle.line.specs.Order.{comes_before, is_same_of, key}
use Rattle.line.proofs.OrderLaws.{is_same, three_ways, before-key}
use Rattle.line.specs.Line.{Line}
use Rattle.line.proofs.LineLawsFacts.{two-line, key_apart, extend-high, extend-low, split-line, line-off}
use Rattle.line.specs.OffLine.{OffLine}
use Rattle.line.specs.declared.PositionWhenAllVerticesOnLine.{PositionWhenAllVerticesOnLine}
use Rattle.line.specs.declared.PositionWhenAllVerticesOnLine.TheVariants.{OnEdge, OnVertex, NotOnLine, ExtendingLine}
use Rattle.line.specs.Locate.{vertex_on, locate_on_line, locate_when_all_vertices_on_line}
use Rattle.line.proofs.LocateFacts.{LineCertified}
use Rattle.line.proofs.LocateLaws.{locate-certified}
use Rattle.line.specs.Grow.{Growing, one_vertex, insert_first_vertex, insert_second_vertex, insert_at_line_place, insert_when_all_vertices_on_line, insert_by_count, grow_point, grow_in_mesh, grow_on}
use Rattle.line.specs.GrowLaws.{SecondIn, Outcome, there, line, off, LineGrown, Phase, none, one, mesh, PointAt}

-- ---- positions differ
module _ {C : Counts} {L : Links} {p : ℕ → Point} (X : Line C L p) where
  -- THE VERTICES OF A LINE HAVE DIFFERENT POSITIONS
  pub line-distinct : {u v : ℕ} → u < C.vertices → v < C.vertices → p u ≡ p v → u ≡ v
  line-distinct {u} {v} l m e = go (X.chain.every l) (X.chain.every m)
    where
      go : (i : ℕ) × (i ≤ C.edges) × (X.at i ≡ u) → (i : ℕ) × (i ≤ C.edges) × (X.at i ≡ v) → u ≡ v
      go (i, a, s) (j, b, t) = on (dec_lt i j) (dec_lt j i)
        where
          same : key (p (X.at i)) ≡ key (p (X.at j))
          same = ap (λ (z : ℕ). key (p z)) s ∙ ap key e ∙ ap (λ (z : ℕ). key (p z)) (sym t)

          on : Dec (i < j) → Dec (j < i) → u ≡ v
          on (yes n) d = absurd (<ℤ_irrefl (subst (λ (z : ℤ). z <ℤ key (p (X.at j))) same (key_apart X n b)))
          on (no n) (yes d) = absurd (<ℤ_irrefl (subst (λ (z : ℤ). key (p (X.at j)) <ℤ z) same (key_apart X d a)))
          on (no n) (no d) = let z : i ≡ j = omega arith in sym s ∙ ap X.at z ∙ t

  -- ---- A POINT ON A VERTEX IS FOUND THERE
  same_self : (a : Point) → InRange a → T (is_same_of a a)
  unfolding is_same_of
  same_self a r = let n : T (not (comes_before a a)) = go (test (comes_before a a)) in and_both (not (comes_before a a)) (not (comes_before a a)) n n
    where
      go : T (comes_before a a) ⊎ T (not (comes_before a a)) → T (not (comes_before a a))
      go (inl t) = absurd (<ℤ_irrefl (before-key a a r r t))
      go (inr t) = t

  pub vertex-found : {v : ℕ} → v < C.vertices → locate_when_all_vertices_on_line C L p (p v) ≡ OnVertex v
  unfolding locate_when_all_vertices_on_line locate_on_line vertex_on by_sign
  vertex-found {v} l = rw flat (rw (is, lt-ltb v C.vertices l) refl)
    where
      in-0 : In C 0
      in-0 = let s = X.chain.some in omega arith

      flat : orient2d (p (L.origin 0)) (p (to L 0)) (p v) ≡ pos 0
      flat = let R = (chain-rules X.chain).ranges in X.flat (R.origin< in-0) (R.origin< (rev-below C.edges in-0)) l

      is : first_below C.vertices (λ u. is_same_of (p u) (p v)) ≡ v
      is =
          let P : ℕ → Bool = (λ u. is_same_of (p u) (p v)) in
          let m = first-below-at-most C.vertices P v (same_self (p v) (X.range l)) in
          let k : first_below C.vertices P < C.vertices = omega arith in
          line-distinct k l (is_same (p (first_below C.vertices P)) (p v) (first-below-passes C.vertices P k))

pub second-in : (L : Links) (p : ℕ → Point) (q : Point) → InRange (p 0) → InRange q → SecondIn L p q (insert_second_vertex L p q)
unfolding insert_second_vertex
second-in L p q r s = go (three_ways (p 0) q)
  where
    p' : ℕ → Point
    p' = put p 1 q

    old : p' 0 ≡ p 0
    old = put_other p 1 q 0 (omega arith)

    new : p' 1 ≡ q
    new = put_same p 1 q

    apart : key (p 0) <ℤ key q ⊎ key q <ℤ key (p 0) → T (is_same_of (p 0) q) → ⊥
    apart (inl h) t = <ℤ_irrefl (subst (λ (a : Point). key (p 0) <ℤ key a) (sym (is_same (p 0) q t)) h)
    apart (inr h) t = <ℤ_irrefl (subst (λ (a : Point). key a <ℤ key (p 0)) (sym (is_same (p 0) q t)) h)

    go : T (is_same_of (p 0) q) ⊎ T (comes_before (p 0) q) ⊎ T (comes_before q (p 0)) → SecondIn L p q (insert_second_vertex L p q)
    go (inl t) = rw (is_true (is_same_of (p 0) q) t) (record { here = is_same (p 0) q t; outcome = inl (refl, is_same (p 0) q t, refl, refl) })
    go (inr (inl t)) = rw (is_false (is_same_of (p 0) q) (apart (inl (before-key (p 0) q r s t))))
        (record { here = new; outcome = inr (refl, two-line L p' (rw old r) (rw new s) (inl (rw (old, new) t))) })
    go (inr (inr t)) = rw (is_false (is_same_of (p 0) q) (apart (inr (before-key q (p 0) s r t))))
        (record { here = new; outcome = inr (refl, two-line L p' (rw old r) (rw new s) (inr (rw (old, new) t))) })

module _ {C : Counts} {L : Links} {p : ℕ → Point} (X : Line C L p) {q : Point} (rq : InRange q) (room : ℕ) where
  at_place : (x : PositionWhenAllVerticesOnLine) → LineCertified X q x → LineGrown C L p q (insert_at_line_place room C L p q x)
  unfolding insert_at_line_place
  at_place (OnVertex v) c = record {
    kept = λ l. refl;
    used = c.used;
    here = c.here;
    flips = refl;
    full = refl;
    outcome = there refl refl refl c.here;
  }
  at_place (OnEdge e) c = record {
    kept = λ {v} l. put_other p C.vertices q v (omega arith);
    used = omega arith;
    here = put_same p C.vertices q;
    flips = refl;
    full = refl;
    outcome = line refl refl refl (rw c.edge (split-line X rq c.on c.below c.after c.before));
  }
  at_place (ExtendingLine v) c = record {
    kept = λ {v} l. put_other p C.vertices q v (omega arith);
    used = omega arith;
    here = put_same p C.vertices q;
    flips = refl;
    full = refl;
    outcome = line refl refl refl (⊎_elim (λ z. rw z.0 (extend-low X rq c.on z.1)) (λ z. rw z.0 (extend-high X rq c.on z.1)) c.end);
  }
  at_place (NotOnLine e) c = let O = line-off X rq room c.used c.left in record {
    kept = λ {v} l. put_other p C.vertices q v (omega arith);
    used = let k = O.vertices in omega arith;
    here = put_same p C.vertices q;
    flips = O.flips;
    full = O.full;
    outcome = off refl refl O;
  }

  -- THE LAW OF ONE POINT ON A LINE
  pub line-grown : LineGrown C L p q (insert_when_all_vertices_on_line room C L p q)
  unfolding insert_when_all_vertices_on_line
  line-grown = at_place (locate_when_all_vertices_on_line C L p q) (locate-certified X q rq)

-- ONE POINT MORE, where there is no triangle yet
pub phase-keeps : (room : ℕ) (g : Growing) (q : Point) → InRange q → Phase g → g.mesh.counts.faces ≤ 1 → Phase (grow_point room g q)
unfolding insert_by_count insert_first_vertex
phase-keeps room g q rq (none e z) f = rw e (one refl (rw (put_same g.positions 0 q) rq))
phase-keeps room g q rq (one e r) f = rw (ap (λ (C : Counts). C.vertices) e) (go (second-in g.mesh.links g.positions q r rq).outcome)
  where
    h : Growing
    h = insert_second_vertex g.mesh.links g.positions q

    go : ((h.fate ≡ 9) × (g.positions 0 ≡ q) × (h.mesh ≡ unflipped one_vertex g.mesh.links 0) × (h.positions ≡ g.positions))
        ⊎ ((h.fate ≡ 1) × Line h.mesh.counts h.mesh.links h.positions) → Phase h
    go (inl (a, b, c, d)) = one (ap (λ (m : Extended). m.counts) c) (rw d r)
    go (inr (a, X)) = line X
phase-keeps room g q rq (line X) f = many C.vertices refl (let a = X.chain.vertices in let b = X.chain.some in omega arith)
  where
    C : Counts
    C = g.mesh.counts

    L : Links
    L = g.mesh.links

    h : Growing
    h = insert_when_all_vertices_on_line room C L g.positions q

    go : Outcome C L g.positions q h → Phase h
    go (there a b c d) = line (subst (λ (m : Extended). Line m.counts m.links h.positions) (sym b)
        (subst (λ (p : ℕ → Point). Line C L p) (sym c) X))
    go (line a v b Y) = line Y
    go (off a v O) = mesh O.good (λ _. O.convex) (let b = O.counted in let s = X.chain.some in omega arith)

    many : (n : ℕ) → C.vertices ≡ n → 2 ≤ n → Phase (insert_by_count n room C L g.positions q)
    many zero e l = absurd (omega arith)
    many (suc zero) e l = absurd (omega arith)
    many (suc (suc n)) e l = go (line-grown X rq room).outcome
phase-keeps room g q rq (mesh G N l) f = absurd (omega arith)

-- and where there is one
mesh-keeps : (room : ℕ) (g : Growing) (q : Point) → InRange q → Good g.mesh.counts g.mesh.links g.positions
    → NoLeftCorner g.mesh.counts g.mesh.links g.positions → 1 < g.mesh.counts.faces → Phase (grow_in_mesh room g q)
unfolding grow_in_mesh
mesh-keeps room g q rq G N l =
    let P = insert-point room G q rq in
    let c = ap (λ (C : Counts). C.faces) P.counts in
    mesh P.good (λ f. insert-corners room G q rq N f) (omega arith)

-- ONE POINT OF THE GROWING SEED, and all of them
pub grow-keeps : (room : ℕ) (g : Growing) (q : Point) → InRange q → g.mesh.full ≡ false → Phase g → Phase (grow_on room g q)
unfolding grow_on
grow-keeps room g q rq f P = go (dec_lt 1 g.mesh.counts.faces) P
  where
    go : Dec (1 < g.mesh.counts.faces) → Phase g → Phase (grow_on room g q)
    go (no n) P = rw (le-ltb 1 g.mesh.counts.faces (omega arith)) (phase-keeps room g q rq P (omega arith))
    go (yes l) (none e z) = absurd (omega arith)
    go (yes l) (one e r) = absurd (let c = ap (λ (C : Counts). C.faces) e in omega arith)
    go (yes l) (line X) = absurd (let c = X.chain.faces in omega arith)
    go (yes l) (mesh G N u) = rw (lt-ltb 1 g.mesh.counts.faces l) (mesh-keeps room g q rq G (N f) l)

first-at : (g : Growing) (q : Point) → g.mesh.counts.vertices ≡ 0 → PointAt g q (insert_first_vertex g.mesh.links g.positions q)
unfolding insert_first_vertex
first-at g q e = record {
  used = omega arith;
  here = put_same g.positions 0 q;
  kept = λ l. absurd (omega arith);
  number = inl (refl, sym e, (omega arith));
}

second_at : (g : Growing) (q : Point) → g.mesh.counts.vertices ≡ 1 → PointAt g q (insert_second_vertex g.mesh.links g.positions q)
unfolding insert_second_vertex
second_at g q e = go (is_same_of (g.positions 0) q) refl
  where
    go : (t : Bool) → is_same_of (g.positions 0) q ≡ t → PointAt g q (cond t
        (record { fate = 9; vertex = 0; positions = g.positions; mesh = unflipped one_vertex g.mesh.links 0 })
        (record { fate = 1; vertex = 1; positions = put g.positions 1 q; mesh = unflipped two_vertices (setup_initial_two_vertices g.mesh.links 0 1) 0 }))
    go true s = record { used = omega arith; here = is_same (g.positions 0) q (from-true s); kept = λ l. refl; number = inr (refl, sym e) }
    go false s = record {
      used = omega arith;
      here = put_same g.positions 1 q;
      kept = λ {v} l. put_other g.positions 1 q v (omega arith);
      number = inl (refl, sym e, (omega arith));
    }

line_at : (g : Growing) (q : Point) {h : Growing} → LineGrown g.mesh.counts g.mesh.links g.positions q h → PointAt g q h
line_at g q {h} G = record { used = G.used; here = G.here; kept = G.kept; number = go G.outcome }
  where
    go : Outcome g.mesh.counts g.mesh.links g.positions q h
        → ((h.fate ≡ 1) × (h.vertex ≡ g.mesh.counts.vertices) × (h.mesh.counts.vertices ≡ g.mesh.counts.vertices + 1))
        ⊎ ((h.fate ≡ 9) × (h.mesh.counts.vertices ≡ g.mesh.counts.vertices))
    go (there a b c d) = inr (a, ap (λ (m : Extended). m.counts.vertices) b)
    go (line a v b Y) = inl (a, v, ap (λ (C : Counts). C.vertices) b)
    go (off a v O) = inl (a, v, O.vertices)

-- what a place of Change 2 says of the vertex
numbered : (C : Counts) (x : PositionInTriangulation) (n : ℕ) → n ≡ C.vertices + bit (is_new x)
    → ((cond {A = ℕ} (is_new x) 1 9 ≡ 1) × (position_vertex C x ≡ C.vertices) × (n ≡ C.vertices + 1))
    ⊎ ((cond {A = ℕ} (is_new x) 1 9 ≡ 9) × (n ≡ C.vertices))
unfolding is_new position_vertex
numbered C (PositionInTriangulation.OnFace f) n e = inl (refl, refl, e)
numbered C (PositionInTriangulation.OnEdge d) n e = inl (refl, refl, e)
numbered C (PositionInTriangulation.OutsideOfConvexHull d) n e = inl (refl, refl, e)
numbered C (PositionInTriangulation.OnVertex w) n e = inr (refl, (omega arith))

mesh-at : (room : ℕ) (g : Growing) (q : Point) → InRange q → Good g.mesh.counts g.mesh.links g.positions
    → PointAt g q (grow_in_mesh room g q)
unfolding grow_in_mesh
mesh-at room g q rq G =
    let P = insert-point room G q rq in
    let c = ap (λ (C : Counts). C.vertices) P.counts in
    record { used = P.used; here = P.here; kept = λ {v} l. P.kept v l; number = numbered g.mesh.counts _ _ c }

by_count : (room : ℕ) (g : Growing) (q : Point) → InRange q → (n : ℕ) → g.mesh.counts.vertices ≡ n → Phase g
    → g.mesh.counts.faces ≤ 1
    → PointAt g q (insert_by_count n room g.mesh.counts g.mesh.links g.positions q)
unfolding insert_by_count
by_count room g q rq zero e P f = first-at g q e
by_count room g q rq (suc zero) e P f = second_at g q e
by_count room g q rq (suc (suc n)) e (none z y) f = absurd (omega arith)
by_count room g q rq (suc (suc n)) e (one z r) f = absurd (let c = ap (λ (C : Counts). C.vertices) z in omega arith)
by_count room g q rq (suc (suc n)) e (line X) f = line_at g q (line-grown X rq room)
by_count room g q rq (suc (suc n)) e (mesh G N l) f = absurd (omega arith)

-- EACH POINT OF THE GROWING SEED IS AT ITS VERTEX
pub grow-at : (room : ℕ) (g : Growing) (q : Point) → InRange q → Phase g → PointAt g q (grow_on room g q)
unfolding grow_on
grow-at room g q rq P = go (dec_lt 1 g.mesh.counts.faces) P
  where
    go : Dec (1 < g.mesh.counts.faces) → Phase g → PointAt g q (grow_on room g q)
    go (no n) P = rw (le-ltb 1 g.mesh.counts.faces (omega arith)) (by_count room g q rq g.mesh.counts.vertices refl P (omega arith))
    go (yes l) (none e z) = absurd (omega arith)
    go (yes l) (one e r) = absurd (let c = ap (λ (C : Counts). C.faces) e in omega arith)
    go (yes l) (line X) = absurd (let c = X.chain.faces in omega arith)
    go (yes l) (mesh G N u) = rw (lt-ltb 1 g.mesh.counts.faces l) (mesh-at room g q rq G)
