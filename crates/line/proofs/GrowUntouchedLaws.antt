-- Laws of specs/GrowUntouched.antt.
use Rattle.std.specs.Prelude.{Bool, true, false, cond, ◌≡◌}
use Rattle.std.proofs.Math.Path.{refl}
use Rattle.std.proofs.Common.{ap, ⊎_elim, lt-ltb, le-ltb}
use Prim.Native.Nat.{ℕ, zero, suc, ◌+◌, ◌*◌, ◌<◌, ◌≤◌}
use Rattle.std.proofs.Math.Decide.{dec_lt}
use native.Mathlib.Omega.{arith}
use Rattle.corner.specs.Untouched.{Untouched, Grown, untouched-none, past}
use Rattle.math.specs.declared.Point.{Point}
use Rattle.math.specs.Determinant.{InRange}
use Rattle.mesh.specs.declared.Counts.{Counts}
use Rattle.mesh.specs.Mesh.{Links}
use Rattle.mesh.proofs.CountsLaws.{halves-fit, faces-fit}
use Rattle.mesh.specs.Good.{Good}
use Rattle.mesh.specs.Wf.{Ranges}
use Rattle.skipped.specs.Insert.{unflipped}
use Rattle.skipped.proofs.InsertLawsFacts.{insert-point}
use Rattle.sums.specs.Put.{put}
use Rattle.sums.proofs.PutLaws.{put_same, put_other}
use Rattle.line.specs.Operations.{setup_initial_two_vertices, with_line_vertex, two_vertices}
use Rattle.line.proofs.ChainLaws.{in-rev}
use Rattle.line.proofs.ChainRules.{chain-rules}
use Rattle.line.specs.Order.{is_same_of}
use Rattle.line.specs.Line.{Line}
use Rattle.line.proofs.LineLawsFacts.{line-facing, line-off}
use Rattle.line.specs.declared.PositionWhenAllVerticesOnLine.{PositionWhenAllVerticesOnLine}
use Rattle.line.specs.declared.PositionWhenAllVerticesOnLine.TheVariants.{OnEdge, OnVertex, NotOnLine, ExtendingLine}
use Rattle.line.specs.Locate.{locate_when_all_vertices_on_line}
use Rattle.line.proofs.LocateFacts.{LineCertified}
use Rattle.line.proofs.LocateLaws.{locate-certified}
use Rattle.line.specs.Grow.{Growing, one_vertex, insert_first_vertex, insert_second_vertex, insert_at_line_place, insert_when_all_vertices_on_line, insert_by_count, grow_in_mesh, grow_on}
use Rattle.line.proofs.GrowFacts.{nothing}
use Rattle.line.specs.GrowLaws.{Phase, none, one, line, mesh}
use Rattle.line.proofs.GrowLawsFacts.{grow-keeps, grow-at}
use Rattle.line.proofs.LineUntouched.{extend-untouched, split-untouched, two-untouched, off-untouched}
use Rattle.line.specs.GrowUntouched.{Leaves, Fits}

first-leaves : {C : Counts} (L : Links) (p : ℕ → Point) (q : Point) → C.vertices ≡ 0 → C.faces ≡ 0
    → Leaves C L p (insert_first_vertex L p q)
unfolding insert_first_vertex
first-leaves L p q e z = record {
  untouched = let a : 0 < 1 = omega arith in record {
    next = λ x k. refl;
    prev = λ x k. refl;
    face = λ x k. refl;
    origin = λ x k. refl;
    out = λ x k. past _ _ _ k a;
    adjacent = λ x k. past _ _ _ k a;
  };
  grown = λ b. record { vertices = omega arith; edges = omega arith; faces = omega arith };
  past = λ u k. let a : 0 < 1 = omega arith in past _ _ _ k a;
}

second-leaves : (L : Links) (p : ℕ → Point) (q : Point) → Leaves one_vertex L p (insert_second_vertex L p q)
unfolding insert_second_vertex
second-leaves L p q = go (is_same_of (p 0) q)
  where
    go : (t : Bool) → Leaves one_vertex L p (cond t
        (record { fate = 9; vertex = 0; positions = p; mesh = unflipped one_vertex L 0 })
        (record { fate = 1; vertex = 1; positions = put p 1 q; mesh = unflipped two_vertices (setup_initial_two_vertices L 0 1) 0 }))
    go true = record {
      untouched = untouched-none;
      grown = λ _. record { vertices = omega arith; edges = omega arith; faces = omega arith };
      past = λ u k. refl;
    }
    go false = record {
      untouched = two-untouched L;
      grown = λ _. record { vertices = omega arith; edges = omega arith; faces = omega arith };
      past = λ u k. let a : 1 < 2 = omega arith in past _ _ _ k a;
    }

module _ {C : Counts} {L : Links} {p : ℕ → Point} (X : Line C L p) {q : Point} (rq : InRange q) (room : ℕ) where
  R : Ranges C L
  R = (chain-rules X.chain).ranges

  new-past : (n u : ℕ) → n ≡ C.vertices + 1 → n ≤ u → put p C.vertices q u ≡ p u
  new-past n u e k = put_other p C.vertices q u (λ z. omega arith)

  line-more : Grown C (with_line_vertex C)
  line-more = record { vertices = omega arith; edges = omega arith; faces = omega arith }

  place-leaves : (x : PositionWhenAllVerticesOnLine) → LineCertified X q x → Leaves C L p (insert_at_line_place room C L p q x)
  unfolding insert_at_line_place
  place-leaves (OnVertex v) c = record {
    untouched = untouched-none;
    grown = λ _. record { vertices = omega arith; edges = omega arith; faces = omega arith };
    past = λ u k. refl;
  }
  place-leaves (OnEdge e) c = record {
    untouched = split-untouched R (rw c.edge (in-rev X.chain {i = suc c.place} (let b = c.below in omega arith)));
    grown = λ _. line-more;
    past = λ u k. new-past _ u refl k;
  }
  place-leaves (ExtendingLine v) c = record {
    untouched = extend-untouched R (⊎_elim (λ z. rw z.0 (X.chain.placed {i = 0} (omega arith)))
        (λ z. rw z.0 (X.chain.placed {i = C.edges} (omega arith))) c.end);
    grown = λ _. line-more;
    past = λ u k. new-past _ u refl k;
  }
  place-leaves (NotOnLine e) c =
      let O = line-off X rq room c.used c.left in
      let F = line-facing X rq c.used c.left in
      record {
        untouched = rw F.is (off-untouched F.chain F.seen (put_same p C.vertices q) room {k = F.place} F.within);
        grown = λ _. let a = O.vertices in let b = O.edges in let f = O.counted in let z = X.chain.faces in
            record { vertices = omega arith; edges = omega arith; faces = omega arith };
        past = λ u k. new-past _ u O.vertices k;
      }

  line-leaves : Leaves C L p (insert_when_all_vertices_on_line room C L p q)
  unfolding insert_when_all_vertices_on_line
  line-leaves = place-leaves (locate_when_all_vertices_on_line C L p q) (locate-certified X q rq)

-- the law of one point, from the parts of the growing mesh
abbrev LeavesOn : Growing → Growing → Type 0
LeavesOn g h = Leaves g.mesh.counts g.mesh.links g.positions h

mesh-leaves : (room : ℕ) (g : Growing) (q : Point) → InRange q → Good g.mesh.counts g.mesh.links g.positions
    → LeavesOn g (grow_in_mesh room g q)
unfolding grow_in_mesh
mesh-leaves room g q rq G =
    let P = insert-point room G q rq in
    let v = ap (λ (C : Counts). C.vertices) P.counts in
    let e = ap (λ (C : Counts). C.edges) P.counts in
    let f = ap (λ (C : Counts). C.faces) P.counts in
    record {
      untouched = P.untouched;
      grown = λ _. record { vertices = omega arith; edges = omega arith; faces = omega arith };
      past = P.past;
    }

by_count : (room : ℕ) (g : Growing) (q : Point) → InRange q → (n : ℕ) → g.mesh.counts.vertices ≡ n → Phase g
    → g.mesh.counts.faces ≤ 1
    → LeavesOn g (insert_by_count n room g.mesh.counts g.mesh.links g.positions q)
unfolding insert_by_count
by_count room g q rq n e (none z y) f = let k : n ≡ 0 = omega arith in rw k (first-leaves g.mesh.links g.positions q z y)
by_count room g q rq n e (one z r) f =
    let k : n ≡ 1 = (let c = ap (λ (C : Counts). C.vertices) z in omega arith) in
    rw (k, z) (second-leaves g.mesh.links g.positions q)
by_count room g q rq zero e (line X) f = absurd (let a = X.chain.vertices in omega arith)
by_count room g q rq (suc zero) e (line X) f = absurd (let a = X.chain.vertices in let b = X.chain.some in omega arith)
by_count room g q rq (suc (suc n)) e (line X) f = line-leaves X rq room
by_count room g q rq n e (mesh G N l) f = absurd (omega arith)

pub grow-leaves : (room : ℕ) (g : Growing) (q : Point) → InRange q → Phase g
    → Leaves g.mesh.counts g.mesh.links g.positions (grow_on room g q)
unfolding grow_on
grow-leaves room g q rq P = go (dec_lt 1 g.mesh.counts.faces) P
  where
    go : Dec (1 < g.mesh.counts.faces) → Phase g → LeavesOn g (grow_on room g q)
    go (no n) P = rw (le-ltb 1 g.mesh.counts.faces (omega arith))
        (by_count room g q rq g.mesh.counts.vertices refl P (omega arith))
    go (yes l) (none e z) = absurd (omega arith)
    go (yes l) (one e r) = absurd (let c = ap (λ (C : Counts). C.faces) e in omega arith)
    go (yes l) (line X) = absurd (let c = X.chain.faces in omega arith)
    go (yes l) (mesh G N u) = rw (lt-ltb 1 g.mesh.counts.faces l) (mesh-leaves room g q rq G)

pub nothing-fits : (L : Links) (p : ℕ → Point) → Fits (nothing L p).mesh.counts
nothing-fits L p = record { faces = omega arith; edges = omega arith }

pub phase-fits : {g : Growing} → Phase g → 0 < g.mesh.counts.vertices → Fits g.mesh.counts
phase-fits (none e z) l = absurd (omega arith)
phase-fits (one e r) l = rw e (record { faces = omega arith; edges = omega arith })
phase-fits (line X) l = let a = X.chain.vertices in let b = X.chain.faces in record { faces = omega arith; edges = omega arith }
phase-fits {g} (mesh G N u) l =
    let n = g.mesh.counts.vertices in
    let h = halves-fit G.wf {N = n} (omega arith) in let f = faces-fit G.wf {N = n} (omega arith) in
    record { faces = omega arith; edges = omega arith }

-- ---- THE LAWS OF ONE POINT OF THE GROWING SEED
module _ (room : ℕ) (g : Growing) (q : Point) (rq : InRange q) (P : Phase g) where
  -- links past the counts in use are untouched
  pub grow-untouched : Untouched (grow_on room g q).mesh.counts g.mesh.links (grow_on room g q).mesh.links
  grow-untouched = (grow-leaves room g q rq P).untouched

  -- positions past the vertices in use are
  pub grow-past : (u : ℕ) → (grow_on room g q).mesh.counts.vertices ≤ u → (grow_on room g q).positions u ≡ g.positions u
  grow-past = (grow-leaves room g q rq P).past

  -- no count shrinks
  pub grow-grown : Fits g.mesh.counts → Grown g.mesh.counts (grow_on room g q).mesh.counts
  grow-grown F = (grow-leaves room g q rq P).grown F.edges

  -- the rows hold it
  pub grow-fits : g.mesh.full ≡ false → Fits (grow_on room g q).mesh.counts
  grow-fits f = phase-fits (grow-keeps room g q rq f P) (let u = (grow-at room g q rq P).used in omega arith)
