-- Laws of specs/OneVertex.antt.
use Rattle.std.specs.Prelude.{Bool, true, false, cond, ◌⊎◌, ◌≡◌, refl, ℕ, zero, suc, ◌+◌, ◌<◌, ◌≤◌}
use Rattle.std.proofs.Common.{inl, inr, sym, ◌∙◌, ap, arith, lt-ltb, le-ltb}
use Rattle.std.proofs.Math.Decide.{dec_lt}
use Rattle.line.specs.Grow.{Growing, one_vertex, insert_first_vertex, insert_second_vertex, insert_by_count, grow_point, grow_on}
use Rattle.line.specs.GrowLaws.{Phase, none, one, line, mesh, PointAt}
use Rattle.line.proofs.GrowLawsFacts.{grow-at}
use Rattle.line.specs.Operations.{setup_initial_two_vertices, two_vertices}
use Rattle.line.specs.Order.{is_same_of}
use Rattle.math.specs.declared.Point.{Point}
use Rattle.math.specs.Determinant.{InRange}
use Rattle.mesh.specs.declared.Counts.{Counts}
use Rattle.mesh.specs.Mesh.{Links}
use Rattle.mesh.proofs.CountsLaws.{vertices-least}
use Rattle.skipped.specs.Insert.{unflipped}
use Rattle.sums.specs.Put.{put}
use Rattle.sums.proofs.PutLaws.{put_same}
use Rattle.bulk_load.specs.OneVertex.{OneZero}

second-zero : (L : Links) (p : ℕ → Point) (q : Point) → (L.out 0 ≡ 0) × (L.adjacent 0 ≡ 0) → OneZero (insert_second_vertex L p q)
unfolding insert_second_vertex
second-zero L p q z = go (is_same_of (p 0) q)
  where
    go : (b : Bool) → OneZero (cond {A = Growing} b
        (record { fate = 9; vertex = 0; positions = p; mesh = unflipped one_vertex L 0 })
        (record { fate = 1; vertex = 1; positions = put p 1 q; mesh = unflipped two_vertices (setup_initial_two_vertices L 0 1) 0 }))
    go true e = z
    go false e = absurd (let v = ap (λ (C : Counts). C.vertices) e in omega arith)

-- two vertices or more do not become one
many-zero : (room : ℕ) (g : Growing) (q : Point) → InRange q → Phase g → 2 ≤ g.mesh.counts.vertices → OneZero (grow_on room g q)
many-zero room g q rq P l e = go (grow-at room g q rq P).number
  where
    h : Growing
    h = grow_on room g q

    go : ((h.fate ≡ 1) × (h.vertex ≡ g.mesh.counts.vertices) × (h.mesh.counts.vertices ≡ g.mesh.counts.vertices + 1))
        ⊎ ((h.fate ≡ 9) × (h.mesh.counts.vertices ≡ g.mesh.counts.vertices))
        → (h.mesh.links.out 0 ≡ 0) × (h.mesh.links.adjacent 0 ≡ 0)
    go (inl (a, b, c)) = absurd (let v = ap (λ (C : Counts). C.vertices) e in omega arith)
    go (inr (a, c)) = absurd (let v = ap (λ (C : Counts). C.vertices) e in omega arith)

by_count : (room : ℕ) (g : Growing) (q : Point) → OneZero g → Phase g → (n : ℕ) → g.mesh.counts.vertices ≡ n → n < 2
    → OneZero (insert_by_count n room g.mesh.counts g.mesh.links g.positions q)
unfolding insert_by_count insert_first_vertex
by_count room g q z P zero e l = λ _. (put_same g.mesh.links.out 0 0, put_same g.mesh.links.adjacent 0 0)
by_count room g q z P (suc zero) e l = second-zero g.mesh.links g.positions q (z (counts-one P))
  where
    counts-one : Phase g → g.mesh.counts ≡ one_vertex
    counts-one (none a b) = absurd (omega arith)
    counts-one (one a r) = a
    counts-one (line X) = absurd (let v = X.chain.vertices in let s = X.chain.some in omega arith)
    counts-one (mesh G N k) = absurd (let v = vertices-least G.wf in omega arith)
by_count room g q z P (suc (suc n)) e l = absurd (omega arith)

pub grow-one : (room : ℕ) (g : Growing) (q : Point) → InRange q → Phase g → OneZero g → OneZero (grow_on room g q)
unfolding grow_on
grow-one room g q rq P z = go (dec_lt 1 g.mesh.counts.vertices) P
  where
    few : Phase g → g.mesh.counts.vertices ≤ 1 → g.mesh.counts.faces ≤ 1
    few (none a b) l = omega arith
    few (one a r) l = let c = ap (λ (C : Counts). C.faces) a in omega arith
    few (line X) l = let c = X.chain.faces in omega arith
    few (mesh G N k) l = absurd (let v = vertices-least G.wf in omega arith)

    go : Dec (1 < g.mesh.counts.vertices) → Phase g → OneZero (grow_on room g q)
    go (yes l) P = many-zero room g q rq P (omega arith)
    go (no l) P = let f = few P (omega arith) in
        rw (le-ltb 1 g.mesh.counts.faces f) (by_count room g q z P g.mesh.counts.vertices refl (omega arith))
