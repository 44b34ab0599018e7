-- How many edges and faces a mesh that keeps the rules has, by its vertices and its boundary's length. So rows of 6N
-- half-edges and 2N faces hold every mesh of at most N vertices, with room for what an operation adds. Assumes nothing.
use Rattle.std.specs.Prelude.{◌≡◌, ℕ, ◌+◌, ◌-◌, ◌*◌, ◌/◌, ◌≤◌, ℤ, pos, ◌+ℤ◌, nat_abs}
use Rattle.std.proofs.Common.{sym, ◌∙◌, ap₂, mul-one}
use Rattle.std.proofs.Math.Path.{ap}
use Rattle.std.proofs.Math.Decide.{ℕ_discrete}
use native.Mathlib.Omega.{arith}
use Rattle.sums.specs.Half.{rev}
use Rattle.sums.proofs.HalfLaws.{rev-below}
use Rattle.sums.proofs.IterateLaws.{period-listed}
use Rattle.sums.specs.Listed.{pigeonhole}
use Rattle.sums.proofs.SumLaws.{sum-const}
use Rattle.mesh.specs.declared.Counts.{Counts}
use Rattle.mesh.specs.Mesh.{Links}
use Rattle.mesh.specs.Wf.{Wf}
use Rattle.mesh.specs.Area.{boundary_length, hull_edge}
use Rattle.mesh.proofs.BoundaryLaws.{next-inverse, first<, first-outer, boundary-period, boundary-below, boundary-outer, boundary-least, by-face}

module _ {C : Counts} {L : Links} (W : Wf C L) where
  -- each half-edge is on the boundary, or one of the three of an inner face
  pub count-halves : 2 * C.edges ≡ boundary_length C L + 3 * (C.faces - 1)
  count-halves = omega (
    arith,
    simp mul-one at (ap nat_abs
        (sym (sum-const (2 * C.edges) 1) ∙ by-face W (λ _. pos 1)
        ∙ ap₂ (λ (u v : ℤ). u +ℤ v) (sum-const (boundary_length C L) 1) (sum-const (C.faces - 1) 3))),
  )

  -- there is an inner face: the one beside a boundary edge
  pub faces-least : 2 ≤ C.faces
  faces-least =
      let s = W.faces.side (first< W) (first-outer W) in
      let l = W.ranges.face< (rev-below C.edges (first< W)) in
      omega arith

  -- with Euler's count: E = 3V - 3 - h and F = 2V - 1 - h
  pub count-edges : C.edges + 3 + boundary_length C L ≡ 3 * C.vertices
  count-edges = let c = count-halves in let e = W.euler in let s = W.some in omega arith

  pub count-faces : C.faces + 1 + boundary_length C L ≡ 2 * C.vertices
  count-faces = let c = count-edges in let e = W.euler in omega arith

  pub vertices-least : 3 ≤ C.vertices
  vertices-least = let c = count-faces in let h = boundary-least W in let f = faces-least in omega arith

  -- ---- the rows hold it
  pub halves-fit : {N : ℕ} → C.vertices ≤ N → 2 * C.edges + 12 ≤ 6 * N
  halves-fit l = let c = count-edges in let h = boundary-least W in omega arith

  pub faces-fit : {N : ℕ} → C.vertices ≤ N → C.faces + 4 ≤ 2 * N
  faces-fit l = let c = count-faces in let h = boundary-least W in omega arith

  -- ---- by the faces alone
  -- an edge has one side at most on the boundary
  pub boundary-few : boundary_length C L ≤ C.edges
  unfolding rev
  boundary-few = pigeonhole C.edges (boundary_length C L) (λ k. hull_edge L k / 2) (record {
    below = λ k _. let l = boundary-below W k in omega arith;
    once = λ j k i l e. (period-listed (next-inverse W) (first< W) (boundary-period W)).once j k i l
        (same (hull_edge L j) (hull_edge L k) e (ℕ_discrete (hull_edge L j) (rev (hull_edge L k))) (apart j k));
  })
    where
      apart : (j k : ℕ) → hull_edge L j ≡ rev (hull_edge L k) → ⊥
      apart j k z =
          let o = boundary-outer W j in let t = ap L.face z in
          let s = W.faces.side (boundary-below W k) (boundary-outer W k) in
          omega arith

      same : (d e : ℕ) → d / 2 ≡ e / 2 → Dec (d ≡ rev e) → (d ≡ rev e → ⊥) → d ≡ e
      same d e q (yes z) n = absurd (n z)
      same d e q (no z) n = omega arith

  pub vertices-few : C.vertices + 1 ≤ 2 * C.faces
  vertices-few = let a = boundary-few in let b = count-halves in let c = count-edges in let d = faces-least in omega arith
