-- What one more point makes of no vertex, of one, and of a line of points: a line, or, off the line, a good mesh; with the
-- point at its vertex and no flip. Assumes nothing.
use Rattle.std.specs.Prelude.{Bool, true, false, not, cond, ◌≡◌, ◌⊎◌, ℕ, zero, suc, ◌+◌, ◌<◌, ◌≤◌, ℤ, pos, ◌<ℤ◌}
use Rattle.std.proofs.Math.Path.{refl}
use Rattle.std.proofs.Common.{sym, ◌∙◌, ap, subst, ⊎_elim, inl, inr}
use Rattle.std.proofs.Math.Decide.{dec_lt}
use native.Mathlib.Omega.{arith}
use borrow.Author.Tests.{lt-ltb, le-ltb}
use Rattle.std.proofs.Math.Dec.{T}
use Rattle.std.specs.Int.Signed.{<ℤ_irrefl}
use Rattle.convexity.specs.Convexity.{NoLeftCorner}
use Rattle.corner.specs.Corner.{Extended}
use Rattle.math.specs.declared.Point.{Point}
use Rattle.math.specs.Determinant.{orient2d, by_sign, InRange}
use Rattle.mesh.specs.declared.Counts.{Counts}
use Rattle.mesh.specs.Mesh.{Links, In, to}
use Rattle.mesh.specs.Good.{Good}
use Rattle.location.specs.declared.PositionInTriangulation.{PositionInTriangulation}
use Rattle.skipped.specs.Insert.{unflipped, is_new, position_vertex}
use Rattle.skipped.proofs.InsertLawsFacts.{insert-point}
use Rattle.skipped.proofs.InsertCorners.{insert-corners}
use Rattle.sums.specs.Bit.{bit}
use Rattle.sums.proofs.BitLaws.{is_true, is_false, from-true, and_both, test}
use Rattle.sums.specs.Bounded.{first_below}
use Rattle.sums.proofs.BoundedLaws.{first-below-passes, first-below-at-most}
use Rattle.sums.proofs.HalfLaws.{rev-below}
use Rattle.sums.specs.Put.{put}
use Rattle.sums.proofs.PutLaws.{put_same, put_other}
use Rattle.line.specs.Operations.{setup_initial_two_vertices, with_line_vertex, two_vertices}
use Rattle.line.specs.Order.{comes_before, is_same_of, key}
use Rattle.line.specs.Line.{Line}
use Rattle.line.specs.OffLine.{OffLine}
use Rattle.line.specs.declared.PositionWhenAllVerticesOnLine.{PositionWhenAllVerticesOnLine}
use Rattle.line.specs.declared.PositionWhenAllVerticesOnLine.TheVariants.{OnEdge, OnVertex, NotOnLine, ExtendingLine}
use Rattle.line.specs.Locate.{vertex_on, locate_on_line, locate_when_all_vertices_on_line}
use Rattle.line.specs.Grow.{Growing, one_vertex, insert_first_vertex, insert_second_vertex, insert_at_line_place, insert_when_all_vertices_on_line, insert_by_count, grow_point, grow_in_mesh, grow_on}

-- ---- one vertex: the second point is the same, or makes a line of two
pub record SecondIn (L : Links) (p : ℕ → Point) (q : Point) (g : Growing) : Type 0 where
  pub here : g.positions g.vertex ≡ q
  pub outcome : ((g.fate ≡ 9) × (p 0 ≡ q) × (g.mesh ≡ unflipped one_vertex L 0) × (g.positions ≡ p))
      ⊎ ((g.fate ≡ 1) × Line g.mesh.counts g.mesh.links g.positions)

-- ---- a line of two or more
-- what has become of the line: on a vertex nothing; on the line a line with one vertex more; off it a good mesh, with a triangle
-- over each edge that the line had
pub data Outcome (C : Counts) (L : Links) (p : ℕ → Point) (q : Point) (g : Growing) : Type 0 where
  there : g.fate ≡ 9 → g.mesh ≡ unflipped C L 0 → g.positions ≡ p → p g.vertex ≡ q → Outcome C L p q g
  line : g.fate ≡ 1 → g.vertex ≡ C.vertices → g.mesh.counts ≡ with_line_vertex C
      → Line g.mesh.counts g.mesh.links g.positions → Outcome C L p q g
  off : g.fate ≡ 1 → g.vertex ≡ C.vertices → OffLine C g.positions g.mesh → Outcome C L p q g

pub record LineGrown (C : Counts) (L : Links) (p : ℕ → Point) (q : Point) (g : Growing) : Type 0 where
  pub kept : {v : ℕ} → v < C.vertices → g.positions v ≡ p v
  pub used : g.vertex < g.mesh.counts.vertices
  pub here : g.positions g.vertex ≡ q
  pub flips : g.mesh.flips ≡ 0
  pub full : g.mesh.full ≡ false
  pub outcome : Outcome C L p q g

-- ---- the phase: no vertex, one, a line of points, or a good mesh, without a left corner unless a flip was refused
pub data Phase (g : Growing) : Type 0 where
  none : g.mesh.counts.vertices ≡ 0 → g.mesh.counts.faces ≡ 0 → Phase g
  one : g.mesh.counts ≡ one_vertex → InRange (g.positions 0) → Phase g
  line : Line g.mesh.counts g.mesh.links g.positions → Phase g
  mesh : Good g.mesh.counts g.mesh.links g.positions
      → (g.mesh.full ≡ false → NoLeftCorner g.mesh.counts g.mesh.links g.positions) → 1 < g.mesh.counts.faces → Phase g

-- ---- where each point is
-- The point is at its vertex, which is in use; the others keep their positions. A point of fate 1 is a new vertex with the
-- next number, one of fate 9 is at a vertex that was there
pub record PointAt (g : Growing) (q : Point) (h : Growing) : Type 0 where
  pub used : h.vertex < h.mesh.counts.vertices
  pub here : h.positions h.vertex ≡ q
  pub kept : {v : ℕ} → v < g.mesh.counts.vertices → h.positions v ≡ g.positions v
  pub number : ((h.fate ≡ 1) × (h.vertex ≡ g.mesh.counts.vertices) × (h.mesh.counts.vertices ≡ g.mesh.counts.vertices + 1))
      ⊎ ((h.fate ≡ 9) × (h.mesh.counts.vertices ≡ g.mesh.counts.vertices))
