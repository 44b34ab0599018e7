-- The heights after a run that is answered with no refusal number, vertex by vertex, as a caller finds them in the answers: the vertices'
-- heights are carried through. They follow from the vertices' numbers, which demand 3 says, and from what the answers store. Assumes
-- nothing.
use Rattle.std.specs.Prelude.{◌||◌, ◌≢◌, ◌⊎◌, ◌≡◌, refl, ℕ, ◌+◌, ◌<◌, ◌≤◌, T, leb, eqb, ℤ, length}
use Rattle.std.proofs.Common.{inl, inr, ◌∙◌, arith, ne_eqb, leb→le}
use Rattle.std.proofs.Math.Decide.{ℕ_discrete}
use Rattle.dcel.specs.Rows.{row_from_of}
use Rattle.dcel.specs.Views.{length_from}
use Rattle.finish.specs.declared.Totals.{Totals}
use Rattle.heights.specs.Heights.{height_of}
use Rattle.mesh.specs.Mesh.{Links}
use Rattle.mesh_check.specs.Check.{point_count}
use Rattle.sums.specs.Bit.{bit}
use Rattle.sums.proofs.BitLaws.{eq_test, and_left, and_right}
use Rattle.sums.specs.Bounded.{count}
use Rattle.sums.proofs.BoundedLaws.{count-before, count-parts}
use Rattle.sweep.specs.Run.{RunLent, RunOutcome}
use Rattle.sweep.specs.Demand3.{fate_of, vertex_of, is_entered, is_vertex, added_before, entered_before, Demand3From}
use Rattle.surface.specs.StoredHeights.{is_from, is_inserted, stored_from, answered_heights}
use Rattle.surface.specs.Surface.{SurfaceRunLent, SurfaceRan}

-- of the points from number k on, none was put in at vertex u
abbrev pub NoneFrom : SurfaceRunLent → RunOutcome → ℕ → ℕ → Type 0
NoneFrom g r k u = (j : ℕ) → k ≤ j → j < point_count g.run.points → T (is_inserted (fate_of r j)) → vertex_of r j ≢ u

pub record CarriedHeights (g : SurfaceRunLent) (w : SurfaceRan) : Type 0 where
  -- a vertex at which skipped points were put in (fates 6 to 9), as a new one or on one that was there, has the height of the last of them,
  pub inserted : (i : ℕ) → i < point_count g.run.points → T (is_inserted (fate_of w.call i))
      → NoneFrom g w.call (i + 1) (vertex_of w.call i)
      → height_of w.heights (vertex_of w.call i) ≡ height_of g.point_heights_of i
  -- any other vertex that a step added (fate 1) has its point's,
  pub added : (i : ℕ) → i < point_count g.run.points → fate_of w.call i ≡ 1
      → NoneFrom g w.call 0 (vertex_of w.call i)
      → height_of w.heights (vertex_of w.call i) ≡ height_of g.point_heights_of i
  -- any other vertex of the seed keeps its own,
  pub seed : (u : ℕ) → u < g.run.counts.vertices → NoneFrom g w.call 0 u
      → height_of w.heights u ≡ height_of g.heights u
  -- and entries past the counts in use are untouched
  pub past : (u : ℕ) → w.call.answer.counts.vertices ≤ u → height_of w.heights u ≡ height_of g.heights u
  pub length-same : length w.heights ≡ length g.heights

-- ---- from the answers
-- what the heights ask of the vertices' numbers; clauses of demand 3
pub record Numbered (l : RunLent) (r : RunOutcome) : Type 0 where
  pub vertex : (i : ℕ) → i < point_count l.points → fate_of r i ≡ 1 → vertex_of r i ≡ l.counts.vertices + added_before r i
  pub entered : (i : ℕ) → i < point_count l.points → T (is_entered (fate_of r i))
      → vertex_of r i ≡ l.counts.vertices + added_before r (point_count l.points) + entered_before r i
  pub number : r.answer.counts.vertices
      ≡ l.counts.vertices + count (point_count l.points) (λ i. is_vertex (fate_of r i))
  pub met : (i : ℕ) → i < point_count l.points → fate_of r i ≡ 9 → vertex_of r i < r.answer.counts.vertices
