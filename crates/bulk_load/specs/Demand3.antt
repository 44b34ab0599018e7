-- What a bulk load leaves, for a caller who has the rows and the answer alone: demand 3 with an empty seed for a finished mesh, and for
-- a line of points the order of its vertices, where each point is, and the heights. Definitions only; `SweptLaws`, `EndedLaws` and
-- `LoadLaws` prove it for every list of points.
use Rattle.std.specs.Prelude.{true, false, cond, ◌⊎◌, ◌≡◌, ℕ, ◌<◌, ◌≤◌, length, Ok}
use Rattle.convexity.specs.Convexity.{convexity}
use Rattle.corner.specs.Untouched.{Untouched}
use Rattle.dcel.specs.MeshRows.{links_in, places_in}
use Rattle.dcel.specs.Rows.{position_of}
use Rattle.finish.specs.Finished.{Finished}
use Rattle.finish.specs.declared.Totals.{Totals}
use Rattle.hull_center.specs.HullCenter.{hull_center}
use Rattle.line.specs.Grow.{one_vertex}
use Rattle.line.specs.Line.{Line}
use Rattle.math.specs.declared.Point.{Point}
use Rattle.mesh.specs.declared.Counts.{Counts}
use Rattle.mesh.specs.Mesh.{Links}
use Rattle.surface.specs.CarriedHeights.{CarriedHeights}
use Rattle.surface.specs.Surface.{surface_run_lent, surface_ran}
use Rattle.sweep.specs.Demand3.{fate_of, vertex_of, added_before, before_closing, Demand3From}
use Rattle.sweep.specs.Run.{RunLent, RunOutcome, run_lent, ran_with}
use Rattle.bulk_load.specs.BulkLoad.{BulkLoadLent, BulkLoadOutcome, count, counts, links, positions, seeded, rest_of, no_counts, bulk_load_of}

-- a bulk load as a run from a seed without a vertex
abbrev pub empty_seed : BulkLoadLent → RunLent
empty_seed l = run_lent no_counts l.mesh l.ring l.pending l.answers (hull_center (counts l) (positions l)) l.points

abbrev pub as_run : BulkLoadOutcome → RunOutcome
as_run r = ran_with r.answer.finish r.mesh r.ring r.pending r.answers

-- the mesh before the closing pass
unfoldable pub before_load_closes : BulkLoadLent → Links
before_load_closes l =
    cond (seeded l).ready (before_closing (rest_of l)) (convexity (length l.pending) (counts l) (positions l) (links l)).links

-- ---- a line of points
-- 02: "A line's links join its vertices in order of position, with no area; it may hold one vertex (its links 0), or none (no mesh entry
-- written)."
pub data LineOf (C : Counts) (L : Links) (p : ℕ → Point) : Type 0 where
  none : C ≡ no_counts → LineOf C L p
  one : C ≡ one_vertex → L.out 0 ≡ 0 → L.adjacent 0 ≡ 0 → LineOf C L p
  line : Line C L p → LineOf C L p

-- the vertices' heights, as the answers carry them
abbrev pub LoadHeights : BulkLoadLent → BulkLoadOutcome → Type 0
LoadHeights l r = CarriedHeights (surface_run_lent (empty_seed l) l.heights l.point_heights_of) (surface_ran (as_run r) r.heights)

pub record LineLoaded (l : BulkLoadLent) (r : BulkLoadOutcome) : Type 0 where
  pub order : LineOf r.answer.finish.counts (links_in r.mesh) (places_in r.mesh)
  -- 02: "A point placed in this phase has fate 1 with its vertex [..], one on an existing vertex Change 2's fate 9"; those of fate 1 are
  -- numbered in list order
  pub fates : (i : ℕ) → i < count l → (fate_of (as_run r) i ≡ 1) ⊎ (fate_of (as_run r) i ≡ 9)
  pub vertex : (i : ℕ) → i < count l → fate_of (as_run r) i ≡ 1 → vertex_of (as_run r) i ≡ added_before (as_run r) i
  -- each point is at the vertex in its answer, and there is no other vertex
  pub used : (i : ℕ) → i < count l → vertex_of (as_run r) i < r.answer.finish.counts.vertices
  pub place : (i : ℕ) → i < count l → places_in r.mesh (vertex_of (as_run r) i) ≡ position_of l.points i
  pub number : r.answer.finish.counts.vertices ≡ added_before (as_run r) (count l)
  pub heights : LoadHeights l r
  -- 01: "mesh and answer entries past the counts in use are untouched"; where there is no vertex that is every entry
  pub links-past : Untouched r.answer.finish.counts (links_in l.mesh) (links_in r.mesh)
  pub places-past : (u : ℕ) → r.answer.finish.counts.vertices ≤ u → places_in r.mesh u ≡ places_in l.mesh u

-- ---- a finished mesh
-- 02: "a mesh finished here meets demand 3 with an empty seed"; each vertex has its point's height
abbrev pub LoadFinished : BulkLoadLent → BulkLoadOutcome → Totals → Type 0
LoadFinished l r t =
    Demand3From (empty_seed l) (before_load_closes l) (as_run r) t
    × LoadHeights l r

-- ---- THE CONTRACT of the call: what is defined, and what that means where it is answered with no refusal number
pub record BulkLoaded (l : BulkLoadLent) (r : BulkLoadOutcome) : Type 0 where
  pub is : r ≡ bulk_load_of l
  pub finished : (t : Totals) → r.answer.finish.finished ≡ Ok t → r.answer.line ≡ false → LoadFinished l r t
  pub lined : r.answer.line ≡ true → LineLoaded l r
