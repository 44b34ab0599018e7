-- DEMAND 3: what a run that is answered with no refusal number leaves, one field for each of its clauses, each beside its words; and what a
-- run leaves that is refused. Stated of the rows and the answer alone, as a caller finds them. `RunLaws` proves it for every seed, centre
-- and list of points.
use Rattle.std.specs.Prelude.{Bool, ◌||◌, ◌≡◌, ℕ, ◌+◌, ◌*◌, ◌<◌, ◌≤◌, T, eqb, pos, ◌-ℤ◌, length, ◌≤ℤ◌, Ok}
use Rattle.closing.specs.Closing.{Closing, closing_pass}
use Rattle.convexity.specs.Convexity.{NoLeftCorner}
use Rattle.dcel.specs.MeshRows.{links_in, places_in}
use Rattle.dcel.specs.Rows.{position_of, row_of}
use Rattle.finish.specs.Finished.{Finished}
use Rattle.finish.specs.declared.Totals.{Totals}
use Rattle.finish.specs.CallLeaves.{CallLeaves}
use Rattle.mesh.specs.Mesh.{Links}
use Rattle.mesh.specs.Area.{LeftTurning, area_total, boundary_area, height_sum}
use Rattle.mesh.specs.Circle.{LocallyDelaunay}
use Rattle.mesh.specs.FlipRun.{FlipRun}
use Rattle.mesh.specs.Wf.{Wf}
use Rattle.mesh_check.specs.Check.{point_count}
use Rattle.ring_rows.specs.RingRows.{ring_zeros}
use Rattle.skipped.specs.Fill.{fill_from, convex_after}
use Rattle.sums.specs.Bounded.{count}
use Rattle.sweep.specs.Run.{RunLent, RunOutcome, answer_words, answer_in, sweep_of, skipped_of, passed_of, run_answers, run_of}

-- the answer of point i: fate, vertex, faces, flips
abbrev pub fate_of : RunOutcome → ℕ → ℕ
fate_of r i = answer_in r.answers i 0

abbrev pub vertex_of : RunOutcome → ℕ → ℕ
vertex_of r i = answer_in r.answers i 1

-- ---- fates by number
-- a skipped point that became a vertex
unfoldable pub is_entered : ℕ → Bool
is_entered f = eqb f 6 || (eqb f 7 || eqb f 8)

-- 02: "In demand 3 fates 1, 6, 7 and 8 now count as "added"."
unfoldable pub is_vertex : ℕ → Bool
is_vertex f = eqb f 1 || is_entered f

-- 02: "01's fates 3 to 5 then remain only as answers of a single step"
unfoldable pub is_run_fate : ℕ → Bool
is_run_fate f = is_vertex f || (eqb f 2 || eqb f 9)

-- how many of the first n points were added by a step, and how many were skipped and became a vertex
abbrev pub added_before : RunOutcome → ℕ → ℕ
added_before r n = count n (λ i. eqb (fate_of r i) 1)

abbrev pub entered_before : RunOutcome → ℕ → ℕ
entered_before r n = count n (λ i. is_entered (fate_of r i))

-- the mesh before the closing pass: after the convexity passes that follow the last skipped point
abbrev pub before_closing : RunLent → Links
before_closing l =
    let n = point_count l.points in
    let room = length l.pending in
    (convex_after room (fill_from room (sweep_of l n).positions (skipped_of l) (position_of l.points) n (passed_of l))).links

-- ---- the run is finished: l is what it was lent, `before` the mesh before its closing pass
pub record Demand3From (l : RunLent) (before : Links) (r : RunOutcome) (t : Totals) : Type 0 where
  -- "the finished mesh holds the seed's vertices under their own numbers and positions,
  pub seed : (u : ℕ) → u < l.counts.vertices → places_in r.mesh u ≡ places_in l.mesh u
  -- one vertex for each point whose fate is added, at that point's position
  pub place : (i : ℕ) → i < point_count l.points → T (is_vertex (fate_of r i))
      → places_in r.mesh (vertex_of r i) ≡ position_of l.points i
  -- and under the number in its answer: those that a step added first, in list order, then those that were skipped, in list order,
  pub vertex : (i : ℕ) → i < point_count l.points → fate_of r i ≡ 1 → vertex_of r i ≡ l.counts.vertices + added_before r i
  pub entered : (i : ℕ) → i < point_count l.points → T (is_entered (fate_of r i))
      → vertex_of r i ≡ l.counts.vertices + added_before r (point_count l.points) + entered_before r i
  -- and no other vertex;
  pub number : r.answer.counts.vertices
      ≡ l.counts.vertices + count (point_count l.points) (λ i. is_vertex (fate_of r i))
  -- each point is added, dropped, or on a vertex that is there: then at its position
  pub fates : (i : ℕ) → i < point_count l.points → T (is_run_fate (fate_of r i))
  pub on-vertex : (i : ℕ) → i < point_count l.points → fate_of r i ≡ 9
      → (vertex_of r i < r.answer.counts.vertices) × (places_in r.mesh (vertex_of r i) ≡ position_of l.points i)
  -- so no point is lost: a vertex stands at each
  pub all_in : (i : ℕ) → i < point_count l.points
      → (u : ℕ) × (u < r.answer.counts.vertices) × (places_in r.mesh u ≡ position_of l.points i)
  -- it keeps the mesh rules; (as facts: the test `rules` of mesh/Rules passes exactly where they hold, `rules-wf` and `wf-rules`)
  pub rules : Wf r.answer.counts (links_in r.mesh)
  -- every triangle turns strictly left;
  pub turning : LeftTurning r.answer.counts (links_in r.mesh) (places_in r.mesh)
  -- doubled areas total the boundary's doubled area;
  pub area : area_total r.answer.counts (links_in r.mesh) (places_in r.mesh)
      ≡ boundary_area r.answer.counts (links_in r.mesh) (places_in r.mesh)
  -- no boundary corner turns left;
  pub corners : NoLeftCorner r.answer.counts (links_in r.mesh) (places_in r.mesh)
  -- no triangle's circle strictly contains a neighbour's far vertex;
  pub circles : LocallyDelaunay r.answer.counts (links_in r.mesh) (places_in r.mesh)
  -- and the closing flips reported are exactly as many as the closing pass made
  pub closing : ◌≡◌ {A = Closing} (record { links = links_in r.mesh; flips = t.closingflips })
      (closing_pass r.answer.counts (places_in r.mesh) before)
  pub flips : FlipRun r.answer.counts (places_in r.mesh) before (links_in r.mesh) t.closingflips
  -- and at most the fall of the height sum during it."
  pub fall : pos t.closingflips
      ≤ℤ (height_sum r.answer.counts before (places_in r.mesh)
      -ℤ height_sum r.answer.counts (links_in r.mesh) (places_in r.mesh))

-- DEMAND 3
abbrev pub Demand3 : RunLent → RunOutcome → Totals → Type 0
Demand3 l r t = Demand3From l (before_closing l) r t

-- ---- what a run leaves besides, after 9 too
pub record RunLeaves (l : RunLent) (r : RunOutcome) : Type 0 where
  pub leaves : CallLeaves l.counts l.mesh l.pending r.answer.counts r.mesh r.pending
  -- "the ring, freed, bucket and pending rows hold zeros,
  pub ring-zero : r.ring ≡ ring_zeros l.ring
  -- and mesh and answer entries past the counts in use are untouched"
  pub answers-past : (x : ℕ) → answer_words * point_count l.points ≤ x → row_of r.answers x ≡ row_of l.answers x
  pub answers-length : length r.answers ≡ length l.answers

-- ---- 9, at a place
pub record Full (l : RunLent) (r : RunOutcome) (place : ℕ) : Type 0 where
  -- "9 answers the point's index (.. the point count in a finish within a run ..).
  pub within : place ≤ point_count l.points
  -- 02: "after any 9 a skipped point not yet in answers 0, and from convexity on the rest stand": the answers are the definition's
  pub words : (x : ℕ) → x < answer_words * point_count l.points → row_of r.answers x ≡ run_answers l x
  -- 01: "and the mesh stays as it was before that flip": `good`, `area` and `seed` of what is left
  pub leaves : RunLeaves l r

-- ---- THE CONTRACT of the call `run`: what is defined, and demand 3 of it
pub record Ran (l : RunLent) (r : RunOutcome) : Type 0 where
  pub is : r ≡ run_of l
  pub demand3 : (t : Totals) → r.answer.finished ≡ Ok t → Demand3 l r t
