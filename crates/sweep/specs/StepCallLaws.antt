-- The call `step` on the lent rows: what an accepted call leaves, with an added point and without one (`step-accepted`); what refusal 9
-- leaves; and that every other refusal is one of the checks' and changes nothing (`step-refused`). That fate 4
-- tells the truth about the boundary which the step would leave is `SoundRing`. Assumes nothing.
use Rattle.std.specs.Prelude.{Bool, List, ◌⊎◌, ℕ, ◌+◌, ◌≤◌, Float, length, replicate}
use Rattle.std.proofs.Math.Bool.{true, false}
use Rattle.std.proofs.lemmas.Bool.{false≢true}
use Rattle.std.proofs.Common.{inl, inr, ◌∙◌, arith}
use Rattle.std.proofs.Math.Path.{◌≡◌, refl, sym, ap, subst, subst⁻¹}
use Rattle.angle.specs.declared.Point2.{Point2}
use Rattle.angle.specs.Angle.{angle_about, turns}
use Rattle.apply.specs.Apply.{first_face}
use Rattle.corner.specs.Corner.{Extended}
use Rattle.corner.specs.CornerLaws.{Closings}
use Rattle.dcel.specs.MeshRows.{MeshRows, links_in, places_in, mesh_rows_from}
use Rattle.dcel.specs.Rows.{position_of}
use Rattle.dcel.specs.Views.{mesh-rows-same}
use Rattle.decide.specs.declared.Fate.{Fate}
use Rattle.decide.specs.declared.Fate.TheVariants.{Added, Dropped, NotLeft, Unsound, AtCenter}
use Rattle.decide.specs.Decide.{decided}
use Rattle.finish.specs.CallLeaves.{CallLeaves}
use Rattle.finish.specs.CallLeavesLaws.{links-back, places-back, call-leaves}
use Rattle.math.specs.declared.Point.{Point}
use Rattle.math.specs.Determinant.{InRange}
use Rattle.mesh.specs.declared.Counts.{Counts}
use Rattle.mesh.specs.Mesh.{Links}
use Rattle.mesh.specs.FlipRun.{FlipRun}
use Rattle.mesh.specs.Operations.{create_new_face_adjacent_to_edge, with_vertex}
use Rattle.mesh_check.specs.Checked.{Checked}
use Rattle.mesh_check.specs.declared.Refusal.{Refusal}
use Rattle.mesh_check.specs.Check.{vertex_count, point_count}
use Rattle.mesh_check.specs.CheckLaws.{NumberedTo}
use Rattle.ring.proofs.Boundary.{strict-ring}
use Rattle.ring.specs.Center.{turns_about}
use Rattle.ring.specs.Ring.{located}
use Rattle.ring_rows.specs.RingRows.{RingRows, ring_zeros}
use Rattle.start.specs.StartLaws.{AcceptedSweep, sweep-accepts, sweep-numbered}
use Rattle.sweep.specs.declared.Answer.{Answer}
use Rattle.sweep.specs.Stepped.{Stepped}
use Rattle.start.specs.Start.{point_row}
use Rattle.sweep.specs.StepCall.{StepOutcome, answer_from, step_checked, stepped_with, step_outcome, step_of}
use Rattle.sweep.specs.Step.{Stepping, answer_of, is_added, left_alone_of, added_at, applied_by, applied, step_mesh}
use Rattle.sweep.specs.StepMesh.{Swept, StepKeeps}

-- 01: "1 added, with the new vertex, k faces and the flips. The step adds one vertex, k faces and k + 1 edges": vertex n, with k faces and
-- f flips, over the edge at the point's angle. The new vertex's first face and its flips, then corners closed one after another, each
-- followed by its flips
pub record Adds (C : Counts) (m : MeshRows) (pending : List ℕ) (center : Point2) (v : Point) (r : StepOutcome) (n k f : ℕ) : Type 0 where
  pub next : n ≡ C.vertices
  pub place : places_in r.mesh n ≡ v
  pub counts : r.answer.counts ≡ record { vertices = C.vertices + 1; edges = C.edges + k + 1; faces = C.faces + k }
  pub edge : ℕ
  pub located-edge : edge
      ≡ located C (links_in m) (turns_about center.x center.y (places_in m)) (turns (angle_about v.x v.y center.x center.y))
  pub first : FlipRun (with_vertex C) (places_in r.mesh) (create_new_face_adjacent_to_edge (links_in m) C edge)
      (first_face (length pending) (places_in r.mesh) C (links_in m) edge).links
      (first_face (length pending) (places_in r.mesh) C (links_in m) edge).flips
  pub mesh : Extended
  pub closings : Closings (places_in r.mesh) (first_face (length pending) (places_in r.mesh) C (links_in m) edge) mesh
  pub links : mesh.links ≡ links_in r.mesh
  pub faces : mesh.faces ≡ k
  pub flips : mesh.flips ≡ f

-- what an accepted call leaves: the fate is the decided one, no boundary vertex is at the centre, and the boundary has a sound ring
pub record StepAccepted (C : Counts) (m : MeshRows) (ring : RingRows) (pending : List ℕ) (center : Point2) (v : Point)
    (r : StepOutcome) (x : Answer) : Type 0 where
  pub leaves : CallLeaves C m pending r.answer.counts r.mesh r.pending
  pub ring-zero : r.ring ≡ ring_zeros ring
  pub fate : x.fate ≡ (decided center.x center.y C (links_in m) (places_in m) v).fate
  pub swept : Swept center.x center.y r.answer.counts (links_in r.mesh) (places_in r.mesh)
  pub added : (n : ℕ) → x.fate ≡ Added n → Adds C m pending center v r n x.faces x.flips
  pub covered : (n : ℕ) → x.fate ≡ Added n
      → (let D = decided center.x center.y C (links_in m) (places_in m) v in x.faces ≡ D.left + 1 + D.right)
  -- 01: "Fates 2 to 5 leave the mesh alone."
  pub alone : is_added x.fate ≡ false
      → (r.answer.counts ≡ C) × (r.mesh ≡ m) × (x.faces ≡ 0) × (x.flips ≡ 0)

-- 01, refusal 9: "the mesh stays as it was before that flip: linked, left-turning, its areas adding up": the point is in, with the faces
-- and the flips that were made
pub record Stopped (C : Counts) (m : MeshRows) (ring : RingRows) (pending : List ℕ) (center : Point2) (v : Point)
    (r : StepOutcome) : Type 0 where
  pub leaves : CallLeaves C m pending r.answer.counts r.mesh r.pending
  pub ring-zero : r.ring ≡ ring_zeros ring
  pub faces : ℕ
  pub flips : ℕ
  pub added : Adds C m pending center v r C.vertices faces flips
