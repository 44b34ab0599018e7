-- What a step makes of a good mesh with a sound ring about a centre that no boundary vertex equals: the same again, with the point as its
-- next vertex where that was added. Assumes nothing.
use Rattle.std.specs.Prelude.{Bool, true, false, not, ◌||◌, ◌⊎◌, ◌≡◌, ℕ, ◌+◌, ◌<◌, ◌≤◌, Float}
use Rattle.std.proofs.lemmas.Bool.{false≢true}
use Rattle.std.proofs.Common.{inl, inr, sym, ◌∙◌, subst, arith}
use Rattle.std.proofs.Math.Path.{refl, ap, subst⁻¹}
use Rattle.std.proofs.Math.Dec.{T, T_not, not_T}
use Rattle.angle.specs.Angle.{angle_about, at_center, valid_center, turns}
use Rattle.apply.specs.Apply.{Applied, first_face, add_turns}
use Rattle.apply.proofs.ApplyLaws.{add-turns, add-good, add-bound, add-counts, add-untouched, add-sound, add-along, add-closings, add-faces}
use Rattle.apply.proofs.FirstFace.{first_run}
use Rattle.apply.specs.Origins.{OldVertex}
use Rattle.apply.proofs.OriginsLaws.{along-origin}
use Rattle.apply.specs.Walks.{Before}
use Rattle.conflicts.specs.FlipsWithin.{FlipsWithin}
use Rattle.conflicts.proofs.FlipsWithinLaws.{within_none}
use Rattle.corner.specs.CornerLaws.{Closings}
use Rattle.corner.specs.Untouched.{Untouched, Grown, untouched-none}
use Rattle.decide.specs.declared.Fate.{Fate}
use Rattle.decide.specs.declared.Fate.TheVariants.{Added, Dropped, NotLeft, Unsound, AtCenter}
use Rattle.decide.specs.Decide.{decided}
use Rattle.math.specs.declared.Point.{Point}
use Rattle.math.specs.Determinant.{InRange}
use Rattle.mesh.specs.declared.Counts.{Counts}
use Rattle.mesh.specs.Mesh.{Links, In}
use Rattle.mesh.specs.Operations.{create_new_face_adjacent_to_edge, with_vertex}
use Rattle.mesh.specs.Area.{boundary_length, hull_edge}
use Rattle.mesh.proofs.BoundaryLaws.{first<, first-outer, boundary-below, boundary-outer}
use Rattle.mesh.specs.FlipRun.{FlipRun}
use Rattle.mesh.specs.Good.{Good}
use Rattle.mesh.specs.Wf.{Wf}
use Rattle.ring.specs.Ring.{is_sound_ring, located}
use Rattle.ring.proofs.Boundary.{located<, located-outer, outer-on}
use Rattle.ring.specs.Center.{turns_about, refuses_center}
use Rattle.ring.specs.Chain.{sees_edge, left_chain, right_chain}
use Rattle.sums.proofs.BitLaws.{sure, or_cases, or_left, or_right}
use Rattle.sums.specs.Bounded.{any_below}
use Rattle.sums.proofs.BoundedLaws.{any-below→, any-below←}
use Rattle.sums.specs.Put.{put}
use Rattle.sums.proofs.PutLaws.{put_same, put_other}
use Rattle.sweep.specs.Step.{Stepping, is_added, left_alone_of, added_at, applied_by, applied, step_mesh}

-- the mesh between two steps
pub record Swept (cx cy : Float) (C : Counts) (L : Links) (p : ℕ → Point) : Type 0 where
  pub good : Good C L p
  -- refusal 6 does not apply
  pub center : T (not (refuses_center C L p cx cy))
  pub sound : T (is_sound_ring C L (turns_about cx cy p))

-- the mesh stays good, with the old vertices where they are; what is past its counts is untouched; the flips are within their bound; and
-- where no flip was refused it is as a step is given it
pub record StepKeeps (cx cy : Float) (C : Counts) (L : Links) (p : ℕ → Point) (s : Stepping) : Type 0 where
  pub good : Good s.mesh.counts s.mesh.links s.positions
  pub untouched : Untouched s.mesh.counts L s.mesh.links
  pub bound : FlipsWithin s.mesh.counts s.mesh.links s.positions s.mesh.flips
  pub grown : Grown C s.mesh.counts
  pub one_more : s.mesh.counts.vertices ≤ C.vertices + 1
  pub places : (u : ℕ) → u < C.vertices → s.positions u ≡ p u
  pub past : (u : ℕ) → s.mesh.counts.vertices ≤ u → s.positions u ≡ p u
  pub swept : s.mesh.full ≡ false → Swept cx cy s.mesh.counts s.mesh.links s.positions

-- ---- an added point: the next vertex, at that position; k faces and k + 1 edges; the first face, its flips, and then for each further
-- face its flips, as many in all as are counted
pub record StepAdds (room : ℕ) (C : Counts) (L : Links) (p : ℕ → Point) (v : Point) (e n left right : ℕ) (s : Stepping) : Type 0 where
  pub fate : s.fate ≡ Added n
  pub next : n ≡ C.vertices
  pub place : s.positions n ≡ v
  pub counts : s.mesh.counts
      ≡ record { vertices = C.vertices + 1; edges = C.edges + s.mesh.faces + 1; faces = C.faces + s.mesh.faces }
  pub first : FlipRun (with_vertex C) s.positions (create_new_face_adjacent_to_edge L C e)
      (first_face room s.positions C L e).links (first_face room s.positions C L e).flips
  pub closings : Closings s.positions (first_face room s.positions C L e) s.mesh
  pub faces : s.mesh.full ≡ false → s.mesh.faces ≡ left + 1 + right
