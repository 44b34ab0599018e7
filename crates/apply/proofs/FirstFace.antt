-- The new vertex and its first face, and the flips of `legalize_edge` after it. Assumes nothing.
use Rattle.std.proofs.Math.Bool.{false}
use Rattle.std.specs.Prelude.{[], ◌∷◌, refl, ℕ, ◌+◌, ◌-◌, ◌*◌}
use Rattle.std.proofs.Common.{sym, ◌∙◌, arith}
use Rattle.std.proofs.Math.Path.{subst}
use Rattle.std.proofs.Math.Nat.{zero-add}
use Rattle.std.specs.Int.Signed.{lt_z_yes}
use Rattle.conflicts.specs.FlipsWithin.{FlipsWithin}
use Rattle.conflicts.proofs.FlipsWithinLaws.{within_none}
use Rattle.legalize.specs.declared.Entry.TheVariants.{HalfEdge}
use Rattle.legalize.specs.Legalize.{entry_edge, legalize_edge}
use Rattle.legalize.specs.LegalizeLaws.{Outcome, legalize-outcome, legalize-start, outcome-good, outcome-boundary, outcome-bound}
use Rattle.math.specs.declared.Point.{Point}
use Rattle.mesh.specs.declared.Counts.{Counts}
use Rattle.mesh.specs.Mesh.{Links}
use Rattle.mesh.specs.Operations.{create_new_face_adjacent_to_edge, with_vertex}
use Rattle.mesh.specs.Area.{boundary_length}
use Rattle.mesh.proofs.BoundaryLaws.{boundary-least}
use Rattle.mesh.specs.FlipRun.{FlipRun}
use Rattle.mesh.specs.Good.{Good}
use Rattle.mesh.proofs.GoodLaws.{new-face-good}
use Rattle.mesh.proofs.NewFaceLaws.{new-face-frame}
use Rattle.ring.specs.Ring.{edge_angle}
use Rattle.ring.specs.Covered.{Covered}
use Rattle.ring.proofs.CoveredLaws.{cover-edge, cover-same, p-in, p-outer}
use Rattle.ring.proofs.CoveredEndsLaws.{ends-edge, ends_same}
use Rattle.apply.specs.Apply.{first_face}
use Rattle.apply.specs.Walks.{Before, Along}

module _ {C : Counts} {L : Links} {p₀ : ℕ → Point} {α₀ : ℕ → ℕ} {p : ℕ → Point} {α : ℕ → ℕ} {v : Point} {q e : ℕ}
    (B : Before C L p₀ α₀ p α v q e) (room : ℕ) where
  abbrev K : Links
  K = create_new_face_adjacent_to_edge L C e

  pub new-good : Good (with_vertex C) K p
  new-good = new-face-good B.good B.edge B.outer B.places (rw B.new-place B.range) (rw B.new-place (lt_z_yes B.seen))

  pub first-outcome : Outcome room HalfEdge (with_vertex C) p
      (record { links = K; pending = e ∷ []; flips = 0; full = false }) (legalize_edge room (with_vertex C) p K 0 e)
  unfolding entry_edge
  first-outcome = legalize-outcome room HalfEdge (with_vertex C) p (record { links = K; pending = e ∷ []; flips = 0; full = false })
      (legalize-start new-good ((let l = B.edge in omega arith), tt))

  pub first_good : Good (with_vertex C) (first_face room p C L e).links p
  unfolding first_face
  first_good = outcome-good new-good first-outcome

  -- the count of flips is within its bound
  pub first-bound : FlipsWithin (with_vertex C) (first_face room p C L e).links p (first_face room p C L e).flips
  unfolding first_face
  first-bound = outcome-bound new-good first-outcome within_none

  -- as many flips as are counted
  pub first_run : FlipRun (with_vertex C) p K (first_face room p C L e).links (first_face room p C L e).flips
  unfolding first_face
  first_run = subst (FlipRun (with_vertex C) p K _) (sym (first-outcome.flips ∙ zero-add first-outcome.made)) first-outcome.run

  pub along-first : Along C L α₀ p α q e 0 0 (first_face room p C L e) (2 * C.edges + 2 + 1) (2 * C.edges + 1)
  unfolding first_face
  along-first =
      let W = B.good.wf in
      let X : Covered L.next (edge_angle L α₀) (with_vertex C) K α e 1 (boundary_length C L - 1) (2 * C.edges + 2 + 1) (2 * C.edges + 1) q (L.next e) =
      subst (λ (x : ℕ). Covered L.next (edge_angle L α₀) (with_vertex C) K α e 1 (boundary_length C L - 1) (2 * C.edges + 2 + 1) (2 * C.edges + 1) x (L.next e)) B.new-angle (cover-edge W B.edge B.outer B.angles) in
      let Z = outcome-boundary new-good first-outcome in
      record {
        good = outcome-good new-good first-outcome;
        rest = boundary_length C L - 1;
        whole = let b = boundary-least W in omega arith;
        covered = cover-same new-good.wf (outcome-good new-good first-outcome).wf Z X;
        ends = ends_same new-good.wf Z X (ends-edge W B.edge B.outer);
        from = (Z.keeps (p-in new-good.wf X) (p-outer new-good.wf X)).origin ∙ (new-face-frame W B.edge B.outer).origin-a';
        faces = refl;
      }
