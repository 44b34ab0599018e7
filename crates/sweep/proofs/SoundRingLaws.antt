-- Laws of specs/SoundRing.antt.
use Rattle.std.specs.Prelude.{Bool, true, false, ◌≡◌, ℕ, T, Float}
use Rattle.std.proofs.Math.Path.{refl}
use Rattle.std.proofs.Common.{sym, ◌∙◌, ap}
use Rattle.angle.specs.Angle.{angle_about, turns}
use Rattle.apply.specs.Apply.{Applied}
use Rattle.apply.proofs.ApplyLaws.{add-turns, add-sound}
use Rattle.decide.specs.declared.Fate.TheVariants.{Added, Unsound}
use Rattle.decide.specs.Decide.{decided}
use Rattle.math.specs.declared.Point.{Point}
use Rattle.math.specs.Determinant.{InRange}
use Rattle.mesh.specs.declared.Counts.{Counts}
use Rattle.mesh.specs.Mesh.{Links}
use Rattle.ring.specs.Ring.{is_sound_ring, located}
use Rattle.ring.specs.Center.{turns_about}
use Rattle.ring.specs.Chain.{sees_edge, sound_after}
use Rattle.sums.proofs.BitLaws.{is_true}
use Rattle.sweep.proofs.Fates.{is-added, is-unsound}
use Rattle.sweep.specs.Step.{Stepping, added_at, applied_by, applied, step_mesh}
use Rattle.sweep.specs.StepMesh.{Swept}
use Rattle.sweep.proofs.StepMeshLaws.{seen-before}
use Rattle.sweep.specs.SoundRing.{step_adding, leaves_sound}

module _ {cx cy : Float} {C : Counts} {L : Links} {p : ℕ → Point} (S : Swept cx cy C L p) {v : Point} (i : InRange v) (room : ℕ) where
  abbrev q : ℕ
  q = turns (angle_about v.x v.y cx cy)

  abbrev e : ℕ
  e = located C L (turns_about cx cy p) q

  -- what is decided of the boundary as it stands is so of the one that the step leaves
  pub adding-sound : T (sees_edge L p v e) → (step_adding room cx cy C L p v).mesh.full ≡ false
      → leaves_sound cx cy (step_adding room cx cy C L p v) ≡ sound_after C L p (turns_about cx cy p) v q e
  unfolding added_at
  adding-sound t f =
      let B = seen-before S i t in
      let a = add-turns B room in
      rw a (add-sound B room (sym (ap (λ (r : Applied). r.mesh.full) a) ∙ f))

  -- a point of fate 4, were it added, would leave a boundary with no sound ring
  pub unsound-truth : (decided cx cy C L p v).fate ≡ Unsound → (step_adding room cx cy C L p v).mesh.full ≡ false
      → leaves_sound cx cy (step_adding room cx cy C L p v) ≡ false
  unsound-truth z f = let d = is-unsound cx cy C L p v z in adding-sound d.0 f ∙ d.1

  -- an added point is added in that way, and leaves one with a sound ring
  pub added-truth : {n : ℕ} → (decided cx cy C L p v).fate ≡ Added n
      → (step_mesh room cx cy C L p v ≡ step_adding room cx cy C L p v)
      × ((step_adding room cx cy C L p v).mesh.full ≡ false → leaves_sound cx cy (step_adding room cx cy C L p v) ≡ true)
  unfolding step_mesh applied applied_by
  added-truth z =
      let A = is-added cx cy C L p v z in
      (rw (z, A.edge, A.next) refl, λ f. adding-sound A.seen f ∙ is_true _ A.sound)
