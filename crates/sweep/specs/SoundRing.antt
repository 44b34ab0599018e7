-- FATE 4 TELLS THE TRUTH. 01: "4 skipped: the boundary that the step would leave has no sound ring". The fate is decided beforehand, from
-- the boundary as it stands; here the step is made all the same, by the definitions that add a point, and the boundary that it leaves is
-- looked at: of a point of fate 4 it has no sound ring, of an added one it has one. Assumes nothing.
use Rattle.std.specs.Prelude.{Bool, true, false, ◌≡◌, ℕ, T, Float}
use Rattle.std.proofs.Math.Path.{refl}
use Rattle.std.proofs.Common.{sym, ◌∙◌, ap}
use Rattle.angle.specs.Angle.{angle_about, turns}
use Rattle.apply.specs.Apply.{Applied}
use Rattle.apply.proofs.ApplyLaws.{add-turns, add-sound}
use Rattle.decide.specs.declared.Fate.TheVariants.{Added, Unsound}
use Rattle.decide.specs.Decide.{decided}
use Rattle.math.specs.declared.Point.{Point}
use Rattle.math.specs.Determinant.{InRange}
use Rattle.mesh.specs.declared.Counts.{Counts}
use Rattle.mesh.specs.Mesh.{Links}
use Rattle.ring.specs.Ring.{is_sound_ring, located}
use Rattle.ring.specs.Center.{turns_about}
use Rattle.ring.specs.Chain.{sees_edge, sound_after}
use Rattle.sums.proofs.BitLaws.{is_true}
use Rattle.sweep.specs.Step.{Stepping, added_at, applied_by, applied, step_mesh}
use Rattle.sweep.specs.StepMesh.{Swept}

-- the step that adds the point over the located edge, whatever was decided
abbrev pub step_adding : ℕ → Float → Float → Counts → Links → (ℕ → Point) → Point → Stepping
step_adding room cx cy C L p v =
    added_at room cx cy C L p v (Added C.vertices) (located C L (turns_about cx cy p) (turns (angle_about v.x v.y cx cy)))

-- whether the boundary that a step leaves has a sound ring
abbrev pub leaves_sound : Float → Float → Stepping → Bool
leaves_sound cx cy s = is_sound_ring s.mesh.counts s.mesh.links (turns_about cx cy s.positions)
