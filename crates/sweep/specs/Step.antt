-- One step on a mesh: what is decided about a point, and what is applied of it. Definitions only, and each computes; `StepMesh` has the
-- laws.
-- The centre is (cx, cy), `room` the number of pending entries; v is the point.
use Rattle.std.specs.Prelude.{Bool, true, false, ℕ, Float}
use Rattle.angle.specs.Angle.{angle_about, turns}
use Rattle.apply.specs.Apply.{add_vertex}
use Rattle.corner.specs.Corner.{Extended}
use Rattle.decide.specs.declared.Fate.{Fate}
use Rattle.decide.specs.declared.Fate.TheVariants.{Added, Dropped, NotLeft, Unsound, AtCenter}
use Rattle.decide.specs.Decide.{Decided, decided}
use Rattle.math.specs.declared.Point.{Point}
use Rattle.mesh.specs.declared.Counts.{Counts}
use Rattle.mesh.specs.Mesh.{Links}
use Rattle.ring.specs.Center.{turns_about}
use Rattle.sums.specs.Put.{put}
use Rattle.sweep.specs.declared.Answer.{Answer}

-- what has become of a point and of the mesh: the fate, the vertices' positions, and the mesh with the faces and flips of this step
pub record Stepping : Type 0 where
  pub fate : Fate
  pub positions : ℕ → Point
  pub mesh : Extended

-- 01: "An answer is a fate together with its counts."
abbrev pub answer_of : Stepping → Answer
answer_of s = record { fate = s.fate; faces = s.mesh.faces; flips = s.mesh.flips }

unfoldable pub is_added : Fate → Bool
is_added (Added n) = true
is_added Dropped = false
is_added NotLeft = false
is_added Unsound = false
is_added AtCenter = false

-- 01: "Fates 2 to 5 leave the mesh alone."
unfoldable pub left_alone_of : Counts → Links → (ℕ → Point) → Fate → Stepping
left_alone_of C L p f = record { fate = f; positions = p; mesh = record { counts = C; links = L; faces = 0; flips = 0; full = false } }

-- the point as the next vertex, over the located edge e
unfoldable pub added_at : ℕ → Float → Float → Counts → Links → (ℕ → Point) → Point → Fate → ℕ → Stepping
added_at room cx cy C L p v f e =
    let p' = put p C.vertices v in
    record {
      fate = f;
      positions = p';
      mesh = (add_vertex room p' (turns_about cx cy p') C L v (turns (angle_about v.x v.y cx cy)) e).mesh;
    }

unfoldable pub applied_by : ℕ → Float → Float → Counts → Links → (ℕ → Point) → Point → ℕ → Fate → Stepping
applied_by room cx cy C L p v e (Added n) = added_at room cx cy C L p v (Added n) e
applied_by room cx cy C L p v e Dropped = left_alone_of C L p Dropped
applied_by room cx cy C L p v e NotLeft = left_alone_of C L p NotLeft
applied_by room cx cy C L p v e Unsound = left_alone_of C L p Unsound
applied_by room cx cy C L p v e AtCenter = left_alone_of C L p AtCenter

-- what is decided comes to pass
unfoldable pub applied : ℕ → Float → Float → Counts → Links → (ℕ → Point) → Point → Decided → Stepping
applied room cx cy C L p v D = applied_by room cx cy C L p v D.edge D.fate

-- THE STEP: applied, of what is decided
unfoldable pub step_mesh : ℕ → Float → Float → Counts → Links → (ℕ → Point) → Point → Stepping
step_mesh room cx cy C L p v = applied room cx cy C L p v (decided cx cy C L p v)
