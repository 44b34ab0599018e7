-- What a step decides about a point before it changes anything: the located edge, the fate, and how many edges the two walks of an added point cover. It reads boundary edges, positions and
-- angles alone. Definitions only, and each computes; `Apply` of crate `apply` has what becomes of the mesh.
use Rattle.std.specs.Prelude.{ℕ, Bool, not, cond, ◌||◌, Float}
use Rattle.angle.specs.Angle.{angle_about, at_center, turns}
use Rattle.math.specs.declared.Point.{Point}
use Rattle.math.specs.Determinant.{is_position}
use Rattle.mesh.specs.declared.Counts.{Counts}
use Rattle.mesh.specs.Mesh.{Links, to}
use Rattle.ring.specs.Ring.{located}
use Rattle.ring.specs.Center.{turns_about}
use Rattle.ring.specs.Chain.{sees_edge, left_chain, right_chain, sound_after}
use Rattle.decide.specs.declared.Fate.{Fate}
use Rattle.decide.specs.declared.Fate.TheVariants.{Added, Dropped, NotLeft, Unsound, AtCenter}

-- ---- 01's numbers
-- "1 added", "2 dropped", "3 skipped: right of that edge, or on its line", "4 skipped: the boundary that the step would leave has no sound ring", "5 skipped: at the centre"
unfoldable pub fate_number : Fate → ℕ
fate_number (Added v) = 1
fate_number Dropped = 2
fate_number NotLeft = 3
fate_number Unsound = 4
fate_number AtCenter = 5

-- "Vertex is 0 unless the fate is 1."
unfoldable pub fate_vertex : Fate → ℕ
fate_vertex (Added v) = v
fate_vertex Dropped = 0
fate_vertex NotLeft = 0
fate_vertex Unsound = 0
fate_vertex AtCenter = 0

-- ---- the tests, for a point v with the angle q, and the located edge e
-- fate 2: "equal to an end of the located edge"
unfoldable pub at_end : Links → (ℕ → Point) → Point → ℕ → Bool
at_end L p v e = is_position v (p (L.origin e)) || is_position v (p (to L e))

-- 01: "Fates, tested in this order": 5 comes first, of a point that has an angle come 2, 3, 4 and 1. "An added vertex takes the next number after those in use."
unfoldable pub fate_at : Counts → Links → (ℕ → Point) → (ℕ → ℕ) → Point → ℕ → ℕ → Fate
fate_at C L p α v q e =
    cond (at_end L p v e) Dropped
    (cond (not (sees_edge L p v e)) NotLeft
    (cond (not (sound_after C L p α v q e)) Unsound
    (Added C.vertices)))

-- ---- the decision: the fate, and for an added point the located edge and how many boundary edges the walks cover before it and after it; 0 otherwise
pub record Decided : Type 0 where
  pub fate : Fate
  pub edge : ℕ
  pub left : ℕ
  pub right : ℕ

-- a point that is not added
abbrev pub not_added : Fate → Decided
not_added f = record { fate = f; edge = 0; left = 0; right = 0 }

-- n for an added point
unfoldable pub if_added : Fate → ℕ → ℕ
if_added (Added v) n = n
if_added Dropped n = 0
if_added NotLeft n = 0
if_added Unsound n = 0
if_added AtCenter n = 0

unfoldable pub decided_at : Counts → Links → (ℕ → Point) → (ℕ → ℕ) → Point → ℕ → ℕ → Decided
decided_at C L p α v q e =
    let f = fate_at C L p α v q e in
    record { fate = f; edge = if_added f e; left = if_added f (left_chain C L p α v q e); right = if_added f (right_chain C L p α v q e) }

-- a point v about the centre (cx, cy). 01: "A point at the centre has no angle."
unfoldable pub decided : Float → Float → Counts → Links → (ℕ → Point) → Point → Decided
decided cx cy C L p v =
    cond (at_center v.x v.y cx cy) (not_added AtCenter)
    (let α = turns_about cx cy p in
    let q = turns (angle_about v.x v.y cx cy) in
    decided_at C L p α v q (located C L α q))
