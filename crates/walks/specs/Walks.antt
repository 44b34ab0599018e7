-- What the two walks of a step ask, and what they find. 02, Change 4: "What a loop finds is stated for any angle and position handed to
-- it": the point v is any in range and a any angle, whatever the one has to do with the other. The walks read the rows of positions and
-- half-edges alone. Definitions only.
use Rattle.std.specs.Prelude.{ℕ, suc, ◌+◌, ◌<◌, ◌≤◌, ◌^◌, Bool, not, List, [], ◌≡◌, T, Float, ℤ, pos}
use Rattle.std.specs.Int.Signed.{lt_z}
use Rattle.angle.specs.Angle.{IsAngle, turns, angle_about, at_center, valid_center}
use Rattle.dcel.specs.Rows.{halves_of, links_of, position_of, There, Placed}
use Rattle.hull.specs.Boundary.{AngleAt, origin_at_center, origin_turns}
use Rattle.math.specs.declared.Point.{Point}
use Rattle.math.specs.Determinant.{InRange, orient2d}
use Rattle.ring.specs.declared.Side.{Side}
use Rattle.ring.specs.declared.Side.TheVariants.{Left, Right}
use Rattle.ring.specs.Ring.{proper}
use Rattle.ring.specs.Center.{turns_about}
use Rattle.ring.specs.Chain.{behind, covered_if, covers}
use Rattle.sums.specs.Bit.{bit}
use Rattle.sums.specs.Half.{rev}
use Rattle.sums.specs.Iterate.{iter}
use Rattle.sums.specs.Tally.{tally, walk}
use Rattle.walks.specs.declared.BoundaryVertex.{BoundaryVertex}
use Rattle.walks.specs.declared.WalkEnd.{WalkEnd}

-- ---- the origin of a half-edge
abbrev pub origin_position : List ℤ → List ℕ → ℕ → Point
origin_position q h e = position_of q ((halves_of h).origin e)

-- it is in the rows, and in range
pub record OriginIn (q : List ℤ) (h : List ℕ) (e : ℕ) : Type 0 where
  pub here : There h e
  pub placed : Placed q ((halves_of h).origin e)

-- both ends of a half-edge are, and neither is at the centre: each has an angle
pub record EdgeAbout (q : List ℤ) (h : List ℕ) (cx cy : Float) (e : ℕ) : Type 0 where
  pub from : OriginIn q h e
  pub to : OriginIn q h (rev e)
  pub valid : T (valid_center cx cy)
  pub from-apart : T (not (origin_at_center q h cx cy e))
  pub to-apart : T (not (origin_at_center q h cx cy (rev e)))

-- ---- a boundary vertex
-- at a position, which has an angle
pub record ToRead (p : Point) (cx cy : Float) : Type 0 where
  pub valid : T (valid_center cx cy)
  pub apart : T (not (at_center p.x p.y cx cy))

pub record ReadAt (p : Point) (cx cy : Float) (r : BoundaryVertex) : Type 0 where
  pub position : r.position ≡ p
  pub is-angle : IsAngle r.angle
  pub turns-are : turns r.angle ≡ turns (angle_about p.x p.y cx cy)

-- at the origin of a half-edge
pub record VertexAt (q : List ℤ) (h : List ℕ) (cx cy : Float) (e : ℕ) (r : BoundaryVertex) : Type 0 where
  pub position : r.position ≡ origin_position q h e
  pub angle : AngleAt q h cx cy e r.angle

-- ---- the tests of the two walks, for the point v and the angle a
-- the area of the edge between `far` and `near` with the point, and whether `far` is behind the edge between the point and `near`; `near` is
-- the end on the side of the located edge
abbrev pub area_on : Side → Point → Point → Point → ℤ
area_on Left far near v = orient2d far near v
area_on Right far near v = orient2d near far v

abbrev pub behind_on : Side → Point → Point → Point → Bool
behind_on Left far near v = behind Left far near v
behind_on Right far near v = behind Right near far v

-- where the edge's ends are read
unfoldable pub cover_test : Side → Point → BoundaryVertex → Point → Float → Bool
cover_test Left far near v a =
    covered_if (behind Left far near.position v) (turns a) (turns near.angle) (lt_z (pos 0) (orient2d far near.position v))
cover_test Right far near v a =
    covered_if (behind Right near.position far v) (turns a) (turns near.angle) (lt_z (pos 0) (orient2d near.position far v))

pub record ToCover (far : Point) (near : BoundaryVertex) (v : Point) (a : Float) : Type 0 where
  pub far-range : InRange far
  pub near-range : InRange near.position
  pub near-angle : IsAngle near.angle
  pub range : InRange v
  pub is-angle : IsAngle a

-- the same in the rows: `covers` of ring/Chain. It reads origins alone, so that the rows of out edges and of faces do not matter (`test-rows` in `WalkLaws`).
unfoldable pub walk_test : Side → List ℤ → List ℕ → Float → Float → Point → Float → ℕ → Bool
walk_test side q h cx cy v a d = covers side (links_of [] h []) (position_of q) (turns_about cx cy (position_of q)) v (turns a) d

-- ---- one edge more is covered, from where the walk stands to `far`
pub record ToExtend (w : WalkEnd) (far : Point) (cx cy : Float) : Type 0 where
  pub read : ToRead far cx cy
  pub near-angle : IsAngle w.vertex.angle
  pub few : w.nodes ≤ w.count
  pub fits : w.count + 1 < 2 ^ 32

-- an edge whose ends have different angles has a node
pub record Extended (w : WalkEnd) (far : Point) (cx cy : Float) (r : WalkEnd) : Type 0 where
  pub count : r.count ≡ w.count + 1
  pub nodes : r.nodes ≡ w.nodes + bit (proper (turns w.vertex.angle) (turns r.vertex.angle))
  pub vertex : ReadAt far cx cy r.vertex

-- ---- a walk on one side of e, over the half-edges that pass the test
-- `beside` of ring/Chain
abbrev pub walk_step : Side → List ℕ → ℕ → ℕ
walk_step Left h = (halves_of h).prev
walk_step Right h = (halves_of h).next

-- the k-th half-edge that it comes to, from 0
abbrev pub walk_edge : Side → List ℕ → ℕ → ℕ → ℕ
walk_edge side h e k = iter (suc k) (walk_step side h) e

-- the half-edges of an edge d that start at its near end, and at its far end
abbrev pub near_half : Side → ℕ → ℕ
near_half Left d = rev d
near_half Right d = d

abbrev pub far_half : Side → ℕ → ℕ
far_half Left d = d
far_half Right d = rev d

abbrev pub has_node : List ℤ → List ℕ → Float → Float → ℕ → Bool
has_node q h cx cy d = proper (origin_turns q h cx cy d) (origin_turns q h cx cy (rev d))

-- what it asks: it can test each that it comes to, each begins where the one before ends, and one fails, so that it ends; `start` is the
-- first one's near end
pub record ToWalk (side : Side) (q : List ℤ) (h : List ℕ) (cx cy : Float) (v : Point) (a : Float) (e : ℕ) (start : BoundaryVertex)
    : Type 0 where
  pub here : There h e
  pub each : (k : ℕ) → EdgeAbout q h cx cy (walk_edge side h e k)
  pub joined : (k : ℕ)
      → (halves_of h).origin (near_half side (walk_edge side h e (suc k))) ≡ (halves_of h).origin (far_half side (walk_edge side h e k))
  pub from : VertexAt q h cx cy (near_half side (walk_edge side h e 0)) start
  pub range : InRange v
  pub is-angle : IsAngle a
  pub most : ℕ
  pub fails : T (not (walk_test side q h cx cy v a (walk_edge side h e most)))
  pub small : most < 2 ^ 32

-- n half-edges are covered, and the one after them is not
pub record Covers (side : Side) (q : List ℤ) (h : List ℕ) (cx cy : Float) (v : Point) (a : Float) (e n : ℕ) : Type 0 where
  pub covered : (k : ℕ) → k < n → T (walk_test side q h cx cy v a (walk_edge side h e k))
  pub stops : T (not (walk_test side q h cx cy v a (walk_edge side h e n)))

-- what it finds; it ends where the first half-edge that is not covered begins
pub record WalkedTo (side : Side) (q : List ℤ) (h : List ℕ) (cx cy : Float) (v : Point) (a : Float) (e : ℕ) (r : WalkEnd) : Type 0 where
  pub covers : Covers side q h cx cy v a e r.count
  pub nodes : r.nodes ≡ tally (has_node q h cx cy) (walk r.count (walk_step side h) (walk_step side h e))
  pub vertex : VertexAt q h cx cy (near_half side (walk_edge side h e r.count)) r.vertex
