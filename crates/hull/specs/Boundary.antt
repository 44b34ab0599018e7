-- The boundary of a mesh about a centre, in the rows: `size` half-edges from `start` on, by next. Definitions only.
use Rattle.std.specs.Prelude.{ℕ, ◌+◌, ◌-◌, ◌*◌, ◌%◌, ◌<◌, ◌≤◌, ◌^◌, ◌≡◌, Bool, not, List, map, T, ℤ, Float, length}
use Rattle.math.specs.declared.Point.{Point}
use Rattle.sums.specs.Iterate.{iter}
use Rattle.sums.specs.Tally.{walk}
use Rattle.angle.specs.Angle.{IsAngle, turns, at_center, valid_center}
use Rattle.dcel.specs.Rows.{halves_of, position_of, There}
use Rattle.ring.specs.Ring.{full_turn, is_strict}
use Rattle.ring.specs.Center.{turns_about}
use Rattle.ring_rows.specs.declared.Node.{Node}

-- the vertex equals the centre
unfoldable pub vertex_at_center : (ℕ → Point) → Float → Float → ℕ → Bool
vertex_at_center p cx cy v = at_center (p v).x (p v).y cx cy

-- ---- the boundary in the rows of positions and half-edges
-- the k-th boundary edge from `start` on
abbrev pub edge_at : List ℕ → ℕ → ℕ → ℕ
edge_at h start k = iter k (halves_of h).next start

-- the angle at a half-edge's origin
abbrev pub origin_turns : List ℤ → List ℕ → Float → Float → ℕ → ℕ
origin_turns p h cx cy e = turns_about cx cy (position_of p) ((halves_of h).origin e)

abbrev pub origin_at_center : List ℤ → List ℕ → Float → Float → ℕ → Bool
origin_at_center p h cx cy e = vertex_at_center (position_of p) cx cy ((halves_of h).origin e)

-- the boundary's angles, in order
abbrev pub angles_of : List ℤ → List ℕ → Float → Float → ℕ → ℕ → List ℕ
angles_of p h cx cy start size = map (origin_turns p h cx cy) (walk size (halves_of h).next start)

-- the rows hold these half-edges and their origins' positions
pub record BoundaryRows (p : List ℤ) (h : List ℕ) (start : ℕ) : Type 0 where
  pub there : (k : ℕ) → There h (edge_at h start k)
  pub placed : (k : ℕ) → 2 * (halves_of h).origin (edge_at h start k) + 1 < length p
  pub edges : (k : ℕ) → edge_at h start k < 2 ^ 32

-- and none of them starts at the centre: each has an angle
pub record AngledBoundary (p : List ℤ) (h : List ℕ) (cx cy : Float) (start : ℕ) : Type 0 where
  pub rows : BoundaryRows p h start
  pub valid : T (valid_center cx cy)
  pub apart : (k : ℕ) → T (not (origin_at_center p h cx cy (edge_at h start k)))

-- one half-edge of it
pub record Angled (p : List ℤ) (h : List ℕ) (cx cy : Float) (e : ℕ) : Type 0 where
  pub there : There h e
  pub placed : 2 * (halves_of h).origin e + 1 < length p
  pub valid : T (valid_center cx cy)
  pub apart : T (not (origin_at_center p h cx cy e))

-- r is the angle at its origin
pub record AngleAt (p : List ℤ) (h : List ℕ) (cx cy : Float) (e : ℕ) (r : Float) : Type 0 where
  pub is-angle : IsAngle r
  pub turns-are : turns r ≡ origin_turns p h cx cy e

-- ---- nodes numbered in the order of the boundary's edges
-- node i of size, for the i-th edge: 000: "left: prev_index, right: next_index", where next_index is "(current_index + 1) % hull_size"
pub record NodeOfEdge (p : List ℤ) (h : List ℕ) (cx cy : Float) (start size i : ℕ) (n : Node) : Type 0 where
  pub is-angle : IsAngle n.angle
  pub angle : turns n.angle ≡ origin_turns p h cx cy (edge_at h start i)
  pub edge : n.edge ≡ edge_at h start i
  pub left-first : i ≡ 0 → n.left ≡ size - 1
  pub left-more : 0 < i → n.left ≡ i - 1
  pub right : n.right ≡ (i + 1) % size

abbrev pub NodesOfEdges : List ℤ → List ℕ → Float → Float → ℕ → ℕ → (ℕ → Node) → Type 0
NodesOfEdges p h cx cy start size t = (i : ℕ) → i < size → NodeOfEdge p h cx cy start size i (t i)

-- what building asks: a strict round of edges, and room
pub record ToBuild (p : List ℤ) (h : List ℕ) (cx cy : Float) (start size nodes buckets : ℕ) : Type 0 where
  pub boundary : AngledBoundary p h cx cy start
  pub closed : edge_at h start size ≡ start
  pub strict : T (is_strict full_turn (angles_of p h cx cy start size))
  pub small : size < 2 ^ 32
  pub node-room : size ≤ nodes
  pub bucket-room : 8 ≤ buckets
