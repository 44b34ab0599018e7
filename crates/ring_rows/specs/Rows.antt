-- The row of nodes, seen as a function from numbers to nodes: a contract says what becomes of this function. Definitions only.
use Rattle.std.specs.Prelude.{ℕ, ◌-◌, ◌<◌, ◌≤◌, ◌^◌, ◌≡◌, cond, List, length, get_or}
use Rattle.std.specs.Float.Ieee.{of_bits}
use Rattle.std.specs.Float.{binary64}
use Rattle.sums.specs.Iterate.{iter}
use Rattle.sums.specs.Tally.{walk, tally, First}
use Rattle.angle.specs.Angle.{IsAngle, turns}
use Rattle.segment.specs.Arc.{holds}
use Rattle.segment.specs.Bucket.{Buckets, width, ceil_of}
use Rattle.dcel.specs.Rows.{row_of}
use Rattle.ring.specs.Ring.{full_turn, proper, at_ends}
use Rattle.ring.specs.Sound.{Sound}
use Rattle.ring.specs.Buckets.{within}
use Rattle.ring.specs.Insert.{Bucketed}
use Rattle.ring_rows.specs.declared.Node.{Node}
use Rattle.ring_rows.specs.declared.Hull.{Hull}
use Rattle.ring_rows.specs.declared.Found.{Found}

-- a node of zeros
abbrev pub zero_node : Node
zero_node = record { angle = of_bits binary64 0; edge = 0; left = 0; right = 0 }

-- 01: "A ring node is one record: its angle, its edge, its left and right node." Past the row's end a node of zeros.
unfoldable pub nodes_of : List Node → ℕ → Node
nodes_of l i = get_or l i zero_node

-- one field changed
abbrev pub with_edge : Node → ℕ → Node
with_edge n v = record { angle = n.angle; edge = v; left = n.left; right = n.right }

abbrev pub with_left : Node → ℕ → Node
with_left n v = record { angle = n.angle; edge = n.edge; left = v; right = n.right }

abbrev pub with_right : Node → ℕ → Node
with_right n v = record { angle = n.angle; edge = n.edge; left = n.left; right = v }

-- the fields, and the angle as a whole number of 2 ^ -53
abbrev pub angle_of : (ℕ → Node) → ℕ → ℕ
angle_of t i = turns (t i).angle

abbrev pub edge_of : (ℕ → Node) → ℕ → ℕ
edge_of t i = (t i).edge

abbrev pub left_of : (ℕ → Node) → ℕ → ℕ
left_of t i = (t i).left

abbrev pub right_node_of : (ℕ → Node) → ℕ → ℕ
right_node_of t i = (t i).right

-- a node in a row of which len are in use: its links stay there
pub record ValidNode (n : Node) (len : ℕ) : Type 0 where
  pub angle : IsAngle n.angle
  pub edge : n.edge < 2 ^ 32
  pub left : n.left < len
  pub right : n.right < len

abbrev pub ValidNodes : (ℕ → Node) → ℕ → Type 0
ValidNodes t len = (i : ℕ) → i < len → ValidNode (t i) len

-- `size` nodes from `start` on, each linked to its right one, are a sound ring
pub record NodeRing (t : ℕ → Node) (len size start : ℕ) : Type 0 where
  pub sound : Sound full_turn (right_node_of t) (angle_of t) start size
  pub all-proper : tally (at_ends proper (right_node_of t) (angle_of t)) (walk size (right_node_of t) start) ≡ size
  pub valid : ValidNodes t len
  pub first : start < len
  pub size_small : size < 2 ^ 32
  pub len-small : len < 2 ^ 32

-- how many nodes a hull has: those in use less those freed
abbrev pub size_of : Hull → ℕ
size_of h = h.nodes - h.freed

-- The rows hold the ring of a hull, from the node of bucket 0 on. 01: "Bucket i holds the node whose segment holds i/n."
pub record RingHeld (nodes : List Node) (buckets : List ℕ) (h : Hull) : Type 0 where
  pub ring : NodeRing (nodes_of nodes) h.nodes (size_of h) (row_of buckets 0)
  pub filled : Bucketed (right_node_of (nodes_of nodes)) (angle_of (nodes_of nodes)) (row_of buckets) h.buckets (width h.buckets) (row_of buckets 0) (size_of h)
  pub counted : Buckets h.buckets
  pub node-room : h.nodes ≤ length nodes
  pub bucket-room : h.buckets ≤ length buckets

-- What `get` answers: the first node from `start` on whose segment holds x, its edge, and how many were passed after the first.
pub record Got (t : ℕ → Node) (size start x : ℕ) (r : Found) : Type 0 where
  pub first : First (at_ends (holds x) (right_node_of t) (angle_of t)) (right_node_of t) size start r.passed
  pub node : r.node ≡ iter r.passed (right_node_of t) start
  pub edge : r.edge ≡ edge_of t r.node

-- the buckets from L up to R, or from L on and up to R, have the value v
pub record Updated (old new : List ℕ) (count from to v : ℕ) : Type 0 where
  pub each : (i : ℕ) → i < count → row_of new i ≡ cond (within i from to) v (row_of old i)
  pub past : (i : ℕ) → count ≤ i → row_of new i ≡ row_of old i

-- node i and its right one can be read, and the buckets are there
pub record NodeBuckets (nodes : List Node) (buckets : List ℕ) (count i : ℕ) : Type 0 where
  pub here : i < length nodes
  pub there : (nodes_of nodes i).right < length nodes
  pub from : IsAngle (nodes_of nodes i).angle
  pub to : IsAngle (nodes_of nodes (nodes_of nodes i).right).angle
  pub counted : Buckets count
  pub room : count ≤ length buckets

pub record NodeUpdated (t : ℕ → Node) (old new : List ℕ) (count i r : ℕ) : Type 0 where
  pub updated : Updated old new count (ceil_of (angle_of t i) count) (ceil_of (angle_of t (right_node_of t i)) count) i
  pub right : r ≡ right_node_of t i

-- a ring of nodes, and room for its buckets
pub record ToFill (nodes : List Node) (buckets : List ℕ) (count start size : ℕ) : Type 0 where
  pub len : ℕ
  pub ring : NodeRing (nodes_of nodes) len size start
  pub node-room : len ≤ length nodes
  pub counted : Buckets count
  pub bucket-room : count ≤ length buckets
