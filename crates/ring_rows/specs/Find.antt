-- Finding the node of an angle without a count: what `find`, `find_left` and their parts ask, and what they answer. Definitions only.
use Rattle.std.specs.Prelude.{ℕ, ◌<◌, ◌≤◌, ◌≡◌, ◌≢◌, Bool, List, Option, Some, None, T, Float, length}
use Rattle.sums.specs.Iterate.{iter}
use Rattle.sums.proofs.IterateLaws.{Reach}
use Rattle.angle.specs.Angle.{IsAngle, valid_angle}
use Rattle.segment.specs.Arc.{holds}
use Rattle.dcel.specs.Rows.{row_of}
use Rattle.ring.specs.Ring.{at_ends}
use Rattle.ring.specs.Insert.{On}
use Rattle.ring_rows.specs.declared.Node.{Node}
use Rattle.ring_rows.specs.declared.Hull.{Hull}
use Rattle.ring_rows.specs.Rows.{nodes_of, angle_of, edge_of, left_of, right_node_of, size_of, NodeRing, RingHeld}

-- the edge of a freed node: no half-edge has this number
abbrev pub no_edge : ℕ
no_edge = 4294967295

-- node i is in the ring that the rows hold
abbrev pub OnRing : List Node → List ℕ → Hull → ℕ → Type 0
OnRing nodes buckets h i = On (right_node_of (nodes_of nodes)) (size_of h) (row_of buckets 0) i

-- whether the segment of node i holds x
abbrev pub node_holds : (ℕ → Node) → ℕ → ℕ → Bool
node_holds t x i = at_ends (holds x) (right_node_of t) (angle_of t) i

-- What `find` and `find_left` answer: the node of the ring whose segment holds x. A sound ring has exactly one.
pub record NodeAt (nodes : List Node) (buckets : List ℕ) (h : Hull) (x i : ℕ) : Type 0 where
  pub on : OnRing nodes buckets h i
  pub at : T (node_holds (nodes_of nodes) x i)

-- What they ask: the rows hold a ring, its links to the left lead along it, and of the nodes ever in use those that have an edge are in it
pub record ToFind (nodes : List Node) (buckets : List ℕ) (h : Hull) : Type 0 where
  pub rows : RingHeld nodes buckets h
  pub back : (i : ℕ) → OnRing nodes buckets h i → OnRing nodes buckets h (left_of (nodes_of nodes) i)
  pub in_use : (i : ℕ) → i < h.nodes → edge_of (nodes_of nodes) i ≢ no_edge → OnRing nodes buckets h i

-- node i and its right one can be read, and their angles differ
pub record ToTest (nodes : List Node) (i : ℕ) (a : Float) : Type 0 where
  pub here : i < length nodes
  pub there : right_node_of (nodes_of nodes) i < length nodes
  pub from : IsAngle (nodes_of nodes i).angle
  pub to : IsAngle (nodes_of nodes (right_node_of (nodes_of nodes) i)).angle
  pub apart : angle_of (nodes_of nodes) i ≢ angle_of (nodes_of nodes) (right_node_of (nodes_of nodes) i)
  pub valid : T (valid_angle a)

-- a ring from the node `right` on, which has the node `left`; its links to the left lead along it
pub record ToWalk (nodes : List Node) (right left : ℕ) (a : Float) : Type 0 where
  pub len : ℕ
  pub size : ℕ
  pub ring : NodeRing (nodes_of nodes) len size right
  pub left-on : On (right_node_of (nodes_of nodes)) size right left
  pub back : (i : ℕ) → On (right_node_of (nodes_of nodes)) size right i → On (right_node_of (nodes_of nodes)) size right (left_of (nodes_of nodes) i)
  pub node-room : len ≤ length nodes
  pub valid : T (valid_angle a)

-- A node of the ring of `right` whose segment holds x; where there is none, none of `limit` nodes from `right` on is one.
pub record WalkedBoth (t : ℕ → Node) (right x limit : ℕ) (r : Option ℕ) : Type 0 where
  pub reached : (i : ℕ) → r ≡ Some i → Reach (right_node_of t) right i
  pub at : (i : ℕ) → r ≡ Some i → T (node_holds t x i)
  pub missed : r ≡ None → (k : ℕ) → k < limit → T (node_holds t x (iter k (right_node_of t) right)) → ⊥

-- a node that was ever in use and has an edge
abbrev pub InUse : (ℕ → Node) → ℕ → ℕ → Type 0
InUse t len i = (i < len) × (edge_of t i ≢ no_edge)

-- some buckets go with the nodes
pub record ToWalkLeft (nodes : List Node) (h : Hull) (a : Float) : Type 0 where
  pub buckets : List ℕ
  pub to-find : ToFind nodes buckets h
  pub is-angle : IsAngle a

-- a node that is found is the node of x, whatever buckets go with the nodes
abbrev pub WalkedLeft : List Node → Hull → ℕ → Option ℕ → Type 0
WalkedLeft nodes h x r = (buckets : List ℕ) → ToFind nodes buckets h → (i : ℕ) → r ≡ Some i → NodeAt nodes buckets h x i
