-- What the parts of an insert ask of the rows, and what they leave, in the words of the ring's laws. Definitions only.
use Rattle.std.specs.Prelude.{ℕ, suc, ◌+◌, ◌-◌, ◌<◌, ◌≤◌, ◌^◌, ◌≡◌, ◌≢◌, Bool, cond, List, eqb, Float, length}
use Rattle.sums.specs.Iterate.{iter}
use Rattle.sums.specs.Put.{put}
use Rattle.angle.specs.Angle.{IsAngle, turns}
use Rattle.segment.specs.Bucket.{width, ceil_of}
use Rattle.dcel.specs.Rows.{row_of}
use Rattle.ring_rows.proofs.RowsLaws.{table_of}
use Rattle.ring.specs.Insert.{On, Bucketed, Insertion}
use Rattle.ring.specs.Free.{Free, Pushed, Taken}
use Rattle.ring.specs.WholeInsert.{Names}
use Rattle.ring.specs.Resize.{adjusted_buckets}
use Rattle.ring_rows.specs.declared.Node.{Node}
use Rattle.ring_rows.specs.declared.Hull.{Hull}
use Rattle.ring_rows.specs.Rows.{nodes_of, angle_of, right_node_of, size_of, with_edge, with_left, with_right, ValidNodes, NodeRing, RingHeld, Updated}
use Rattle.ring_rows.specs.Find.{ToFind}
use Rattle.ring_insert.specs.declared.Choice.{Choice}
use Rattle.ring_insert.specs.Retire.{Retired}

-- the node of the angle a stands `steps` to the right of `first`, and the stack of freed nodes has room
pub record ToRelease (nodes : List Node) (freed : List ℕ) (top first : ℕ) (a : Float) : Type 0 where
  pub len : ℕ
  pub size : ℕ
  pub steps : ℕ
  pub ring : NodeRing (nodes_of nodes) len size first
  pub some : 0 < steps
  pub less : steps < size
  pub there : angle_of (nodes_of nodes) (iter steps (right_node_of (nodes_of nodes)) first) ≡ turns a
  pub is-angle : IsAngle a
  pub node-room : len ≤ length nodes
  pub freed-room : top + size ≤ length freed
  pub small : top + size < 2 ^ 32

-- `right` is the first node after `first` with the angle x, and those between are on the stack
pub record ReleasedTo (t : ℕ → Node) (old new : List ℕ) (top first x right top' : ℕ) : Type 0 where
  pub passed : ℕ
  pub some : 0 < passed
  pub least : (j : ℕ) → 0 < j → j < passed → angle_of t (iter j (right_node_of t) first) ≢ x
  pub there : right ≡ iter passed (right_node_of t) first
  pub angle : angle_of t right ≡ x
  pub stack : top' ≡ top + (passed - 1)
  pub pushed : Pushed (right_node_of t) (row_of old) (row_of new) first passed top

pub record ToChoose (nodes : List Node) (freed : List ℕ) (h : Hull) (left : ℕ) (a : Float) : Type 0 where
  pub release : ToRelease nodes freed h.freed left a
  pub small : h.nodes + 1 < 2 ^ 32

-- the nodes of an insert after the left one is found and the others are chosen
abbrev pub insertion_of : ℕ → Choice → Insertion
insertion_of left c = record { left = left; right = c.right; new = c.node; before = c.before; start = c.start }

-- `left` goes where its angle is the new one
pub record Chosen (t : ℕ → Node) (old new : List ℕ) (h : Hull) (left : ℕ) (goes : Bool) (x : ℕ) (r : Choice) : Type 0 where
  pub mid : List ℕ
  pub top₁ : ℕ
  pub top₂ : ℕ
  pub released : ReleasedTo t old mid h.freed left x r.right top₁
  pub taken : Taken (row_of mid) top₁ h.nodes r.node top₂ r.nodes
  pub names : (al q : ℕ) → goes ≡ eqb al q → Names (table_of t) (insertion_of left r) (row_of mid) (row_of new) al q top₂ r.freed

-- the stores, one after the other
unfoldable pub new_node : (ℕ → Node) → Choice → ℕ → Float → ℕ → Node
new_node t c p q = put t c.node (record { angle = q; edge = p; left = c.before; right = c.right })

unfoldable pub link_right : (ℕ → Node) → Choice → ℕ → Node
link_right t c = put t c.before (with_right (t c.before) c.node)

unfoldable pub link_left : (ℕ → Node) → Choice → ℕ → Node
link_left t c = put t c.right (with_left (t c.right) c.node)

unfoldable pub left_edge : (ℕ → Node) → Choice → ℕ → ℕ → Node
left_edge t c l = cond (eqb c.start c.node) t (put t c.start (with_edge (t c.start) l))

abbrev pub place_nodes : (ℕ → Node) → Choice → ℕ → ℕ → Float → ℕ → Node
place_nodes t c l p q = left_edge (link_left (link_right (new_node t c p q) c) c) c l

-- the nodes that are stored to are in the row
pub record ToPlace (nodes : List Node) (c : Choice) : Type 0 where
  pub node_in : c.node < length nodes
  pub before-in : c.before < length nodes
  pub right-in : c.right < length nodes
  pub start-in : c.start < length nodes

-- a from L up to Q, then v from Q up to R
pub record Rebuckets (old new : List ℕ) (count L Q R a v : ℕ) : Type 0 where
  pub mid : List ℕ
  pub left : Updated old mid count L Q a
  pub right : Updated mid new count Q R v

-- What an insert asks: a ring in the rows, in which nodes can be found, of at most `most` nodes, with a node of the left angle and,
-- further on, one of the right angle; the rows have one node more
pub record ToInsert (nodes : List Node) (freed buckets : List ℕ) (h : Hull) (al q ar : Float) : Type 0 where
  pub to-find : ToFind nodes buckets h
  pub free : Free (On (right_node_of (nodes_of nodes)) (size_of h) (row_of buckets 0)) (row_of freed) h.freed h.nodes
  pub freed-most : h.freed ≤ h.nodes
  pub most : ℕ
  pub size-most : size_of h ≤ most
  pub len-most : h.nodes ≤ suc most
  pub node-room : suc most ≤ length nodes
  pub freed-room : suc most ≤ length freed
  pub small : suc most + 1 < 2 ^ 32
  pub left : ℕ
  pub left_in : left < size_of h
  pub left-angle : angle_of (nodes_of nodes) (iter left (right_node_of (nodes_of nodes)) (row_of buckets 0)) ≡ turns al
  pub steps : ℕ
  pub some : 0 < steps
  pub less : steps < size_of h
  pub right-angle :
      angle_of (nodes_of nodes) (iter steps (right_node_of (nodes_of nodes)) (iter left (right_node_of (nodes_of nodes)) (row_of buckets 0))) ≡ turns ar
  pub al-angle : IsAngle al
  pub q-angle : IsAngle q
  pub ar-angle : IsAngle ar

-- What it leaves. `stack` is the row of freed nodes before the finger is put down above them.
pub record InsertedRows
    (nodes : List Node) (freed buckets : List ℕ)
    (nodes' : List Node) (freed' buckets' : List ℕ)
    (h : Hull) (al q ar : Float) (l p : ℕ) (r : Hull) : Type 0 where
  pub left : ℕ
  pub left-on : On (right_node_of (nodes_of nodes)) (size_of h) (row_of buckets 0) left
  pub left-angle : angle_of (nodes_of nodes) left ≡ turns al
  pub choice : Choice
  pub stack : List ℕ
  pub chosen : Chosen (nodes_of nodes) freed stack h left (eqb (turns al) (turns q)) (turns ar) choice
  pub same-stack : (j : ℕ) → j < choice.freed → row_of freed' j ≡ row_of stack j
  pub placed : Retired (place_nodes (nodes_of nodes) choice l p q) (nodes_of nodes') (row_of stack) (h.freed - 1) choice.freed
  pub rebuckets :
      Rebuckets buckets buckets' h.buckets
      (ceil_of (turns al) h.buckets) (ceil_of (turns q) h.buckets) (ceil_of (turns ar) h.buckets)
      choice.start choice.node
  pub valid : ValidNodes (nodes_of nodes') r.nodes
  pub room : r.nodes ≤ length nodes
  pub same-buckets : r.buckets ≡ h.buckets
  pub used : r.nodes ≡ choice.nodes
  pub freed-now : r.freed ≡ choice.freed

-- another number of buckets, within their row
pub record ToAdjust (nodes : List Node) (buckets : List ℕ) (h : Hull) : Type 0 where
  pub rows : RingHeld nodes buckets h
  pub size-most : size_of h ≤ 2 ^ 20
  pub room : adjusted_buckets h.buckets (size_of h) ≤ length buckets

pub record Adjusted (nodes : List Node) (old new : List ℕ) (h r : Hull) : Type 0 where
  pub count : r.buckets ≡ adjusted_buckets h.buckets (size_of h)
  pub used : r.nodes ≡ h.nodes
  pub freed : r.freed ≡ h.freed
  pub filled :
      Bucketed (right_node_of (nodes_of nodes)) (angle_of (nodes_of nodes)) (row_of new) r.buckets (width r.buckets) (row_of old 0) (size_of h)
