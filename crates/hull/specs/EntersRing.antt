-- A vertex that a step has added to the boundary enters the ring: what `insert` asks of the rows, in the words of the mesh before the step
-- and after it, and what it leaves. Definitions only; `Insert` has the laws.
use Rattle.std.specs.Prelude.{ℕ, suc, ◌≤◌, ◌^◌, ◌≡◌, List, Float, length}
use Rattle.mesh.specs.declared.Counts.{Counts}
use Rattle.mesh.specs.Mesh.{Links}
use Rattle.mesh.specs.Wf.{Wf}
use Rattle.angle.specs.Angle.{IsAngle, turns}
use Rattle.ring.specs.Ring.{edge_angle}
use Rattle.ring_rows.specs.declared.Node.{Node}
use Rattle.ring_rows.specs.declared.Hull.{Hull}
use Rattle.hull.specs.Held.{Held}
use Rattle.hull.specs.Insert.{Change}

-- The rows, which do for N vertices, hold the ring of the boundary before. `left` is the angle at which the covered edges start, `middle` that
-- of the new vertex, `right` that at which the rest of the boundary starts; `leftedge` leads to the new vertex and `rightedge` from it
pub record EntersRing
    (C : Counts) (L : Links) (α : ℕ → ℕ)
    (C' : Counts) (L' : Links) (α'' : ℕ → ℕ)
    (e m n q r N : ℕ)
    (nodes : List Node) (freed buckets : List ℕ) (h : Hull)
    (left middle right : Float) (leftedge rightedge : ℕ) : Type 0 where
  pub rules : Wf C L
  pub rules-after : Wf C' L'
  pub held : Held C L α nodes freed buckets h
  pub change : Change C L α C' L' α'' e m n leftedge rightedge q r
  pub left-angle : IsAngle left
  pub middle-angle : IsAngle middle
  pub right-angle : IsAngle right
  pub left_is : turns left ≡ edge_angle L α e
  pub middle-is : turns middle ≡ q
  pub right_is : turns right ≡ edge_angle L α r
  pub vertices-most : C.vertices ≤ N
  pub vertices-after-most : C'.vertices ≤ N
  pub small : N ≤ 2 ^ 20
  pub nodes-most : h.nodes ≤ suc N
  pub node-room : suc N ≤ length nodes
  pub freed-room : suc N ≤ length freed
  pub bucket-room : N ≤ length buckets

-- some mesh before and after
pub record ToEnterRing
    (nodes : List Node) (freed buckets : List ℕ) (h : Hull)
    (left middle right : Float) (leftedge rightedge : ℕ) : Type 0 where
  pub counts : Counts
  pub links : Links
  pub angles : ℕ → ℕ
  pub counts-after : Counts
  pub links-after : Links
  pub angles-after : ℕ → ℕ
  pub first : ℕ
  pub covered : ℕ
  pub uncovered : ℕ
  pub angle : ℕ
  pub end : ℕ
  pub most : ℕ
  pub enters :
      EntersRing counts links angles counts-after links-after angles-after first covered uncovered angle end most
      nodes freed buckets h left middle right leftedge rightedge

-- the rows hold the ring of the boundary after, whichever meshes they are, and still do for N vertices
abbrev pub EnteredRing :
    List Node → List ℕ → List ℕ → List Node → List ℕ → List ℕ → Hull
    → Float → Float → Float → ℕ → ℕ → Hull → Type 0
EnteredRing nodes freed buckets nodes' freed' buckets' h left middle right leftedge rightedge h' =
    (C : Counts) (L : Links) (α : ℕ → ℕ) (C' : Counts) (L' : Links) (α'' : ℕ → ℕ) (e m n q r N : ℕ)
    → EntersRing C L α C' L' α'' e m n q r N nodes freed buckets h left middle right leftedge rightedge
    → Held C' L' α'' nodes' freed' buckets' h' × (h'.nodes ≤ suc N)
