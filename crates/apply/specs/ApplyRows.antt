-- Rows and counts as the states of a step, and what each function asks of them. Definitions only.
use Rattle.std.specs.Prelude.{List, ◌≡◌, ℕ, ◌+◌, ◌*◌, ◌≤◌, ℤ, length}
use Rattle.circle_test.specs.GoodRows.{GoodRows}
use Rattle.corner.specs.CornerLaws.{CornerClosed}
use Rattle.corner.specs.CornerRows.{extended_of, MeshRoom, Ready}
use Rattle.dcel.specs.MeshHeld.{Room}
use Rattle.dcel.specs.Rows.{Halves, links_of, position_of}
use Rattle.math.specs.declared.Point.{Point}
use Rattle.mesh.specs.declared.Counts.{Counts}
use Rattle.mesh.specs.Mesh.{Links, In}
use Rattle.mesh.specs.Operations.{create_new_face_adjacent_to_edge, with_vertex}
use Rattle.mesh.specs.Good.{Good}
use Rattle.mesh.specs.Wf.{Wf}
use Rattle.ring.specs.Chain.{left_chain, right_chain}
use Rattle.apply.specs.declared.Entered.{Entered}
use Rattle.ring.specs.declared.Side.{Side}
use Rattle.ring.specs.declared.Side.TheVariants.{Left, Right}
use Rattle.apply.specs.declared.Walked.{Walked}
use Rattle.ring.specs.Chain.{beside}
use Rattle.apply.specs.Apply.{Walking, Applied, face_edge, walk_turn_of}
use Rattle.apply.specs.Walks.{Before}
use Rattle.apply.specs.Turns.{AlongOn, chain_on}

abbrev pub walking_of : List ℕ → List ℕ → List ℕ → Walked → Walking
walking_of o h a w = record { mesh = extended_of o h a w.added; current = w.edge }

abbrev pub applied_of : List ℕ → List ℕ → List ℕ → Entered → Applied
applied_of o h a r = record { mesh = extended_of o h a r.added; left_edge = r.leftedge; right_edge = r.rightedge }

-- the edge before e or after it
unfoldable pub beside_in : Side → Halves → ℕ → ℕ
beside_in Left H e = H.prev e
beside_in Right H e = H.next e

-- the mesh before keeps the rules, and with a new vertex and a face over its boundary edge e it is good; the rows have room for it
pub record FirstReady (C : Counts) (q : List ℤ) (o h a row : List ℕ) (e : ℕ) : Type 0 where
  pub rules : Wf C (links_of o h a)
  pub edge : In C e
  pub good : Good (with_vertex C) (create_new_face_adjacent_to_edge (links_of o h a) C e) (position_of q)
  pub outs : C.vertices + 1 ≤ length o
  pub positions : 2 * (C.vertices + 1) ≤ length q
  pub sized : MeshRoom (C.vertices + 1) h a row

-- a corner beside the current edge is to be closed
pub record TurnReady (side : Side) (q : List ℤ) (o h a row : List ℕ) (w : Walked) : Type 0 where
  pub ready : Ready q o h a row w.added
  pub current : In w.added.counts w.edge
  pub closes : CornerClosed (position_of q) (extended_of o h a w.added)
      (walk_turn_of side (length row) (position_of q) (walking_of o h a w)).mesh
      (face_edge side w.edge (beside side (links_of o h a) w.edge))

-- the loop of a side is under way about some mesh before, and has at least so many turns to make
pub record TurnsReady (side : Side) (q : List ℤ) (o h a row : List ℕ) (w : Walked) (count : ℕ) : Type 0 where
  pub ready : Ready q o h a row w.added
  pub counts : Counts
  pub links : Links
  pub places : ℕ → Point
  pub angles : ℕ → ℕ
  pub angles-now : ℕ → ℕ
  pub point : Point
  pub angle : ℕ
  pub edge : ℕ
  pub before : Before counts links places angles (position_of q) angles-now point angle edge
  pub others : ℕ
  pub other : ℕ
  pub made : ℕ
  pub on : AlongOn before side others other made (walking_of o h a w)
  pub left : made + count ≤ chain_on before side

-- a point that the mesh before was decided to take up over its edge e, with so many turns to the left and to the right
pub record AddReady (C : Counts) (q : List ℤ) (o h a row : List ℕ) (e left right : ℕ) : Type 0 where
  pub places : ℕ → Point
  pub angles : ℕ → ℕ
  pub angles-now : ℕ → ℕ
  pub point : Point
  pub angle : ℕ
  pub before : Before C (links_of o h a) places angles (position_of q) angles-now point angle e
  pub left_is : left ≡ left_chain C (links_of o h a) places angles point angle e
  pub right_is : right ≡ right_chain C (links_of o h a) places angles point angle e
  pub outs : C.vertices + 1 ≤ length o
  pub positions : 2 * (C.vertices + 1) ≤ length q
  pub sized : MeshRoom (C.vertices + 1) h a row
