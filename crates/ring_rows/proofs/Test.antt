-- The test of a node's segment: a node of a ring can be tested, and what the test answers. Assumes nothing.
use Prim.Native.Nat.{ℕ, ◌<◌, ◌≤◌}
use native.Mathlib.Omega.{arith}
use mathlib.Core.Path.{◌≡◌, sym, ◌∙◌, ap, ap₂, subst}
use mathlib.Core.Logic.{◌≢◌}
use mathlib.Core.Bool.{Bool}
use mathlib.Core.List.{List}
use lib.Dec.{T}
use lib.Ieee.{Float}
use lib.ListN.{length}
use Rattle.angle.specs.Angle.{IsAngle, valid_angle, turns}
use Rattle.segment.specs.Arc.{holds}
use Rattle.segment.specs.Segment.{contains_turns}
use Rattle.segment.specs.declared.Segment.{Segment}
use Rattle.ring.specs.Ring.{at_ends, proper}
use Rattle.ring.proofs.SegmentsLaws.{proper→}
use Rattle.ring.specs.Insert.{On}
use Rattle.ring.proofs.InsertLaws.{all-proper}
use Rattle.ring_rows.specs.declared.Node.{Node}
use Rattle.ring_rows.specs.Rows.{NodeRing, nodes_of, angle_of, right_node_of}
use Rattle.ring_rows.specs.Find.{node_holds, ToTest}
use Rattle.ring_rows.proofs.Laws.{walk-below}

pub to-test : (nodes : List Node) {len size s i : ℕ} {a : Float} → NodeRing (nodes_of nodes) len size s → len ≤ length nodes
    → On (right_node_of (nodes_of nodes)) size s i → T (valid_angle a) → ToTest nodes i a
to-test nodes {len} {size} {s} {i} R room o v =
    let t = nodes_of nodes in
    let k : i < len = subst (λ (x : ℕ). x < len) o.2 (walk-below R.valid R.first o.0) in
    let l = (R.valid i k).right in
    record {
      here = omega arith;
      there = omega arith;
      from = (R.valid i k).angle;
      to = (R.valid (right_node_of t i) l).angle;
      apart = proper→ (angle_of t i) (angle_of t (right_node_of t i))
          (subst (λ (x : ℕ). T (at_ends proper (right_node_of t) (angle_of t) x)) o.2
          (all-proper (at_ends proper (right_node_of t) (angle_of t)) (right_node_of t) size s R.all-proper o.0 o.1));
      valid = v;
    }

-- the node, the one to its right, and the segment between their angles
module _ (nodes : List Node) (i : ℕ) {node next : Node} (e₁ : node ≡ nodes_of nodes i) (e₂ : next ≡ nodes_of nodes node.right) where
  next-is : next ≡ nodes_of nodes (right_node_of (nodes_of nodes) i)
  next-is = e₂ ∙ ap (λ (n : Node). nodes_of nodes n.right) e₁

  from_is : turns node.angle ≡ angle_of (nodes_of nodes) i
  from_is = ap (λ (n : Node). turns n.angle) e₁

  to_is : turns next.angle ≡ angle_of (nodes_of nodes) (right_node_of (nodes_of nodes) i)
  to_is = ap (λ (n : Node). turns n.angle) next-is

  pub asks-segment : {a : Float} → ToTest nodes i a
      → IsAngle node.angle × IsAngle next.angle × (turns node.angle ≢ turns next.angle)
  asks-segment A = (
    subst (λ (n : Node). IsAngle n.angle) (sym e₁) A.from,
    subst (λ (n : Node). IsAngle n.angle) (sym next-is) A.to,
    λ z. A.apart (sym from_is ∙ z ∙ to_is),
  )

  pub tested : (s : Segment) (x : ℕ) {h : Bool} → ((k : ℕ) → contains_turns s k ≡ holds k (turns node.angle) (turns next.angle))
      → h ≡ contains_turns s x → h ≡ node_holds (nodes_of nodes) x i
  tested s x e₃ e₄ = e₄ ∙ e₃ x ∙ ap₂ (holds x) from_is to_is
