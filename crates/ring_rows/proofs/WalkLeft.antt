-- What holds on the walk to the left. Assumes nothing.
use Prim.Native.Nat.{ℕ, ◌<◌}
use mathlib.Core.Path.{◌≡◌, sym, ◌∙◌, ap, subst}
use mathlib.Core.Bool.{Bool, true}
use mathlib.Core.List.{List}
use lib.Dec.{T, eqb, eqb→eq}
use lib.Ieee.{Float}
use lib.ListN.{length}
use Rattle.angle.specs.Angle.{IsAngle, turns}
use Rattle.angle.proofs.Bits.{angle-valid}
use Rattle.ring.proofs.SegmentsLaws.{holds-first}
use Rattle.ring_rows.specs.declared.Node.{Node}
use Rattle.ring_rows.specs.declared.Hull.{Hull}
use Rattle.ring_rows.specs.Rows.{nodes_of, angle_of}
use Rattle.ring_rows.specs.Find.{OnRing, node_holds, NodeAt, ToFind, ToTest}
use Rattle.ring_rows.proofs.Finding.{asks-test}

-- after some turns: a ring that has the first node has this one
abbrev pub Walking : List Node → ℕ → ℕ → Type 0
Walking nodes first i = (buckets : List ℕ) (h : Hull) → ToFind nodes buckets h → OnRing nodes buckets h first → OnRing nodes buckets h i

pub begin : {nodes : List Node} {first : ℕ} → Walking nodes first first
begin b h F o = o

-- one turn more
pub again : {nodes : List Node} {first i : ℕ} → Walking nodes first i → {node : Node} → node ≡ nodes_of nodes i
    → Walking nodes first node.left
again {nodes} {first} {i} K {node} e b h F o = subst (OnRing nodes b h) (sym (ap (λ (n : Node). n.left) e)) (F.back i (K b h F o))

module _ {nodes : List Node} {buckets : List ℕ} {h : Hull} (F : ToFind nodes buckets h) where
  -- ---- at a node of the ring
  module _ {i : ℕ} (o : OnRing nodes buckets h i) {a : Float} (A : IsAngle a) where
    tests : ToTest nodes i a
    tests = asks-test F o (angle-valid a A)

    pub there : i < length nodes
    there = tests.here

    module _ {node : Node} (e : node ≡ nodes_of nodes i) where
      pub asks-equal : IsAngle node.angle × IsAngle a
      asks-equal = (subst (λ (n : Node). IsAngle n.angle) (sym e) tests.from, A)

      -- a node's segment holds the node's own angle
      pub met : {t : Bool} → t ≡ eqb (turns node.angle) (turns a) → t ≡ true → NodeAt nodes buckets h (turns a) i
      met q y =
          let same : angle_of (nodes_of nodes) i ≡ turns a =
          sym (ap (λ (n : Node). turns n.angle) e) ∙ eqb→eq (turns node.angle) (turns a) (subst T (sym y ∙ q) tt) in
          record {
            on = o;
            at = subst (λ (x : ℕ). T (node_holds (nodes_of nodes) x i)) same (holds-first _ _ tests.apart);
          }
