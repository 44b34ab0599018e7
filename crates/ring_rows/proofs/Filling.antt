-- What holds while the buckets are filled, node by node. Assumes nothing.
use Prim.Native.Nat.{ℕ, suc, ◌+◌, ◌<◌, ◌≤◌}
use native.Mathlib.Omega.{arith}
use mathlib.Core.Path.{◌≡◌, refl, sym, ◌∙◌, ap, subst}
use mathlib.Core.Bool.{cond}
use mathlib.Core.List.{List}
use lib.ListN.{length}
use Rattle.angle.specs.Angle.{IsAngle}
use Rattle.segment.specs.Bucket.{width, ceil_of}
use Rattle.sums.specs.Iterate.{iter}
use Rattle.sums.proofs.IterateLaws.{iter-last}
use Rattle.dcel.specs.Rows.{row_of}
use Rattle.ring.specs.Ring.{full_turn}
use Rattle.ring.specs.Buckets.{ceiling, within}
use Rattle.ring.specs.Insert.{Bucketed}
use Rattle.ring.proofs.ResizeLaws.{buckets-sized}
use Rattle.ring.specs.Build.{Filling}
use Rattle.ring.proofs.BuildLaws.{filling-start, filling_step, filling-done}
use Rattle.ring_rows.specs.declared.Node.{Node}
use Rattle.ring_rows.specs.Rows.{nodes_of, angle_of, right_node_of, NodeUpdated, NodeBuckets, NodeRing, ToFill}
use Rattle.ring_rows.proofs.Laws.{walk-below}

pub record Going (nodes : List Node) (old new : List ℕ) (count start size i k : ℕ) : Type 0 where
  pub given : ToFill nodes old count start size
  pub at : i ≡ iter k (right_node_of (nodes_of nodes)) start
  pub most : k ≤ size
  pub filled : Filling (right_node_of (nodes_of nodes)) (angle_of (nodes_of nodes)) (row_of new) count (width count) start k
  pub same : length new ≡ length old

angles-low : {t : ℕ → Node} {len size start : ℕ} → NodeRing t len size start → (k : ℕ) → k < size → angle_of t (iter k (right_node_of t) start) ≤ full_turn
angles-low {t} {len} {size} {start} R k l = (R.valid (iter k (right_node_of t) start) (walk-below R.valid R.first k)).angle.small

pub begin : {nodes : List Node} {old : List ℕ} {count start size : ℕ} → ToFill nodes old count start size → Going nodes old old count start size start 0
begin {nodes} {old} {count} {start} {size} G = record {
  given = G;
  at = refl;
  most = omega arith;
  filled = filling-start G.ring.sound G.ring.all-proper (angles-low G.ring) (buckets-sized G.counted) (row_of old);
  same = refl;
}

module _ {nodes : List Node} {old new : List ℕ} {count start size i k : ℕ} (K : Going nodes old new count start size i k) where
  here : i < K.given.len
  here = subst (λ (x : ℕ). x < K.given.len) (sym K.at) (walk-below K.given.ring.valid K.given.ring.first k)

  pub node-buckets : NodeBuckets nodes new count i
  node-buckets =
      let v = K.given.ring.valid in
      let r = (v i here).right in
      record {
        here = let a = here in let b = K.given.node-room in omega arith;
        there = let b = K.given.node-room in omega arith;
        from = (v i here).angle;
        to = (v (nodes_of nodes i).right r).angle;
        counted = K.given.counted;
        room = let a = K.given.bucket-room in let b = K.same in omega arith;
      }

  pub more : {new' : List ℕ} {r : ℕ} → k < size → NodeUpdated (nodes_of nodes) new new' count i r → length new' ≡ length new → Going nodes old new' count start size r (k + 1)
  unfolding ceiling
  more {new'} {r} l U q = subst (Going nodes old new' count start size r) (one k) (record {
    given = K.given;
    at = U.right ∙ ap (right_node_of (nodes_of nodes)) K.at ∙ sym (iter-last k (right_node_of (nodes_of nodes)) start);
    most = l;
    filled = filling_step K.given.ring.sound K.given.ring.all-proper (angles-low K.given.ring) (buckets-sized K.given.counted) (row_of new) (row_of new') k l
        (subst (λ (x : ℕ). (j : ℕ) → j < count → row_of new' j ≡ cond (within j (ceil_of (angle_of (nodes_of nodes) x) count) (ceil_of (angle_of (nodes_of nodes) (right_node_of (nodes_of nodes) x)) count)) x (row_of new j)) K.at U.updated.each) K.filled;
    same = q ∙ K.same;
  })
    where
      one : (k : ℕ) → suc k ≡ k + 1
      one k = omega arith

  pub end : size ≤ k → Bucketed (right_node_of (nodes_of nodes)) (angle_of (nodes_of nodes)) (row_of new) count (width count) start size
  end l =
      filling-done K.given.ring.sound K.given.ring.all-proper (angles-low K.given.ring) (buckets-sized K.given.counted) (row_of new)
      (subst (Filling (right_node_of (nodes_of nodes)) (angle_of (nodes_of nodes)) (row_of new) count (width count) start) (let m = K.most in the k size m l) K.filled)
    where
      the : (k size : ℕ) → k ≤ size → size ≤ k → k ≡ size
      the k size a b = omega arith

-- ---- one node's buckets
module _ {nodes : List Node} {buckets : List ℕ} {count i : ℕ} (G : NodeBuckets nodes buckets count i) {from : Node} (e : from ≡ nodes_of nodes i) where
  pub to-there : from.right < length nodes
  to-there = rw e G.there

  pub from-angle : IsAngle from.angle
  from-angle = rw e G.from

  module _ {to : Node} (e₂ : to ≡ nodes_of nodes from.right) where
    pub to-angle : IsAngle to.angle
    to-angle = rw (e₂, e) G.to
