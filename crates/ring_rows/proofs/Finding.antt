-- What `find` asks of the walks and of the finger, and that it ends at the node of the angle. Assumes nothing.
use Prim.Native.Nat.{ℕ, ◌+◌, ◌-◌, ◌%◌, ◌<◌, ◌≤◌}
use native.Mathlib.Nat.{mod-lt}
use native.Mathlib.Omega.{arith}
use mathlib.Core.Path.{◌≡◌, refl, sym, ◌∙◌, ap, subst}
use mathlib.Core.Bool.{Bool, true}
use mathlib.Core.List.{List}
use lib.Dec.{T}
use lib.Bits.{bit_and}
use lib.Ieee.{Float}
use Rattle.std.specs.Prelude.{Option, Some, None, IsSome, IfSome, MatchOption}
use lib.ListN.{get_or, set}
use lib.Seq.{get_or-set_other}
use Rattle.angle.specs.Angle.{valid_angle}
use Rattle.segment.specs.Bucket.{Buckets}
use Rattle.segment.proofs.Laws.{bucket-pos}
use Rattle.segment.proofs.Shift.{mask}
use Rattle.sums.specs.Iterate.{iter}
use Rattle.sums.proofs.IterateLaws.{iter-add, Reach}
use Rattle.sums.proofs.TallyLaws.{tally-most}
use Rattle.dcel.specs.Rows.{row_of}
use Rattle.ring.specs.Ring.{at_ends, proper}
use Rattle.ring.proofs.SoundLaws.{tile}
use Rattle.ring.specs.Insert.{On}
use Rattle.ring.proofs.HullLaws.{on-to, on-any}
use Rattle.ring_rows.specs.declared.Node.{Node}
use Rattle.ring_rows.specs.declared.Hull.{Hull}
use Rattle.ring_rows.specs.declared.Handles.{Handles}
use Rattle.ring_rows.specs.Rows.{nodes_of, angle_of, left_of, right_node_of, size_of}
use Rattle.ring_rows.specs.Find.{OnRing, node_holds, NodeAt, ToFind, ToTest, ToWalk, WalkedBoth, InUse}
use Rattle.ring_rows.proofs.Laws.{ring-from}
use Rattle.ring_rows.proofs.Test.{to-test}

-- ---- the node of the next bucket
pub after_masked : (l : List ℕ) (i count : ℕ) → Buckets count → get_or l (bit_and i (count - 1)) 0 ≡ row_of l (i % count)
unfolding row_of
after_masked l i count B = ap (λ (k : ℕ). get_or l k 0) (mask count i B)

-- ---- a store above the stack
pub stack-kept : (l : List ℕ) (v : ℕ) {top i : ℕ} → top ≤ i → (j : ℕ) → j < top → row_of (set l i v) j ≡ row_of l j
unfolding row_of
stack-kept l v {top} {i} u j w = get_or-set_other l i j v 0 (λ z. omega arith)

-- ---- the ring
module _ {nodes : List Node} {buckets : List ℕ} {h : Hull} (F : ToFind nodes buckets h) where
  closed : iter (size_of h) (right_node_of (nodes_of nodes)) (row_of buckets 0) ≡ row_of buckets 0
  closed = F.rows.ring.sound.closed

  pub size-some : 3 ≤ size_of h
  size-some =
      let t = nodes_of nodes in
      let a = tally-most (at_ends proper (right_node_of t) (angle_of t)) (right_node_of t) (size_of h) (row_of buckets 0) in
      let b = F.rows.ring.sound.three in omega arith

  pub bucket-on : (b : ℕ) → b < h.buckets → OnRing nodes buckets h (row_of buckets b)
  bucket-on b l = (F.rows.filled b l).0

  -- the node of the next bucket
  pub after_on : (b : ℕ) {r : ℕ} → r ≡ row_of buckets ((b + 1) % h.buckets) → OnRing nodes buckets h r
  after_on b e = rw e (bucket-on ((b + 1) % h.buckets) (mod-lt (b + 1) (bucket-pos h.buckets F.rows.counted)))

  -- wherever a walk to the right comes is in the ring
  pub reach-on : {i j : ℕ} → OnRing nodes buckets h i → Reach (right_node_of (nodes_of nodes)) i j → OnRing nodes buckets h j
  reach-on {i} {j} o (k, z) =
      let f = right_node_of (nodes_of nodes) in
      subst (OnRing nodes buckets h) (iter-add o.0 k f (row_of buckets 0) ∙ ap (iter k f) o.2 ∙ z)
      (on-any {right = f} {m = size_of h} {s = row_of buckets 0} closed (let s = size-some in omega arith) (o.0 + k))

  pub next-on : {i : ℕ} {node : Node} → OnRing nodes buckets h i → node ≡ nodes_of nodes i → OnRing nodes buckets h node.right
  next-on o e = reach-on o (1, ap (λ (n : Node). n.right) (sym e))

  pub here-at : {i x : ℕ} {t : Bool} → OnRing nodes buckets h i → t ≡ node_holds (nodes_of nodes) x i → t ≡ true → NodeAt nodes buckets h x i
  here-at o e y = record { on = o; at = subst T (sym y ∙ e) tt }

  pub asks-test : {i : ℕ} {a : Float} → OnRing nodes buckets h i → T (valid_angle a) → ToTest nodes i a
  asks-test o v = to-test nodes F.rows.ring F.rows.node-room o v

  -- ---- a walk from two nodes of the ring
  module _ {right left : ℕ} (o : OnRing nodes buckets h right) (p : OnRing nodes buckets h left) where
    -- the same nodes from the first of them on
    from-right : (i : ℕ) → OnRing nodes buckets h i → On (right_node_of (nodes_of nodes)) (size_of h) right i
    from-right i q =
        subst (λ (s : ℕ). On (right_node_of (nodes_of nodes)) (size_of h) s i) o.2
        (on-to {right = right_node_of (nodes_of nodes)} {m = size_of h} {s = row_of buckets 0} i closed o.0 q)

    to-right : (i : ℕ) → On (right_node_of (nodes_of nodes)) (size_of h) right i → OnRing nodes buckets h i
    to-right i q = reach-on o (q.0, q.2)

    pub asks-walk : {a : Float} → T (valid_angle a) → ToWalk nodes right left a
    asks-walk v = record {
      len = h.nodes;
      size = size_of h;
      ring = ring-from F.rows.ring right o;
      left-on = from-right left p;
      back = λ i q. from-right (left_of (nodes_of nodes) i) (F.back i (to-right i q));
      node-room = F.rows.node-room;
      valid = v;
    }

    module _ {x limit : ℕ} {r : Option ℕ} (W : WalkedBoth (nodes_of nodes) right x limit r) where
      pub walked_at : {i : ℕ} → r ≡ Some i → NodeAt nodes buckets h x i
      walked_at {i} z = record { on = reach-on o (W.reached i z); at = W.at i z }

      -- as many turns as there are nodes find it
      pub walked-round : limit ≡ size_of h → IsSome r
      walked-round e = go r refl
        where
          go : (q : Option ℕ) → r ≡ q → IsSome q
          go (Some i) z = refl
          go None z =
              let m = tile (ring-from F.rows.ring right o).sound x in
              absurd (W.missed z m.0 (let l = m.1.below in omega arith) m.1.passes)

  -- ---- the finger
  pub in-use-on : {i : ℕ} → InUse (nodes_of nodes) h.nodes i → OnRing nodes buckets h i
  in-use-on {i} (l, d) = F.in_use i l d

  -- a walk starts there, or else at the ends
  pub started : (q : Option ℕ) {ends r : Handles} {P : ℕ → Type 0} → OnRing nodes buckets h ends.right → OnRing nodes buckets h ends.left
      → IfSome q (InUse (nodes_of nodes) h.nodes) → MatchOption q (r ≡ ends) P → ((i : ℕ) → P i → r ≡ record { right = i; left = i })
      → OnRing nodes buckets h r.right × OnRing nodes buckets h r.left
  started None o p u e g = rw e (o, p)
  started (Some i) o p u e g = let k = in-use-on u in rw (g i e) (k, k)
