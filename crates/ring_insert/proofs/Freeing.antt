-- What holds on the way from the left node to the right one, where the nodes between are put on a stack; and the stack's top. Assumes nothing.
use Prim.Native.Nat.{ℕ, suc, ◌+◌, ◌-◌, ◌<◌, ◌≤◌, ◌^◌}
use native.Mathlib.Decide.{ℕ_discrete}
use native.Mathlib.Omega.{arith}
use mathlib.Core.Path.{◌≡◌, refl, sym, ◌∙◌, ap, subst}
use mathlib.Core.Logic.{◌≢◌, ◌⊎◌, inl, inr}
use mathlib.Core.Bool.{Bool, true, false}
use mathlib.Core.List.{List}
use lib.Dec.{T, eqb, eqb→eq}
use lib.Ieee.{Float}
use lib.ListN.{length, get_or, set, length-set}
use lib.Seq.{get_or-set_same, get_or-set_other}
use Rattle.sums.proofs.BitLaws.{eq_test}
use Rattle.sums.specs.Iterate.{iter}
use Rattle.sums.proofs.IterateLaws.{iter-last}
use Rattle.angle.specs.Angle.{IsAngle, turns}
use Rattle.segment.specs.Bucket.{width}
use Rattle.dcel.specs.Rows.{row_of}
use Rattle.ring.specs.Free.{Pushed, Taken, top, next_one}
use Rattle.ring.proofs.FreeLaws.{taken-sum}
use Rattle.ring.specs.Node.{NodeTable}
use Rattle.ring.specs.Insert.{Bucketed, Insertion}
use Rattle.ring.specs.Resize.{adjusted_buckets}
use Rattle.ring.proofs.ResizeLaws.{adjusted-buckets}
use Rattle.ring.specs.WholeInsert.{Names}
use Rattle.ring_rows.specs.declared.Node.{Node}
use Rattle.ring_rows.specs.declared.Hull.{Hull}
use Rattle.ring_rows.specs.Rows.{nodes_of, angle_of, right_node_of, size_of, Updated, ToFill}
use Rattle.ring_rows.proofs.Laws.{walk-below}
use Rattle.ring_insert.specs.Insert.{ToRelease, ReleasedTo, Rebuckets, ToAdjust, Adjusted}

pub record Pushing (nodes : List Node) (old new : List ℕ) (top first : ℕ) (a : Float) (i n : ℕ) : Type 0 where
  pub given : ToRelease nodes old top first a
  pub passed : ℕ
  pub some : 0 < passed
  pub most : passed ≤ given.steps
  pub at : i ≡ iter passed (right_node_of (nodes_of nodes)) first
  pub count : n + 1 ≡ top + passed
  pub least : (j : ℕ) → 0 < j → j < passed → angle_of (nodes_of nodes) (iter j (right_node_of (nodes_of nodes)) first) ≢ turns a
  pub done : Pushed (right_node_of (nodes_of nodes)) (row_of old) (row_of new) first passed top
  pub same : length new ≡ length old

pub first-there : {nodes : List Node} {old : List ℕ} {top first : ℕ} {a : Float} → ToRelease nodes old top first a → first < length nodes
first-there G = let l = G.ring.first in let m = G.node-room in omega arith

pub begin : {nodes : List Node} {old : List ℕ} {top first : ℕ} {a : Float} {from : Node} → ToRelease nodes old top first a → from ≡ nodes_of nodes first → Pushing nodes old old top first a from.right top
begin {nodes} {old} {top} {first} {a} {from} G e = record {
  given = G;
  passed = 1;
  some = omega arith;
  most = G.some;
  at = ap (λ (n : Node). n.right) e;
  count = refl;
  least = λ j l m. absurd (omega arith);
  done = record { old = λ j l. refl; new = λ i l. absurd (omega arith) };
  same = refl;
}

module _ {nodes : List Node} {old new : List ℕ} {top first : ℕ} {a : Float} {i n : ℕ} (K : Pushing nodes old new top first a i n) where
  here : i < K.given.len
  here = subst (λ (x : ℕ). x < K.given.len) (sym K.at) (walk-below K.given.ring.valid K.given.ring.first K.passed)

  pub node-there : i < length nodes
  node-there = let l = here in let m = K.given.node-room in omega arith

  pub room : n < length new
  room = let h = K.given.freed-room in let l = K.given.less in let m = K.most in let e = K.count in let z = K.same in omega arith

  pub small : n + 1 < 2 ^ 32
  small = let h = K.given.small in let l = K.given.less in let m = K.most in let e = K.count in omega arith

  pub fall : length old - (n + 1) < length old - n
  fall = let h = room in let z = K.same in omega arith

  module _ {node : Node} (e : node ≡ nodes_of nodes i) where
    pub angles : IsAngle node.angle × IsAngle a
    angles = (subst (λ (x : Node). IsAngle x.angle) (sym e) (K.given.ring.valid i here).angle, K.given.is-angle)

    module _ {h : Bool} (q : h ≡ eqb (turns node.angle) (turns a)) where
      angle-is : turns node.angle ≡ angle_of (nodes_of nodes) i
      angle-is = ap (λ (x : Node). turns x.angle) e

      pub end : h ≡ true → ReleasedTo (nodes_of nodes) old new top first (turns a) i n
      end y = record {
        passed = K.passed;
        some = K.some;
        least = K.least;
        there = K.at;
        angle = sym angle-is ∙ eqb→eq (turns node.angle) (turns a) (subst T (sym y ∙ q) tt);
        stack = let s = K.some in let g = K.count in omega arith;
        pushed = K.done;
      }

      off : h ≡ false → angle_of (nodes_of nodes) i ≢ turns a
      off y z = subst T (sym q ∙ y) (eq_test (angle-is ∙ z))

      more : h ≡ false → K.passed < K.given.steps
      more y = go (ℕ_discrete K.passed K.given.steps)
        where
          go : Dec (K.passed ≡ K.given.steps) → K.passed < K.given.steps
          go (yes z) = absurd (off y (ap (angle_of (nodes_of nodes)) (K.at ∙ ap (λ (j : ℕ). iter j (right_node_of (nodes_of nodes)) first) z) ∙ K.given.there))
          go (no z) = let m = K.most in omega arith

      pub again : h ≡ false → Pushing nodes old (set new n i) top first a node.right (n + 1)
      unfolding row_of
      again y = record {
        given = K.given;
        passed = suc K.passed;
        some = omega arith;
        most = more y;
        at = ap (λ (x : Node). x.right) e ∙ ap (right_node_of (nodes_of nodes)) K.at ∙ sym (iter-last K.passed (right_node_of (nodes_of nodes)) first);
        count = let g = K.count in omega arith;
        least = λ j l m. missed j l m (ℕ_discrete j K.passed);
        done = record { old = kept; new = λ j l. push j l (ℕ_discrete (suc j) K.passed) };
        same = length-set new n i ∙ K.same;
      }
        where
          missed : (j : ℕ) → 0 < j → j < suc K.passed → Dec (j ≡ K.passed) → angle_of (nodes_of nodes) (iter j (right_node_of (nodes_of nodes)) first) ≢ turns a
          missed j l m (yes z) w = off y (ap (angle_of (nodes_of nodes)) (K.at ∙ ap (λ (k : ℕ). iter k (right_node_of (nodes_of nodes)) first) (sym z)) ∙ w)
          missed j l m (no z) w = K.least j l (omega arith) w

          kept : (j : ℕ) → j < top → get_or (set new n i) j 0 ≡ get_or old j 0
          kept j l = get_or-set_other new n j i 0 (λ z. let g = K.count in let s = K.some in omega arith) ∙ K.done.old j l

          push : (j : ℕ) → suc j < suc K.passed → Dec (suc j ≡ K.passed) → get_or (set new n i) (top + j) 0 ≡ iter (suc j) (right_node_of (nodes_of nodes)) first
          push j l (yes z) =
              ap (λ (k : ℕ). get_or (set new n i) k 0) (let g = K.count in the top j n K.passed g z) ∙ get_or-set_same new n i 0 room ∙ K.at ∙ ap (λ (k : ℕ). iter k (right_node_of (nodes_of nodes)) first) (sym z)
            where
              the : (a b d e : ℕ) → d + 1 ≡ a + e → suc b ≡ e → a + b ≡ d
              the a b d e f g = omega arith
          push j l (no z) = get_or-set_other new n (top + j) i 0 (λ w. let g = K.count in omega arith) ∙ K.done.new j (omega arith)

-- ---- the stack's top
pub take_next : {f : ℕ → ℕ} {n len : ℕ} → n ≡ 0 → Taken f n len len 0 (len + 1)
take_next {f} {n} {len} e = subst (Taken f n len len 0) (one len) (next_one e)
  where
    one : (k : ℕ) → suc k ≡ k + 1
    one k = omega arith

pub take-top : (l : List ℕ) {n len i : ℕ} → (1 ≤ n) × (i ≡ n - 1) → Taken (row_of l) n len (get_or l i 0) i len
unfolding row_of
take-top l {n} {len} {i} h = top (back n i h.0 h.1)
  where
    back : (n i : ℕ) → 1 ≤ n → i ≡ n - 1 → n ≡ suc i
    back n i h e = omega arith

pub taken-le : {f : ℕ → ℕ} {n len v n' len' : ℕ} → Taken f n len v n' len' → n' ≤ n
taken-le {f} {n} {len} {v} {n'} {len'} X = go (taken-sum X)
  where
    go : ((n ≡ suc n') × (len' ≡ len)) ⊎ ((n ≡ 0) × (n' ≡ 0) × (len' ≡ suc len)) → n' ≤ n
    go (inl x) = omega arith
    go (inr x) = omega arith

-- ---- the left node goes, or stays
pub goes-names : (τ : NodeTable) (x : Insertion) (mid : List ℕ) {n : ℕ} {g : Bool} → g ≡ true → n < length mid
    → x.before ≡ τ.left x.left → x.start ≡ x.new → (al q : ℕ) → g ≡ eqb al q
    → Names τ x (row_of mid) (row_of (set mid n x.left)) al q n (n + 1)
unfolding row_of
goes-names τ x mid {n} y l before start al q z = record {
  named = record {
    before-stays = λ d. absurd (d same);
    before-goes = λ d. before;
    start-stays = λ d. absurd (d same);
    start-goes = λ d. start;
  };
  stack = λ j m. get_or-set_other mid n j x.left 0 (λ w. omega arith);
  more = λ d. (one n, get_or-set_same mid n x.left 0 l);
  same = λ d. absurd (d same);
}
  where
    same : al ≡ q
    same = eqb→eq al q (subst T (sym y ∙ z) tt)

    one : (k : ℕ) → k + 1 ≡ suc k
    one k = omega arith

pub stays-names : (τ : NodeTable) (x : Insertion) (freed : ℕ → ℕ) {n : ℕ} {g : Bool} → g ≡ false
    → x.before ≡ x.left → x.start ≡ x.left → (al q : ℕ) → g ≡ eqb al q → Names τ x freed freed al q n n
stays-names τ x freed y before start al q z = record {
  named = record {
    before-stays = λ d. before;
    before-goes = λ d. absurd (differ d);
    start-stays = λ d. start;
    start-goes = λ d. absurd (differ d);
  };
  stack = λ j m. refl;
  more = λ d. absurd (differ d);
  same = λ d. refl;
}
  where
    differ : al ≢ q
    differ d = subst T (sym z ∙ y) (eq_test d)

-- ---- two ranges of buckets
pub rebuckets : {old mid new : List ℕ} {count a b c L Q R s v : ℕ} → a ≡ L → b ≡ Q → c ≡ R → Updated old mid count a b s → Updated mid new count b c v → Rebuckets old new count L Q R s v
rebuckets {old} {mid} {new} {count} {a} {b} {c} {L} {Q} {R} {s} {v} e f g P U = record { mid = mid; left = rw (← e, ← f) P; right = rw (← f, ← g) U }

-- ---- another number of buckets
module _ (h : Hull) {count size : ℕ} (sized : size ≡ size_of h) (counted : count ≡ adjusted_buckets h.buckets size) where
  count-is : count ≡ adjusted_buckets h.buckets (size_of h)
  count-is = counted ∙ ap (adjusted_buckets h.buckets) sized

  pub to-refill : {nodes : List Node} {buckets : List ℕ} → ToAdjust nodes buckets h → ToFill nodes buckets count (row_of buckets 0) size
  to-refill {nodes} {buckets} A = record {
    len = h.nodes;
    ring = rw sized A.rows.ring;
    node-room = A.rows.node-room;
    counted = rw count-is (adjusted-buckets (size_of h) A.size-most A.rows.counted);
    bucket-room = rw count-is A.room;
  }

  pub adjusted : {nodes : List Node} {old new : List ℕ}
      → Bucketed (right_node_of (nodes_of nodes)) (angle_of (nodes_of nodes)) (row_of new) count (width count) (row_of old 0) size
      → Adjusted nodes old new h (record { buckets = count; nodes = h.nodes; freed = h.freed })
  adjusted F = record { count = count-is; used = refl; freed = refl; filled = rw (← sized) F }
