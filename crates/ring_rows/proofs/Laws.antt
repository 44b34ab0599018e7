-- Laws of rings in rows, for the functions of this crate and of those above it. Assumes nothing.
use Rattle.std.specs.Prelude.{ℕ, ◌<◌, ◌/◌, ◌≡◌, refl, List, T, length, replicate}
use Rattle.std.proofs.Common.{mod-lt, sym, ◌∙◌, ap, subst}
use Rattle.std.proofs.Math.Decide.{ℕ_discrete}
use Rattle.std.proofs.Math.Path.{fun_ext}
use Rattle.segment.specs.Bucket.{Buckets, floor_of, width}
use Rattle.segment.proofs.Laws.{bucket-pos}
use Rattle.sums.specs.Iterate.{iter}
use Rattle.sums.proofs.IterateLaws.{iter-keeps}
use Rattle.sums.specs.Put.{put}
use Rattle.sums.proofs.PutLaws.{put_same, put_other}
use Rattle.sums.proofs.TallyLaws.{tally-at}
use Rattle.dcel.specs.Rows.{row_of}
use Rattle.ring.specs.Ring.{proper, at_ends}
use Rattle.ring.proofs.SoundLaws.{sound-at}
use Rattle.ring.specs.Insert.{On}
use Rattle.ring.proofs.HullLaws.{on-from}
use Rattle.ring_rows.specs.declared.Node.{Node}
use Rattle.ring_rows.specs.declared.Hull.{Hull}
use Rattle.ring_rows.specs.declared.Found.{Found}
use Rattle.ring_rows.specs.RingRows.{RingRows, ring_rows, ring_zeros}
use Rattle.ring_rows.specs.Rows.{zero_node, ValidNodes, NodeRing, RingHeld, Got, nodes_of, angle_of, right_node_of, size_of}
use Rattle.ring_rows.specs.Find.{node_holds, NodeAt}

-- a walk to the right stays among the nodes in use
pub walk-below : {t : ℕ → Node} {len s : ℕ} → ValidNodes t len → s < len → (k : ℕ) → iter k (right_node_of t) s < len
walk-below {t} {len} v l k = iter-keeps (λ x. x < len) (λ x m. (v x m).right) k l

-- the ring from any of its nodes
pub ring-from : {t : ℕ → Node} {len size start : ℕ} → NodeRing t len size start → (x : ℕ) → On (right_node_of t) size start x → NodeRing t len size x
ring-from {t} {len} {size} {start} R x (k, l, z) = subst (NodeRing t len size) z (record {
  sound = sound-at R.sound k;
  all-proper = tally-at (at_ends proper (right_node_of t) (angle_of t)) (right_node_of t) size start R.sound.closed k ∙ R.all-proper;
  valid = R.valid;
  first = walk-below R.valid R.first k;
  size_small = R.size_small;
  len-small = R.len-small;
})

-- from a bucket's
pub bucket-ring : {nodes : List Node} {buckets : List ℕ} {h : Hull} → RingHeld nodes buckets h → (i : ℕ) → i < h.buckets → NodeRing (nodes_of nodes) h.nodes (size_of h) (row_of buckets i)
bucket-ring {nodes} {buckets} {h} R i l = ring-from R.ring (row_of buckets i) (R.filled i l).0

-- the bucket of an angle is one of its buckets
pub floor-below : (k : ℕ) {n : ℕ} → Buckets n → floor_of k n < n
floor-below k {n} B = mod-lt (k / width n) (bucket-pos n B)

-- the node that `get` finds, from a bucket's node on
pub got-at : {nodes : List Node} {buckets : List ℕ} {h : Hull} {i x : ℕ} {r : Found} → RingHeld nodes buckets h → i < h.buckets
    → Got (nodes_of nodes) (size_of h) (row_of buckets i) x r → NodeAt nodes buckets h x r.node
got-at {nodes} {buckets} {h} {i} {x} {r} R l G =
    let b = (R.filled i l).0 in
    record {
      on = on-from {right = right_node_of (nodes_of nodes)} {m = size_of h} {s = row_of buckets 0} r.node R.ring.sound.closed b.0
          (r.passed, G.first.below, ap (iter r.passed (right_node_of (nodes_of nodes))) b.2 ∙ sym G.node);
      at = subst (λ (y : ℕ). T (node_holds (nodes_of nodes) x y)) (sym G.node) G.first.passes;
    }

-- a field of a row with one node changed
pub put_map : {A B : Type 0} (g : A → B) (f : ℕ → A) (a : ℕ) (v : A) → (λ x. g (put f a v x)) ≡ put (λ x. g (f x)) a (g v)
put_map g f a v = fun_ext (λ x. at x (ℕ_discrete x a))
  where
    at : (x : ℕ) → Dec (x ≡ a) → g (put f a v x) ≡ put (λ y. g (f y)) a (g v) x
    at x (yes e) = rw e (ap g (put_same f a v) ∙ sym (put_same (λ y. g (f y)) a (g v)))
    at x (no n) = ap g (put_other f a v x n) ∙ sym (put_other (λ y. g (f y)) a (g v) x n)

-- ---- the ring's rows cleared, one after the other
pub ring-cleared : (n : List Node) (f b : List ℕ) {n' : List Node} {f' b' : List ℕ}
    → n' ≡ replicate (length n) zero_node → f' ≡ replicate (length f) 0 → b' ≡ replicate (length b) 0
    → ring_rows n' f' b' ≡ ring_zeros (ring_rows n f b)
unfolding ring_zeros
ring-cleared n f b i j k = rw (i, j, k) refl

-- zeros know the rows' lengths alone
pub zeros-same : (r r' : RingRows) → length r'.nodes ≡ length r.nodes → length r'.freed ≡ length r.freed
    → length r'.buckets ≡ length r.buckets → ring_zeros r' ≡ ring_zeros r
unfolding ring_zeros
zeros-same r r' i j k = rw (i, j, k) refl
