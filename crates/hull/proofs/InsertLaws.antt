-- Laws of specs/Insert.antt.
use Rattle.std.specs.Prelude.{ℕ, suc, ◌+◌, ◌-◌, ◌%◌, ◌<◌, ◌≤◌, ◌^◌, ◌≡◌, refl, ◌≢◌, List, eqb, Float, length}
use Rattle.std.proofs.Math.Decide.{dec_lt}
use Rattle.std.proofs.Common.{arith, sym, ◌∙◌, ap, ap₂, subst}
use Rattle.mesh.specs.declared.Counts.{Counts}
use Rattle.mesh.specs.Mesh.{Links}
use Rattle.mesh.specs.Wf.{Wf}
use Rattle.mesh.specs.Area.{boundary_length}
use Rattle.sums.specs.Iterate.{iter}
use Rattle.angle.specs.Angle.{IsAngle, turns}
use Rattle.segment.specs.Bucket.{Buckets, width}
use Rattle.segment.proofs.Laws.{bucket-pos}
use Rattle.dcel.specs.Rows.{row_of}
use Rattle.ring.specs.Ring.{full_turn, edge_angle}
use Rattle.ring.specs.Splice.{FitSplice}
use Rattle.ring.specs.Buckets.{ceiling}
use Rattle.ring.specs.Node.{NodeTable, nodes as node_count}
use Rattle.ring.specs.Insert.{Ring, On, Insertion}
use Rattle.ring.proofs.InsertLaws.{ring-sole, left-angle, right-angle, left-some, rest_some, size-old}
use Rattle.ring.proofs.InsertLaws.{right-first}
use Rattle.ring.specs.Inserted.{Rebucketed}
use Rattle.ring.proofs.StoresLaws.{stored}
use Rattle.ring.specs.Free.{Free, free-same}
use Rattle.ring.specs.WholeInsert.{Stack, InsertParts}
use Rattle.ring.proofs.WholeInsertLaws.{rebucketed, insert-keeps-edge, insert-keeps-total, insert-keeps-len}
use Rattle.ring.specs.Hull.{HullFrom}
use Rattle.ring.proofs.HullLaws.{on-to, on-from}
use Rattle.ring.specs.RingOf.{RingOf}
use Rattle.ring.proofs.RingOfLaws.{ring-from, ring-size, ring-insert, ring-insert-freed, ring-edges, free-to, free-from, ring_of}
use Rattle.ring.specs.Resize.{adjusted_buckets}
use Rattle.ring.proofs.ResizeLaws.{adjusted-buckets, adjusted-most, buckets-sized}
use Rattle.ring_rows.specs.declared.Node.{Node}
use Rattle.ring_rows.specs.declared.Hull.{Hull}
use Rattle.ring_rows.specs.Rows.{nodes_of, edge_of, right_node_of, size_of, ValidNodes}
use Rattle.ring_rows.proofs.RowsLaws.{table_of}
use Rattle.ring_rows.specs.Find.{no_edge}
use Rattle.ring_insert.specs.Insert.{insertion_of, place_nodes, ToInsert, InsertedRows, Adjusted, ReleasedTo}
use Rattle.ring_insert.proofs.PlaceLaws.{placed-stored}
use Rattle.ring_insert.proofs.RetireLaws.{retired-table, retired-stays}
use Rattle.hull.specs.Held.{Held}
use Rattle.hull.proofs.Find.{held-ring, held-find}
use Rattle.hull.specs.Insert.{Change}

-- the same to the ring's theory
change-splice : {C : Counts} {L : Links} {α : ℕ → ℕ} {C' : Counts} {L' : Links} {α'' : ℕ → ℕ} {e m n l p q r : ℕ}
    → Change C L α C' L' α'' e m n l p q r
    → FitSplice full_turn L.next (edge_angle L α) L'.next (edge_angle L' α'') e m n l p q r
change-splice K = record {
  spliced = K.covered.spliced;
  place = K.place;
  place_in = K.place_in;
  place-holds = K.place-holds;
  fit = K.fit;
}

-- ---- the right node is the first after the left one with the right angle
passed_is : {N : ℕ} {next α next' α' : ℕ → ℕ} {τ : NodeTable} {e m n s l p q r : ℕ}
    (R : Ring N next α τ e (m + n) s) (P : FitSplice N next α next' α' e m n l p q r)
    (c : ℕ) → 0 < c → ((j : ℕ) → 0 < j → j < c → τ.angle (iter j τ.right s) ≢ α r) → τ.angle (iter c τ.right s) ≡ α r
    → c ≡ node_count next α m e
passed_is {next = next} {α = α} {e = e} {m = m} R P c some least there = go (dec_lt c k) (dec_lt k c)
  where
    k : ℕ
    k = node_count next α m e

    go : Dec (c < k) → Dec (k < c) → c ≡ k
    go (yes u) d = absurd (right-first R P refl c u there)
    go (no u) (yes d) = absurd (least k (left-some R P refl) d (right-angle R P refl))
    go (no u) (no d) = omega arith

-- ---- in the rows
module _ {C : Counts} {L : Links} (W : Wf C L) {α : ℕ → ℕ} {nodes : List Node} {freed buckets : List ℕ} {h : Hull}
    (H : Held C L α nodes freed buckets h)
    {C' : Counts} {L' : Links} {α'' : ℕ → ℕ} {e m n l p q r : ℕ} (K : Change C L α C' L' α'' e m n l p q r) where
  -- the nodes; how many stand for the covered edges, and for all
  abbrev τ : NodeTable
  τ = table_of (nodes_of nodes)

  abbrev chain : ℕ
  chain = node_count L.next (edge_angle L α) m e

  abbrev all : ℕ
  all = node_count L.next (edge_angle L α) (m + n) e

  -- the whole from the edge e and a node on
  abbrev From : ℕ → Type 0
  From s = HullFrom full_turn L.next (edge_angle L α) τ (row_of buckets) e (m + n) s h.buckets (width h.buckets)

  P : FitSplice full_turn L.next (edge_angle L α) L'.next (edge_angle L' α'') e m n l p q r
  P = change-splice K

  -- the left node: that of the edge e
  from-e : (s : ℕ) × From s × (node_count L.next (edge_angle L α) (m + n) e ≡ size_of h)
  from-e = rw K.whole (ring-from W H.ring K.in_use K.outer)

  abbrev left : ℕ
  left = from-e.0

  R : Ring full_turn L.next (edge_angle L α) τ e (m + n) left
  R = from-e.1.ring

  size_is : node_count L.next (edge_angle L α) (m + n) e ≡ size_of h
  size_is = from-e.2

  -- bucket 0's node from the left node on, and the left node from bucket 0's
  around : iter (size_of h) τ.right left ≡ left
  around = rw (← size_is) R.back

  home : On τ.right (size_of h) left (row_of buckets 0)
  home = rw (← size_is) (from-e.1.buckets 0 (let b = from-e.1.sized.eight in omega arith)).0

  left-on : On τ.right (size_of h) (row_of buckets 0) left
  left-on =
      let o = home in
      subst (λ (y : ℕ). On τ.right (size_of h) y left) o.2
      (on-to {right = τ.right} {m = size_of h} {s = left} left around o.0 (0, (let u = o.1 in omega arith), refl))

  -- WHAT IT ASKS, in rows for N vertices
  pub to-insert : (N : ℕ) {al qf ar : Float} → C.vertices ≤ N → h.nodes ≤ suc N → suc N ≤ length nodes → suc N ≤ length freed
      → suc N + 1 < 2 ^ 32 → IsAngle al → IsAngle qf → IsAngle ar
      → turns al ≡ edge_angle L α e → turns ar ≡ edge_angle L α r → ToInsert nodes freed buckets h al qf ar
  to-insert N v-most len u w small ia iq ir ea er =
      let o = left-on in
      record {
        to-find = held-find H;
        free = H.free;
        freed-most = H.freed-most;
        most = N;
        size-most = let a = ring-size W H.ring in omega arith;
        len-most = len;
        node-room = u;
        freed-room = w;
        small = small;
        left = o.0;
        left_in = o.1;
        left-angle = ap τ.angle o.2 ∙ left-angle R P refl ∙ sym ea;
        steps = chain;
        some = left-some R P refl;
        less = let a = size-old R P refl in let b = rest_some R P refl in let c = size_is in omega arith;
        right-angle = ap (λ (y : ℕ). τ.angle (iter chain τ.right y)) o.2 ∙ right-angle R P refl ∙ sym er;
        al-angle = ia;
        q-angle = iq;
        ar-angle = ir;
      }

  -- WHAT IT LEAVES
  module _ {nodes' : List Node} {freed' buckets' : List ℕ} {al qf ar : Float} {h' : Hull}
      (ea : turns al ≡ edge_angle L α e) (eq : turns qf ≡ q) (er : turns ar ≡ edge_angle L α r)
      (I : InsertedRows nodes freed buckets nodes' freed' buckets' h al qf ar l p h') where
    abbrev x : Insertion
    x = insertion_of I.left I.choice

    abbrev stack : Stack
    stack = record { entry = row_of freed; count = h.freed; used = h.nodes }

    abbrev stack' : Stack
    stack' = record { entry = row_of I.stack; count = I.choice.freed; used = I.choice.nodes }

    -- ---- the node that was found for the left angle is the left one
    left_is : left ≡ I.left
    left_is =
        let o = on-from {right = τ.right} {m = size_of h} {s = left} I.left around home.0
        (subst (λ (y : ℕ). On τ.right (size_of h) y I.left) (sym home.2) I.left-on) in
        let z = ring-sole R o.0 0 (let a = o.1 in let b = size_is in omega arith) (let a = R.sound.three in omega arith)
        (ap τ.angle o.2 ∙ I.left-angle ∙ ea ∙ sym (left-angle R P refl)) in
        ap (λ (i : ℕ). iter i τ.right left) (sym z) ∙ o.2

    whole : From I.left
    whole = subst From left_is from-e.1

    -- ---- the parts of the insert
    released : ReleasedTo (nodes_of nodes) freed I.chosen.mid h.freed I.left (turns ar) I.choice.right I.chosen.top₁
    released = I.chosen.released

    count-is : released.passed ≡ node_count L.next (edge_angle L α) m e
    count-is =
        passed_is whole.ring P released.passed released.some (λ j a b w. released.least j a b (w ∙ sym er))
        (ap τ.angle (sym released.there) ∙ released.angle ∙ er)

    parts : InsertParts τ x stack stack' chain all (edge_angle L α e) q
    parts = record {
      right_is = rw (← count-is) (sym released.there);
      free = rw (size_is, ← left_is) (free-to around home H.free);
      between = row_of I.chosen.mid;
      pushed-between = rw (← count-is) released.pushed;
      left_over = I.chosen.top₂;
      taken-new = rw (← count-is, ← released.stack) I.chosen.taken;
      names = I.chosen.names (edge_angle L α e) q (ap₂ eqb ea eq);
    }

    -- the nodes before the freed ones lose their edges
    abbrev placed : ℕ → Node
    placed = place_nodes (nodes_of nodes) I.choice l p qf

    table_is : table_of (place_nodes (nodes_of nodes) I.choice l p qf) ≡ stored τ x l p q
    table_is = rw (← eq) (placed-stored (nodes_of nodes) I.choice l p qf I.left refl)

    -- the code's buckets are those of the theory
    ranges :
        Rebucketed (row_of buckets) (row_of buckets') h.buckets
        (ceiling (width h.buckets) (edge_angle L α e) % h.buckets) (ceiling (width h.buckets) q % h.buckets)
        (ceiling (width h.buckets) (edge_angle L α r) % h.buckets) x.start x.new
    unfolding ceiling
    ranges = rw (← ea, ← eq, ← er) (rebucketed {bucket₁ = row_of I.rebuckets.mid} I.rebuckets.left.each I.rebuckets.right.each)

    -- ---- how many nodes there are
    all-used : node_count L.next (edge_angle L α) (m + n) e + h.freed ≡ h.nodes
    all-used = let a = size_is in let b = H.freed-most in omega arith

    abbrev after : ℕ
    after = node_count L'.next (edge_angle L' α'') (boundary_length C' L') l

    total : after + I.choice.freed ≡ I.choice.nodes
    total = rw K.covered.length (insert-keeps-total whole P K.low parts all-used)

    size-now : after ≡ size_of h'
    size-now = let a = total in let b = I.used in let c = I.freed-now in omega arith

    -- no more nodes than N + 1
    pub insert-len : {N : ℕ} → C.vertices ≤ N → h.nodes ≤ suc N → h'.nodes ≤ suc N
    insert-len {N} v u =
        rw I.used (insert-keeps-len whole P K.low parts all-used
        (let a = size_is in let b = ring-size W H.ring in omega arith) u)

    -- ---- the ring and the stack before that
    placed-ring : Wf C' L' → RingOf C' L' α'' (table_of placed) (row_of buckets') h'.buckets (size_of h')
    placed-ring W' = rw (table_is, I.same-buckets, ← size-now) (ring-insert W' K.covered whole P K.low parts ranges)

    placed-free : Wf C' L' → Free (On (right_node_of placed) (size_of h') (row_of buckets' 0)) (row_of I.stack) h'.freed h'.nodes
    placed-free W' =
        rw (← size-now, ap (λ (y : NodeTable). y.right) table_is, I.freed-now, I.used)
        (ring-insert-freed W' K.covered whole P K.low parts ranges)

    -- ---- after it: a node of the ring keeps its edge, since none is on the stack, and each node there has lost its own
    ring-keeps : Wf C' L' → (i : ℕ) → On (right_node_of placed) (size_of h') (row_of buckets' 0) i → edge_of (nodes_of nodes') i ≡ edge_of placed i
    ring-keeps W' i o =
        ap (λ (v : Node). v.edge) (I.placed.others i (λ k u w z.
        (placed-free W').dead k (let a = I.freed-now in omega arith) (subst (On (right_node_of placed) (size_of h') (row_of buckets' 0)) (sym z) o)))

    all-retired : (j : ℕ) → j < I.choice.freed → edge_of (nodes_of nodes') (row_of I.stack j) ≡ no_edge
    all-retired j u = go (dec_lt j (h.freed - 1))
      where
        go : Dec (j < h.freed - 1) → edge_of (nodes_of nodes') (row_of I.stack j) ≡ no_edge
        go (yes w) = retired-stays I.placed (row_of I.stack j)
            (ap (λ (y : NodeTable). y.edge (row_of I.stack j)) table_is ∙ insert-keeps-edge whole P K.low parts j w u
            ∙ H.retired j (omega arith))
        go (no w) = I.placed.gone j (omega arith) u

    -- ---- THE ROWS HOLD THE RING OF THE BOUNDARY AFTER
    pub insert-held : Wf C' L' → length nodes' ≡ length nodes → length freed' ≡ length freed → length buckets' ≡ length buckets
        → h'.nodes ≤ length freed → h'.nodes < 2 ^ 32 → Held C' L' α'' nodes' freed' buckets' h'
    insert-held W' nl fl bl room small =
        let T = retired-table I.placed in
        record {
          ring = rw T (ring-edges (edge_of (nodes_of nodes')) (ring-keeps W') (placed-ring W'));
          free =
              rw (ap (λ (y : NodeTable). y.right) T)
              (free-same (λ j u. I.same-stack j (let a = I.freed-now in omega arith)) (placed-free W'));
          retired = λ j u. let w : j < I.choice.freed = let e = I.freed-now in omega arith in
              ap (edge_of (nodes_of nodes')) (I.same-stack j w) ∙ all-retired j w;
          freed-most = let a = total in let b = I.used in let c = I.freed-now in omega arith;
          valid = I.valid;
          counted = subst Buckets (sym I.same-buckets) H.counted;
          node-room = let a = I.room in omega arith;
          freed-room = omega arith;
          bucket-room = let a = I.same-buckets in let b = H.bucket-room in omega arith;
          small = small;
        }

-- ---- ANOTHER NUMBER OF BUCKETS
pub adjusted-held : {C : Counts} {L : Links} (W : Wf C L) {α : ℕ → ℕ} {nodes : List Node} {freed buckets buckets' : List ℕ} {h r : Hull}
    → Held C L α nodes freed buckets h → size_of h ≤ 2 ^ 20 → Adjusted nodes buckets buckets' h r
    → adjusted_buckets h.buckets (size_of h) ≤ length buckets' → Held C L α nodes freed buckets' r
adjusted-held {C} {L} W {α} {nodes} {freed} {buckets} {buckets'} {h} {r} H most A room =
    let X = H.ring.hull in
    let b : Buckets r.buckets = subst Buckets (sym A.count) (adjusted-buckets (size_of h) most H.counted) in
    let z : size_of r ≡ size_of h = ap₂ (λ (x y : ℕ). x - y) A.used A.freed in
    let o = (A.filled 0 (bucket-pos r.buckets b)).0 in
    let G = ring_of W {α = α} {τ = table_of (nodes_of nodes)} {bucket = row_of buckets'} {B = r.buckets} H.ring.in_use H.ring.outer
    (record {
      ring = X.ring;
      links = X.links;
      low = X.low;
      sized = buckets-sized b;
      buckets = rw H.ring.count A.filled;
    }) in
    record {
      ring = rw (z, ← H.ring.count) G;
      free = rw (z, A.used, A.freed) (free-from (held-ring H).sound.closed o H.free);
      retired = λ j u. H.retired j (let c = A.freed in omega arith);
      freed-most = let a = A.used in let c = A.freed in let d = H.freed-most in omega arith;
      valid = subst (ValidNodes (nodes_of nodes)) (sym A.used) H.valid;
      counted = b;
      node-room = let a = A.used in let c = H.node-room in omega arith;
      freed-room = let a = A.used in let c = H.freed-room in omega arith;
      bucket-room = let a = A.count in omega arith;
      small = let a = A.used in let c = H.small in omega arith;
    }

-- 01: "max(16, N) buckets": they do for N vertices, since a ring has no more nodes than the mesh has vertices
pub buckets-fit : {C : Counts} {L : Links} (W : Wf C L) {α : ℕ → ℕ} {nodes : List Node} {freed buckets : List ℕ} {h : Hull}
    → Held C L α nodes freed buckets h → {most : ℕ} → C.vertices ≤ most → h.buckets ≤ most
    → adjusted_buckets h.buckets (size_of h) ≤ most
buckets-fit W {h = h} H {most} v u = adjusted-most h.buckets (size_of h) most (let a = ring-size W H.ring in omega arith) u
