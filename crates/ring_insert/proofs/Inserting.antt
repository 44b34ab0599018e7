-- What the parts of an insert ask, from what the insert asks and what the parts before have left. Assumes nothing.
use Prim.Native.Nat.{ℕ, suc, ◌+◌, ◌-◌, ◌<◌, ◌≤◌, ◌^◌}
use native.Mathlib.Decide.{ℕ_discrete, dec_lt}
use native.Mathlib.Omega.{arith}
use mathlib.Core.Path.{◌≡◌, refl, sym, ◌∙◌, ap, subst}
use mathlib.Core.Logic.{◌≢◌, ◌⊎◌, inl, inr}
use mathlib.Core.Bool.{Bool, true, false}
use mathlib.Core.List.{List}
use lib.Dec.{T, eqb}
use lib.Ieee.{Float}
use lib.ListN.{length, set}
use Rattle.sums.specs.Iterate.{iter}
use Rattle.angle.specs.Angle.{turns}
use Rattle.segment.specs.Arc.{holds}
use Rattle.dcel.specs.Rows.{row_of}
use Rattle.ring.specs.Ring.{proper, at_ends}
use Rattle.ring.proofs.SegmentsLaws.{holds-first, proper→}
use Rattle.ring.proofs.SoundLaws.{tile-sole}
use Rattle.ring.specs.Insert.{Insertion}
use Rattle.ring.proofs.InsertLaws.{all-proper}
use Rattle.ring.specs.Free.{Taken}
use Rattle.ring.proofs.FreeLaws.{taken-sum}
use Rattle.ring.specs.WholeInsert.{Names}
use Rattle.ring_rows.specs.declared.Node.{Node}
use Rattle.ring_rows.specs.declared.Hull.{Hull}
use Rattle.ring_rows.specs.Rows.{nodes_of, angle_of, right_node_of, size_of, ValidNode, ValidNodes}
use Rattle.ring_rows.proofs.RowsLaws.{table_of}
use Rattle.ring_rows.specs.Find.{node_holds, NodeAt}
use Rattle.ring_rows.proofs.Laws.{ring-from, walk-below}
use Rattle.ring_insert.specs.declared.Choice.{Choice}
use Rattle.ring_insert.specs.Insert.{ToRelease, ReleasedTo, ToChoose, Chosen, ToPlace, ToInsert, insertion_of, place_nodes}
use Rattle.ring_insert.specs.Retire.{ToRetire, Retired}
use Rattle.ring_insert.proofs.PlaceLaws.{valid-up, placed-valid}
use Rattle.ring_insert.proofs.Freeing.{goes-names, stays-names, taken-le}

-- ---- `choose`
module _ {nodes : List Node} {old mid : List ℕ} {first right top₁ n : ℕ} {a : Float} (G : ToRelease nodes old n first a) (R : ReleasedTo (nodes_of nodes) old mid n first (turns a) right top₁) where
  pub passed-most : R.passed ≤ G.steps
  passed-most = go (dec_lt G.steps R.passed)
    where
      go : Dec (G.steps < R.passed) → R.passed ≤ G.steps
      go (yes l) = absurd (R.least G.steps G.some l G.there)
      go (no l) = omega arith

  pub top-less : top₁ < n + G.size
  top-less = let a = R.stack in let b = R.some in let c = passed-most in let d = G.less in omega arith

module _ {t : ℕ → Node} {old mid : List ℕ} {h : Hull} {left x right top₁ v top₂ len₁ : ℕ}
    (R : ReleasedTo t old mid h.freed left x right top₁) (X : Taken (row_of mid) top₁ h.nodes v top₂ len₁) {g : Bool} where
  pub chosen-goes : {node : Node} → g ≡ true → top₂ < length mid → node ≡ t left
      → Chosen t old (set mid top₂ left) h left g x
      (record { right = right; node = v; before = node.left; start = v; freed = top₂ + 1; nodes = len₁ })
  chosen-goes {node} y l e =
      let z : Insertion = record { left = left; right = right; new = v; before = node.left; start = v } in
      record {
        mid = mid;
        top₁ = top₁;
        top₂ = top₂;
        released = R;
        taken = X;
        names = goes-names (table_of t) z mid y l (ap (λ (n : Node). n.left) e) refl;
      }

  pub chosen-stays : g ≡ false
      → Chosen t old mid h left g x (record { right = right; node = v; before = left; start = left; freed = top₂; nodes = len₁ })
  chosen-stays y =
      let z : Insertion = record { left = left; right = right; new = v; before = left; start = left } in
      record {
        mid = mid;
        top₁ = top₁;
        top₂ = top₂;
        released = R;
        taken = X;
        names = stays-names (table_of t) z (row_of mid) y refl refl;
      }

pub chosen-as : {t : ℕ → Node} {old new : List ℕ} {h : Hull} {left x : ℕ} {g g' : Bool} {c : Choice} → g ≡ g' → Chosen t old new h left g x c → Chosen t old new h left g' x c
chosen-as {t} {old} {new} {h} {left} {x} {g} {g'} {c} e D = subst (λ (b : Bool). Chosen t old new h left b x c) e D

-- ---- `retire`, after `place`
pub placed-retired : {t t₁ t₂ : ℕ → Node} {freed : ℕ → ℕ} {from first to : ℕ} → t₁ ≡ t → first ≡ from
    → Retired t₁ t₂ freed first to → Retired t t₂ freed from to
placed-retired e z R = rw (← e, ← z) R

-- ---- `insert`
module _ {nodes : List Node} {freed buckets : List ℕ} {h : Hull} {al q ar : Float} (I : ToInsert nodes freed buckets h al q ar) where
  -- the node of the left angle holds it
  own : T (at_ends (holds (turns al)) (right_node_of (nodes_of nodes)) (angle_of (nodes_of nodes)) (iter I.left (right_node_of (nodes_of nodes)) (row_of buckets 0)))
  own =
      let t = nodes_of nodes in
      let s = iter I.left (right_node_of t) (row_of buckets 0) in
      subst (λ (x : ℕ). T (holds x (angle_of t s) (angle_of t (right_node_of t s)))) I.left-angle
      (holds-first (angle_of t s) (angle_of t (right_node_of t s)) (proper→ (angle_of t s) (angle_of t (right_node_of t s)) (all-proper (at_ends proper (right_node_of t) (angle_of t)) (right_node_of t) (size_of h) (row_of buckets 0) I.to-find.rows.ring.all-proper I.left I.left_in)))

  module _ {r : ℕ} (G : NodeAt nodes buckets h (turns al) r) where
    -- it is the one that is found
    found-is : r ≡ iter I.left (right_node_of (nodes_of nodes)) (row_of buckets 0)
    found-is =
        let o = G.on in
        let t = nodes_of nodes in
        let w = subst (λ (y : ℕ). T (node_holds t (turns al) y)) (sym o.2) G.at in
        sym o.2 ∙ ap (λ (k : ℕ). iter k (right_node_of t) (row_of buckets 0)) (tile-sole I.to-find.rows.ring.sound (turns al) o.0 I.left o.1 I.left_in w own)

    pub found-angle : angle_of (nodes_of nodes) (r) ≡ turns al
    found-angle = ap (angle_of (nodes_of nodes)) found-is ∙ I.left-angle

    pub to-choose : ToChoose nodes freed h (r) ar
    to-choose = record {
      release = record {
        len = h.nodes;
        size = size_of h;
        steps = I.steps;
        ring = ring-from I.to-find.rows.ring (r) G.on;
        some = I.some;
        less = I.less;
        there = ap (λ (y : ℕ). angle_of (nodes_of nodes) (iter I.steps (right_node_of (nodes_of nodes)) y)) found-is ∙ I.right-angle;
        is-angle = I.ar-angle;
        node-room = I.to-find.rows.node-room;
        freed-room = let a = I.freed-most in let b = I.len-most in let c = I.freed-room in omega arith;
        small = let a = I.freed-most in let b = I.len-most in let c = I.small in omega arith;
      };
      small = let b = I.len-most in let c = I.small in omega arith;
    }

    -- the nodes that are chosen
    module _ {new : List ℕ} {g : Bool} (e : g ≡ eqb (turns al) (turns q)) {c : Choice} (D : Chosen (nodes_of nodes) freed new h (r) g (turns ar) c) where
      valid : (j : ℕ) → j < h.nodes → ValidNode (nodes_of nodes j) h.nodes
      valid = I.to-find.rows.ring.valid

      left_in : r < h.nodes
      unfolding to-choose
      left_in = to-choose.release.ring.first

      right-in : c.right < h.nodes
      right-in = subst (λ (y : ℕ). y < h.nodes) (sym D.released.there) (walk-below valid left_in D.released.passed)

      -- what is on the stack is in use
      stacked : (j : ℕ) → j < D.top₁ → row_of D.mid j < h.nodes
      stacked j u = go (dec_lt j h.freed)
        where
          go : Dec (j < h.freed) → row_of D.mid j < h.nodes
          go (yes w) = subst (λ (y : ℕ). y < h.nodes) (sym (D.released.pushed.old j w)) (I.free.below j w)
          go (no w) =
              let d = j - h.freed in
              let z : h.freed + d ≡ j = omega arith in
              subst (λ (y : ℕ). y < h.nodes) (sym (D.released.pushed.new d (let a = D.released.stack in let b = D.released.some in omega arith)) ∙ ap (row_of D.mid) z) (walk-below valid left_in (suc d))

      -- the new number of nodes in use
      grown : (h.nodes ≤ c.nodes) × (c.node < c.nodes) × (c.nodes ≤ suc I.most) × ((j : ℕ) → j < c.nodes → j ≢ c.node → j < h.nodes)
      grown = go D.taken
        where
          go : {v n len₁ : ℕ} → Taken (row_of D.mid) D.top₁ h.nodes v n len₁ → (h.nodes ≤ len₁) × (v < len₁) × (len₁ ≤ suc I.most) × ((j : ℕ) → j < len₁ → j ≢ v → j < h.nodes)
          go (Taken.top {i = k} z) = (omega arith, stacked k (omega arith), I.len-most, λ j u d. u)
          go (Taken.next_one z) = (
            omega arith,
            omega arith,
            (let a = D.released.stack in let b = D.released.some in let s = I.size-most in let f = I.freed-most in omega arith),
            λ j u d. omega arith,
          )

      before-in : c.before < h.nodes
      before-in = go (ℕ_discrete (turns al) (turns q))
        where
          go : Dec (turns al ≡ turns q) → c.before < h.nodes
          go (yes z) = subst (λ (y : ℕ). y < h.nodes) (sym ((D.names (turns al) (turns q) e).named.before-goes z)) (valid (r) left_in).left
          go (no z) = subst (λ (y : ℕ). y < h.nodes) (sym ((D.names (turns al) (turns q) e).named.before-stays z)) left_in

      start-in : c.start < c.nodes
      start-in = go (ℕ_discrete (turns al) (turns q))
        where
          go : Dec (turns al ≡ turns q) → c.start < c.nodes
          go (yes z) = subst (λ (y : ℕ). y < c.nodes) (sym ((D.names (turns al) (turns q) e).named.start-goes z)) grown.1
          go (no z) = subst (λ (y : ℕ). y < c.nodes) (sym ((D.names (turns al) (turns q) e).named.start-stays z)) (let a = left_in in let b = grown.0 in omega arith)

      pub new-room : c.nodes ≤ length nodes
      new-room = let a = grown.2 in let b = I.node-room in omega arith

      pub to-place : ToPlace nodes c
      to-place =
          let r = new-room in
          record {
            node_in = let a = grown.1 in omega arith;
            before-in = let a = before-in in let b = grown.0 in omega arith;
            right-in = let a = right-in in let b = grown.0 in omega arith;
            start-in = let a = start-in in omega arith;
          }

      -- what is on the stack afterwards is in use too
      stacked-after : (j : ℕ) → j < c.freed → row_of new j < h.nodes
      stacked-after j u = go (ℕ_discrete (turns al) (turns q)) (dec_lt j D.top₂)
        where
          N : Names (table_of (nodes_of nodes)) (insertion_of r c) (row_of D.mid) (row_of new) (turns al) (turns q) D.top₂ c.freed
          N = D.names (turns al) (turns q) e

          below : j < D.top₂ → row_of new j < h.nodes
          below w = subst (λ (y : ℕ). y < h.nodes) (sym (N.stack j w)) (stacked j (let a = taken-le D.taken in omega arith))

          go : Dec (turns al ≡ turns q) → Dec (j < D.top₂) → row_of new j < h.nodes
          go d (yes w) = below w
          go (yes z) (no w) =
              let m = N.more z in
              let k : j ≡ D.top₂ = let a = m.0 in omega arith in
              subst (λ (y : ℕ). y < h.nodes) (sym (ap (row_of new) k ∙ m.1)) left_in
          go (no z) (no w) = absurd (let a = N.same z in omega arith)

      -- the stack has room, and holds at least what was on it but for its top
      top_in : (D.top₂ < h.nodes) × (h.freed - 1 ≤ D.top₂)
      unfolding to-choose
      top_in =
          let a = top-less to-choose.release D.released in let b = D.released.stack in let d = I.freed-most in
          ((let e = taken-le D.taken in omega arith), go (taken-sum D.taken))
        where
          go : ((D.top₁ ≡ suc D.top₂) × (c.nodes ≡ h.nodes)) ⊎ ((D.top₁ ≡ 0) × (D.top₂ ≡ 0) × (c.nodes ≡ suc h.nodes))
              → h.freed - 1 ≤ D.top₂
          go (inl y) = let b = D.released.stack in omega arith
          go (inr y) = let b = D.released.stack in omega arith

      freed-in : (c.freed ≤ h.nodes) × (h.freed - 1 ≤ c.freed)
      freed-in = let t = top_in in go (ℕ_discrete (turns al) (turns q)) t.0 t.1
        where
          go : Dec (turns al ≡ turns q) → D.top₂ < h.nodes → h.freed - 1 ≤ D.top₂ → (c.freed ≤ h.nodes) × (h.freed - 1 ≤ c.freed)
          go (yes z) u w = let a = ((D.names (turns al) (turns q) e).more z).0 in (omega arith, omega arith)
          go (no z) u w = let a = (D.names (turns al) (turns q) e).same z in (omega arith, omega arith)

      pub to-retire : {nodes' : List Node} {from : ℕ} → from ≡ h.freed - 1 → length nodes' ≡ length nodes → length new ≡ length freed
          → ToRetire nodes' new from c.freed
      to-retire z u w =
          let f = freed-in in
          record {
            order = let a = f.1 in omega arith;
            room = let a = f.0 in let b = I.len-most in let d = I.freed-room in omega arith;
            there = λ k l m. (let a = stacked-after k m in let b = I.to-find.rows.node-room in omega arith);
          }

      pub new-valid : {t' : ℕ → Node} {l p : ℕ} → l < 2 ^ 32 → p < 2 ^ 32 → t' ≡ place_nodes (nodes_of nodes) c l p q → ValidNodes t' c.nodes
      new-valid u w z =
          placed-valid c (λ j u d. valid-up grown.0 (valid j (grown.3 j u d))) I.q-angle w u
          (let a = before-in in let b = grown.0 in omega arith) (let a = right-in in let b = grown.0 in omega arith) start-in grown.1 z
