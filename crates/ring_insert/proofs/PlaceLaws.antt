-- What the stores of an insert make of the row of nodes: its nodes stay valid, and field by field they are the stores of
-- the ring's theory, `stored`. Assumes nothing.
use Prim.Native.Nat.{ℕ, ◌<◌, ◌≤◌, ◌^◌}
use Rattle.std.proofs.Math.Decide.{ℕ_discrete}
use Rattle.std.proofs.Common.{arith, ◌∙◌}
use Rattle.std.specs.Prelude.{◌≡◌, ◌≢◌, Bool, cond, eqb, Float}
use Rattle.std.proofs.Math.Path.{refl, ap}
use Rattle.std.proofs.Math.Bool.{true, false}
use Rattle.angle.specs.Angle.{IsAngle, turns}
use Rattle.sums.specs.Put.{put}
use Rattle.sums.proofs.PutLaws.{put_same, put_other, put_id}
use Rattle.ring.proofs.StoresLaws.{stored}
use Rattle.ring_rows.specs.declared.Node.{Node}
use Rattle.ring_rows.specs.Rows.{angle_of, edge_of, left_of, right_node_of, with_edge, with_left, with_right, ValidNode, ValidNodes}
use Rattle.ring_rows.proofs.RowsLaws.{table_of}
use Rattle.ring_rows.proofs.Laws.{put_map}
use Rattle.ring_insert.specs.declared.Choice.{Choice}
use Rattle.ring_insert.specs.Insert.{insertion_of, new_node, link_right, link_left, left_edge, place_nodes}

-- ---- VALID NODES: a store of a valid node to a row whose other nodes are valid
pub valid-put : {t : ℕ → Node} {len : ℕ} {n : Node} (i : ℕ) → ((j : ℕ) → j < len → j ≢ i → ValidNode (t j) len) → ValidNode n len
    → ValidNodes (put t i n) len
valid-put {t} {len} {n} i others v j l = go (ℕ_discrete j i)
  where
    go : Dec (j ≡ i) → ValidNode (put t i n j) len
    go (yes z) = rw (z, put_same t i n) v
    go (no z) = rw (put_other t i n j z) (others j l z)

-- of a node with one field changed
valid-change : {t : ℕ → Node} {len : ℕ} (change : Node → Node) (i : ℕ) → i < len → ValidNodes t len
    → (ValidNode (t i) len → ValidNode (change (t i)) len) → ValidNodes (put t i (change (t i))) len
valid-change change i l v ok = valid-put i (λ j m d. v j m) (ok (v i l))

pub valid-up : {n : Node} {len len' : ℕ} → len ≤ len' → ValidNode n len → ValidNode n len'
valid-up l v = record {
  angle = v.angle;
  edge = v.edge;
  left = let a = v.left in omega arith;
  right = let a = v.right in omega arith;
}

module _ {t : ℕ → Node} (c : Choice) {len l p : ℕ} {q : Float}
    (others : (j : ℕ) → j < len → j ≢ c.node → ValidNode (t j) len) (q-angle : IsAngle q) (p-small : p < 2 ^ 32) (l-small : l < 2 ^ 32)
    (before : c.before < len) (right : c.right < len) (start : c.start < len) (node : c.node < len) where
  new-valid : ValidNodes (new_node t c p q) len
  unfolding new_node
  new-valid = valid-put c.node others (record { angle = q-angle; edge = p-small; left = before; right = right })

  linked-valid : ValidNodes (link_left (link_right (new_node t c p q) c) c) len
  unfolding link_right link_left
  linked-valid =
      valid-change (λ n. with_left n c.node) c.right right
      (valid-change (λ n. with_right n c.node) c.before before new-valid
      (λ v. record { angle = v.angle; edge = v.edge; left = v.left; right = node }))
      (λ v. record { angle = v.angle; edge = v.edge; left = node; right = v.right })

  pub placed-valid : {t' : ℕ → Node} → t' ≡ place_nodes t c l p q → ValidNodes t' len
  unfolding left_edge
  placed-valid e = rw e (go (eqb c.start c.node))
    where
      t₃ : ℕ → Node
      t₃ = link_left (link_right (new_node t c p q) c) c

      go : (b : Bool) → ValidNodes (cond b t₃ (put t₃ c.start (with_edge (t₃ c.start) l))) len
      go true = linked-valid
      go false =
          valid-change (λ n. with_edge n l) c.start start linked-valid
          (λ v. record { angle = v.angle; edge = l-small; left = v.left; right = v.right })

-- ---- FIELD BY FIELD
abbrev field : {A : Type 0} → (Node → A) → (ℕ → Node) → ℕ → A
field g t x = g (t x)

-- a store that leaves the field g as it was
keeps : {A : Type 0} (g : Node → A) (t : ℕ → Node) (i : ℕ) (n : Node) → g n ≡ g (t i) → field g (put t i n) ≡ field g t
keeps g t i n e = put_map g t i n ∙ ap (put (field g t) i) e ∙ put_id (field g t) i

module _ (t : ℕ → Node) (c : Choice) (l p : ℕ) (q : Float) where
  -- the row after the first three stores
  abbrev t₁ : ℕ → Node
  t₁ = new_node t c p q

  abbrev t₂ : ℕ → Node
  t₂ = link_right t₁ c

  abbrev t₃ : ℕ → Node
  t₃ = link_left t₂ c

  module _ {A : Type 0} (g : Node → A) where
    -- what the first store makes of a field, and which of the others leave it
    new : field g t₁ ≡ put (field g t) c.node (g (record { angle = q; edge = p; left = c.before; right = c.right }))
    unfolding new_node
    new = put_map g t c.node (record { angle = q; edge = p; left = c.before; right = c.right })

    right-keeps : ((n : Node) (v : ℕ) → g (with_right n v) ≡ g n) → field g t₂ ≡ field g t₁
    unfolding link_right
    right-keeps e = keeps g t₁ c.before (with_right (t₁ c.before) c.node) (e (t₁ c.before) c.node)

    left-keeps : ((n : Node) (v : ℕ) → g (with_left n v) ≡ g n) → field g t₃ ≡ field g t₂
    unfolding link_left
    left-keeps e = keeps g t₂ c.right (with_left (t₂ c.right) c.node) (e (t₂ c.right) c.node)

    edge-keeps : ((n : Node) (v : ℕ) → g (with_edge n v) ≡ g n) → field g (left_edge t₃ c l) ≡ field g t₃
    unfolding left_edge
    edge-keeps e = go (eqb c.start c.node)
      where
        go : (b : Bool) → field g (cond b t₃ (put t₃ c.start (with_edge (t₃ c.start) l))) ≡ field g t₃
        go true = refl
        go false = keeps g t₃ c.start (with_edge (t₃ c.start) l) (e (t₃ c.start) l)

  right_is : right_node_of (place_nodes t c l p q) ≡ put (put (right_node_of t) c.node c.right) c.before c.node
  unfolding link_right
  right_is =
      edge-keeps (λ n. n.right) (λ n v. refl) ∙ left-keeps (λ n. n.right) (λ n v. refl)
      ∙ put_map (λ n. n.right) t₁ c.before (with_right (t₁ c.before) c.node)
      ∙ ap (λ (f : ℕ → ℕ). put f c.before c.node) (new (λ n. n.right))

  left_is : left_of (place_nodes t c l p q) ≡ put (put (left_of t) c.node c.before) c.right c.node
  unfolding link_left
  left_is =
      edge-keeps (λ n. n.left) (λ n v. refl)
      ∙ put_map (λ n. n.left) t₂ c.right (with_left (t₂ c.right) c.node)
      ∙ ap (λ (f : ℕ → ℕ). put f c.right c.node) (right-keeps (λ n. n.left) (λ n v. refl) ∙ new (λ n. n.left))

  angle-is : angle_of (place_nodes t c l p q) ≡ put (angle_of t) c.node (turns q)
  angle-is =
      let g : Node → ℕ = λ n. turns n.angle in
      edge-keeps g (λ n v. refl) ∙ left-keeps g (λ n v. refl) ∙ right-keeps g (λ n v. refl) ∙ new g

  edge-is : edge_of (place_nodes t c l p q)
      ≡ (let e = put (edge_of t) c.node p in cond (eqb c.start c.node) e (put e c.start l))
  unfolding left_edge
  edge-is = go (eqb c.start c.node)
    where
      linked : edge_of t₃ ≡ put (edge_of t) c.node p
      linked = left-keeps (λ n. n.edge) (λ n v. refl) ∙ right-keeps (λ n. n.edge) (λ n v. refl) ∙ new (λ n. n.edge)

      go : (b : Bool) → edge_of (cond b t₃ (put t₃ c.start (with_edge (t₃ c.start) l)))
          ≡ (let e = put (edge_of t) c.node p in cond b e (put e c.start l))
      go true = linked
      go false =
          put_map (λ n. n.edge) t₃ c.start (with_edge (t₃ c.start) l)
          ∙ ap (λ (f : ℕ → ℕ). put f c.start l) linked

  -- THE STORES of the ring's theory
  pub placed-stored : (left : ℕ) {t' : ℕ → Node} → t' ≡ place_nodes t c l p q
      → table_of t' ≡ stored (table_of t) (insertion_of left c) l p (turns q)
  placed-stored left e = rw (e, left_is, right_is, angle-is, edge-is) refl
