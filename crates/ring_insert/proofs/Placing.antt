-- The stores of an insert are the definition's. Assumes nothing.
use Prim.Native.Nat.{ℕ}
use mathlib.Core.Path.{◌≡◌, sym, ◌∙◌, ap}
use mathlib.Core.Logic.{◌≢◌}
use mathlib.Core.Bool.{Bool, cond}
use mathlib.Core.List.{List}
use lib.Ieee.{Float}
use borrow.Author.Tests.{eq-eqb, ne_eqb}
use Rattle.sums.specs.Put.{put}
use Rattle.ring_rows.specs.declared.Node.{Node}
use Rattle.ring_rows.specs.Rows.{nodes_of, with_edge, with_left, with_right}
use Rattle.ring_insert.specs.declared.Choice.{Choice}
use Rattle.ring_insert.specs.Insert.{new_node, link_right, link_left, left_edge, place_nodes}

module _ (nodes : List Node) (c : Choice) (q : Float) (p : ℕ) where
  -- the row after the first store, after the second, after the third
  module _ {t₁ : ℕ → Node} (e₁ : t₁ ≡ put (nodes_of nodes) c.node (record { angle = q; edge = p; left = c.before; right = c.right })) where
    is₁ : t₁ ≡ new_node (nodes_of nodes) c p q
    unfolding new_node
    is₁ = e₁

    module _ {t₂ : ℕ → Node} (e₂ : t₂ ≡ put t₁ c.before (with_right (t₁ c.before) c.node)) where
      is₂ : t₂ ≡ link_right (new_node (nodes_of nodes) c p q) c
      unfolding link_right
      is₂ = e₂ ∙ ap (λ (t : ℕ → Node). put t c.before (with_right (t c.before) c.node)) is₁

      module _ {t₃ : ℕ → Node} (e₃ : t₃ ≡ put t₂ c.right (with_left (t₂ c.right) c.node)) where
        is₃ : t₃ ≡ link_left (link_right (new_node (nodes_of nodes) c p q) c) c
        unfolding link_left
        is₃ = e₃ ∙ ap (λ (t : ℕ → Node). put t c.right (with_left (t c.right) c.node)) is₂

        pub placed-stays : {t₄ : ℕ → Node} (l : ℕ) → c.start ≢ c.node → t₄ ≡ put t₃ c.start (with_edge (t₃ c.start) l) → t₄ ≡ place_nodes (nodes_of nodes) c l p q
        unfolding left_edge
        placed-stays l d e₄ =
            e₄ ∙ ap (λ (t : ℕ → Node). put t c.start (with_edge (t c.start) l)) is₃
            ∙ sym (ap (λ (b : Bool). cond b (link_left (link_right (new_node (nodes_of nodes) c p q) c) c) (put (link_left (link_right (new_node (nodes_of nodes) c p q) c) c) c.start (with_edge (link_left (link_right (new_node (nodes_of nodes) c p q) c) c c.start) l))) (ne_eqb c.start c.node d))

        pub placed-goes : (l : ℕ) → c.start ≡ c.node → t₃ ≡ place_nodes (nodes_of nodes) c l p q
        unfolding left_edge
        placed-goes l d =
            is₃ ∙ sym (ap (λ (b : Bool). cond b (link_left (link_right (new_node (nodes_of nodes) c p q) c) c) (put (link_left (link_right (new_node (nodes_of nodes) c p q) c) c) c.start (with_edge (link_left (link_right (new_node (nodes_of nodes) c p q) c) c c.start) l))) (eq-eqb c.start c.node d))
