-- What holds on the walk to both sides. Assumes nothing.
use Prim.Native.Nat.{ℕ, suc, ◌+◌, ◌<◌, ◌≤◌}
use native.Mathlib.Decide.{ℕ_discrete}
use native.Mathlib.Numerals.{add-one}
use native.Mathlib.Omega.{arith}
use mathlib.Core.Path.{◌≡◌, refl, sym, ◌∙◌, ap, subst}
use mathlib.Core.Bool.{Bool, true, false}
use mathlib.Core.List.{List}
use lib.Dec.{T}
use lib.Ieee.{Float}
use Rattle.std.specs.Prelude.{Some, None}
use Rattle.std.proofs.lemmas.Option.{none-some, same_Some}
use lib.ListN.{length}
use Rattle.angle.specs.Angle.{turns}
use Rattle.sums.specs.Iterate.{iter}
use Rattle.sums.proofs.IterateLaws.{iter-last, Reach}
use Rattle.ring.specs.Insert.{On}
use Rattle.ring.proofs.HullLaws.{on-any}
use Rattle.ring_rows.specs.declared.Node.{Node}
use Rattle.ring_rows.specs.Rows.{nodes_of, right_node_of}
use Rattle.ring_rows.specs.Find.{node_holds, ToTest, ToWalk, WalkedBoth}
use Rattle.ring_rows.proofs.Test.{to-test}

-- ---- after some turns
pub record Walking (nodes : List Node) (a : Float) (right₀ left₀ right left turn : ℕ) : Type 0 where
  pub given : ToWalk nodes right₀ left₀ a
  pub at : right ≡ iter turn (right_node_of (nodes_of nodes)) right₀
  pub left-on : On (right_node_of (nodes_of nodes)) given.size right₀ left
  pub missed : (k : ℕ) → k < turn → T (node_holds (nodes_of nodes) (turns a) (iter k (right_node_of (nodes_of nodes)) right₀)) → ⊥

pub begin : {nodes : List Node} {a : Float} {right₀ left₀ : ℕ} → ToWalk nodes right₀ left₀ a → Walking nodes a right₀ left₀ right₀ left₀ 0
begin G = record {
  given = G;
  at = refl;
  left-on = G.left-on;
  missed = λ k l u. omega arith;
}

found-at : {t : ℕ → Node} {right x limit i : ℕ} → Reach (right_node_of t) right i → T (node_holds t x i) → WalkedBoth t right x limit (Some i)
found-at {t} {right} {x} {limit} {i} c h = record {
  reached = λ j z. subst (Reach (right_node_of t) right) (same_Some i j z) c;
  at = λ j z. subst (λ (k : ℕ). T (node_holds t x k)) (same_Some i j z) h;
  missed = λ z. absurd (none-some i (sym z));
}

module _ {nodes : List Node} {a : Float} {right₀ left₀ right left turn : ℕ} (K : Walking nodes a right₀ left₀ right left turn) where
  right-on : On (right_node_of (nodes_of nodes)) K.given.size right₀ right
  right-on =
      subst (On (right_node_of (nodes_of nodes)) K.given.size right₀) (sym K.at)
      (on-any {right = right_node_of (nodes_of nodes)} {m = K.given.size} {s = right₀} K.given.ring.sound.closed
      (let l = K.left-on.1 in omega arith) turn)

  pub right-test : ToTest nodes right a
  right-test = to-test nodes K.given.ring K.given.node-room right-on K.given.valid

  pub left-test : ToTest nodes left a
  left-test = to-test nodes K.given.ring K.given.node-room K.left-on K.given.valid

  pub right_there : right < length nodes
  right_there = right-test.here

  pub left_there : left < length nodes
  left_there = left-test.here

  -- where a walk ends
  pub right_found : {limit : ℕ} {b : Bool} → b ≡ node_holds (nodes_of nodes) (turns a) right → b ≡ true
      → WalkedBoth (nodes_of nodes) right₀ (turns a) limit (Some right)
  right_found e y = found-at (turn, sym K.at) (subst T (sym y ∙ e) tt)

  pub left_found : {limit : ℕ} {b : Bool} → b ≡ node_holds (nodes_of nodes) (turns a) left → b ≡ true
      → WalkedBoth (nodes_of nodes) right₀ (turns a) limit (Some left)
  left_found e y = found-at (K.left-on.0, K.left-on.2) (subst T (sym y ∙ e) tt)

  pub not_found : {limit : ℕ} → limit ≤ turn → WalkedBoth (nodes_of nodes) right₀ (turns a) limit None
  not_found l = record {
    reached = λ i z. absurd (none-some i z);
    at = λ i z. absurd (none-some i z);
    missed = λ z k m. K.missed k (omega arith);
  }

  -- one turn more
  pub again : {h : Bool} → h ≡ node_holds (nodes_of nodes) (turns a) right → h ≡ false
      → {here there : Node} → here ≡ nodes_of nodes right → there ≡ nodes_of nodes left
      → Walking nodes a right₀ left₀ here.right there.left (turn + 1)
  again {h} e y {here} {there} u v = rw (add-one turn) (record {
    given = K.given;
    at = next;
    left-on = subst (On (right_node_of (nodes_of nodes)) K.given.size right₀) (sym (ap (λ (n : Node). n.left) v)) (K.given.back left K.left-on);
    missed = λ k l w. go k l w (ℕ_discrete k turn);
  })
    where
      next : here.right ≡ iter (suc turn) (right_node_of (nodes_of nodes)) right₀
      next = ap (λ (n : Node). n.right) u ∙ ap (right_node_of (nodes_of nodes)) K.at ∙ sym (iter-last turn (right_node_of (nodes_of nodes)) right₀)

      go : (k : ℕ) → k < suc turn → T (node_holds (nodes_of nodes) (turns a) (iter k (right_node_of (nodes_of nodes)) right₀)) → Dec (k ≡ turn) → ⊥
      go k l w (yes z) =
          subst T (sym e ∙ y)
          (subst (λ (i : ℕ). T (node_holds (nodes_of nodes) (turns a) i)) (ap (λ (j : ℕ). iter j (right_node_of (nodes_of nodes)) right₀) z ∙ sym K.at) w)
      go k l w (no z) = K.missed k (omega arith) w
