-- What holds on the walk to the node that holds x. Assumes nothing.
use Prim.Native.Nat.{ℕ, suc, ◌+◌, ◌<◌}
use native.Mathlib.Decide.{dec_lt, ℕ_discrete}
use native.Mathlib.Omega.{arith}
use mathlib.Core.Path.{◌≡◌, refl, sym, ◌∙◌, ap, subst}
use mathlib.Core.Bool.{Bool, true, false}
use lib.Dec.{T}
use Rattle.sums.specs.Iterate.{iter}
use Rattle.sums.proofs.IterateLaws.{iter-last}
use Rattle.sums.proofs.TallyLaws.{tally-most}
use Rattle.ring.specs.Ring.{at_ends, proper}
use Rattle.ring.proofs.SoundLaws.{tile}
use Rattle.ring.specs.Insert.{On}
use Rattle.ring_rows.specs.declared.Node.{Node}
use Rattle.ring_rows.specs.Rows.{NodeRing, Got, angle_of, right_node_of}
use Rattle.ring_rows.specs.Find.{node_holds}

pub record Walking (t : ℕ → Node) (len size start x handle passed : ℕ) : Type 0 where
  pub ring : NodeRing t len size start
  pub at : handle ≡ iter passed (right_node_of t) start
  pub missed : (j : ℕ) → j < passed → T (node_holds t x (iter j (right_node_of t) start)) → ⊥
  pub less : passed < size

pub begin : {t : ℕ → Node} {len size start : ℕ} (x : ℕ) → NodeRing t len size start → Walking t len size start x start 0
begin {t} {len} {size} {start} x R = record {
  ring = R;
  at = refl;
  missed = λ j l u. omega arith;
  less = let a = tally-most (at_ends proper (right_node_of t) (angle_of t)) (right_node_of t) size start in let b = R.sound.three in omega arith;
}

module _ {t : ℕ → Node} {len size start x handle passed : ℕ} (K : Walking t len size start x handle passed) where
  pub handle-on : On (right_node_of t) size start handle
  handle-on = (passed, K.less, sym K.at)

  module _ {node : Node} (e : node ≡ t handle) {h : Bool} (tested : h ≡ node_holds t x handle) where
    passes : h ≡ node_holds t x (iter passed (right_node_of t) start)
    passes = tested ∙ ap (node_holds t x) K.at

    pub found : h ≡ true → Got t size start x (record { node = handle; edge = node.edge; passed = passed })
    found y = record {
      first = record { below = K.less; passes = subst T (sym y ∙ passes) tt; before = K.missed };
      node = K.at;
      edge = ap (λ (n : Node). n.edge) e;
    }

    missed-now : h ≡ false → (j : ℕ) → j < suc passed → T (node_holds t x (iter j (right_node_of t) start)) → ⊥
    missed-now y j l u = go (ℕ_discrete j passed)
      where
        go : Dec (j ≡ passed) → ⊥
        go (yes z) = subst T (sym passes ∙ y) (subst (λ (i : ℕ). T (node_holds t x (iter i (right_node_of t) start))) z u)
        go (no z) = K.missed j (omega arith) u

    pub again : h ≡ false → Walking t len size start x node.right (passed + 1)
    again y = subst (Walking t len size start x node.right) (one passed) (record {
      ring = K.ring;
      at = ap (λ (n : Node). n.right) e ∙ ap (right_node_of t) K.at ∙ sym (iter-last passed (right_node_of t) start);
      missed = missed-now y;
      less = more;
    })
      where
        one : (k : ℕ) → suc k ≡ k + 1
        one k = omega arith

        -- the walk meets a node that holds x, and has not yet
        more : suc passed < size
        more = let m = tile K.ring.sound x in go m.0 m.1.below m.1.passes (dec_lt passed m.0)
          where
            go : (k : ℕ) → k < size → T (node_holds t x (iter k (right_node_of t) start)) → Dec (passed < k) → suc passed < size
            go k l u (yes z) = omega arith
            go k l u (no z) = absurd (missed-now y k (omega arith) u)
