-- The invariant of a loop: to go on from here, with the turns that are left, is the whole loop from its start. Each turn
-- makes one edge, and while a fan stands on a line the edges are fewer than twice the vertices; so the loop ends. Assumes
-- nothing.
use mathlib.Core.Bool.{Bool, true, false, not}
use mathlib.Core.List.{List}
use mathlib.Core.Path.{◌≡◌, refl, sym, ◌∙◌, ap}
use Prim.Native.Nat.{ℕ, suc, ◌+◌, ◌-◌, ◌*◌, ◌<◌}
use native.Mathlib.Omega.{arith}
use lib.IntN.{ℤ}
use lib.ListN.{length}
use Rattle.apply.specs.declared.Walked.{Walked}
use Rattle.apply.specs.ApplyRows.{walking_of}
use Rattle.corner.specs.CornerRows.{extended_of}
use Rattle.dcel.specs.Rows.{position_of}
use Rattle.math.specs.declared.Point.{Point}
use Rattle.mesh.specs.Operations.{with_face}
use Rattle.ring.specs.declared.Side.{Side}
use Rattle.skipped.specs.Insert.{outside_ends, outside_turn, outside_walk}
use Rattle.sums.specs.Until.{until}
use Rattle.sums.proofs.UntilLaws.{until-done, until-next}
use Rattle.line_fan.specs.FanRows.{TurnReady, FanReady}
use Rattle.line_fan.proofs.FanHeld.{vertices-are, edges-least, edges-fewer, turn-ready, counts-after, ready-after}

-- a loop that began with h₀, a₀ and w₀
pub record WalkingAt (side : Side) (v : Point) (q : List ℤ) (h₀ a₀ : List ℕ) (w₀ : Walked) (h a : List ℕ) (w : Walked) : Type 0 where
  pub ready : FanReady side q h a w v
  pub halves : length h ≡ length h₀
  pub faces : length a ≡ length a₀
  pub turns : ℕ
  pub enough : 2 * w.added.counts.vertices - w.added.counts.edges < turns
  pub same : (room : ℕ) (o : List ℕ)
      → until (outside_ends side (position_of q) v) (outside_turn side room (position_of q)) turns (walking_of o h a w)
      ≡ outside_walk side room (position_of q) v (walking_of o h₀ a₀ w₀)

pub walk-starts : {side : Side} {v : Point} {q : List ℤ} {h a : List ℕ} {w : Walked} → FanReady side q h a w v
    → WalkingAt side v q h a w h a w
unfolding outside_walk extended_of
walk-starts {w = w} R = record {
  ready = R;
  halves = refl;
  faces = refl;
  turns = 2 * w.added.counts.edges + 1;
  enough = (let a = edges-least R in let b = vertices-are R in omega arith);
  same = λ room o. refl;
}

module _ {side : Side} {v : Point} {q : List ℤ} {h₀ a₀ : List ℕ} {w₀ : Walked} {h a : List ℕ} {w : Walked}
    (I : WalkingAt side v q h₀ a₀ w₀ h a w) {t : Bool}
    (told : (o a : List ℕ) → t ≡ not (outside_ends side (position_of q) v (walking_of o h a w))) where
  ends_as : (o : List ℕ) → outside_ends side (position_of q) v (walking_of o h a w) ≡ not t
  ends_as o = go _ (told o a)
    where
      go : (b : Bool) → t ≡ not b → b ≡ not t
      go true x = sym (ap not x)
      go false x = sym (ap not x)

  pub walk_end : t ≡ false → (room : ℕ) (o : List ℕ)
      → walking_of o h a w ≡ outside_walk side room (position_of q) v (walking_of o h₀ a₀ w₀)
  walk_end e room o = sym (until-done _ _ I.turns _ (ends_as o ∙ ap not e)) ∙ I.same room o

  module _ (e : t ≡ true) where
    goes_on : (o : List ℕ) → outside_ends side (position_of q) v (walking_of o h a w) ≡ false
    goes_on o = ends_as o ∙ ap not e

    pub walk_turn : TurnReady side h a w
    walk_turn = turn-ready I.ready (goes_on I.ready.outs)

    module _ (h' a' : List ℕ) (w' : Walked) (x : (room : ℕ) (p : ℕ → Point) (o : List ℕ)
        → walking_of o h' a' w' ≡ outside_turn side room p (walking_of o h a w)) where
      counts-are : w'.added.counts ≡ with_face w.added.counts
      counts-are = counts-after I.ready (goes_on I.ready.outs) h' a' w' (x 0 (position_of q) I.ready.outs)

      pub walk-less : 2 * w'.added.counts.vertices - w'.added.counts.edges < 2 * w.added.counts.vertices - w.added.counts.edges
      walk-less = let f = edges-fewer I.ready in rw counts-are (omega arith)

      pub walk-on : length h' ≡ length h → length a' ≡ length a → WalkingAt side v q h₀ a₀ w₀ h' a' w'
      walk-on i j =
          let n = I.turns - 1 in
          let k = I.enough in
          let s : suc n ≡ I.turns = omega arith in
          let z = walk-less in
          record {
            ready = ready-after I.ready (goes_on I.ready.outs) h' a' w' (x 0 (position_of q) I.ready.outs) i j;
            halves = i ∙ I.halves;
            faces = j ∙ I.faces;
            turns = n;
            enough = omega arith;
            same = λ room o. ap (until (outside_ends side (position_of q) v) (outside_turn side room (position_of q)) n)
                (x room (position_of q) o)
                ∙ sym (until-next _ _ n (walking_of o h a w) (goes_on o))
                ∙ ap (λ (m : ℕ). until (outside_ends side (position_of q) v) (outside_turn side room (position_of q)) m (walking_of o h a w)) s
                ∙ I.same room o;
          }
