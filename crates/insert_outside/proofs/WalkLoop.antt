-- The invariant of a loop: to go on from here is to go on from the start. Each turn makes the boundary shorter
-- (`outside-falls` in skipped's `Outside`), and so the loop ends. Assumes nothing.
use mathlib.Core.Bool.{Bool, true, false, not}
use mathlib.Core.List.{List}
use mathlib.Core.Path.{◌≡◌, refl, sym, ◌∙◌, ap, subst⁻¹}
use Prim.Native.Nat.{ℕ, ◌+◌, ◌*◌, ◌<◌}
use native.Mathlib.Omega.{arith}
use lib.IntN.{ℤ}
use lib.ListN.{length}
use Rattle.apply.specs.declared.Walked.{Walked}
use Rattle.apply.specs.Apply.{Walking, face_edge}
use Rattle.apply.specs.ApplyRows.{walking_of}
use Rattle.corner.specs.CornerLaws.{CornerClosed, none, then}
use Rattle.corner.specs.CornerRows.{extended_of, Ready}
use Rattle.corner.specs.RowsLaws.{SameLengths, same_refl, same-trans, ready-again}
use Rattle.dcel.specs.Rows.{links_of, position_of}
use Rattle.math.specs.declared.Point.{Point}
use Rattle.math.specs.Determinant.{InRange}
use Rattle.mesh.specs.Mesh.{In}
use Rattle.mesh.specs.Area.{boundary_length}
use Rattle.mesh.proofs.BoundaryLaws.{boundary-most}
use Rattle.ring.specs.declared.Side.{Side}
use Rattle.ring.specs.declared.Side.TheVariants.{Left, Right}
use Rattle.ring.specs.Chain.{beside}
use Rattle.skipped.specs.Insert.{outside_ends, outside_turn, outside_walk}
use Rattle.skipped.proofs.OutsideLaws.{Standing, TipOn, turn-closes, outside-falls}
use Rattle.sums.proofs.UntilLaws.{Going, going_start, going-turn, going_less, going_end}
use Rattle.insert_outside.specs.OutsideRows.{BesideReady, TurnReady, WalkReady}
use Rattle.insert_outside.specs.TurnLaws.{beside-is}
use Rattle.insert_outside.proofs.Sight.{beside-in, beside-ready}

pub record WalkingAt (side : Side) (v : Point) (q : List ℤ) (o₀ h₀ a₀ row₀ : List ℕ) (w₀ : Walked)
    (o h a row : List ℕ) (w : Walked) : Type 0 where
  pub ready : Ready q o h a row w.added
  pub lengths : SameLengths o₀ h₀ a₀ row₀ o h a row
  pub range : InRange v
  pub vertex : ℕ
  pub here : position_of q vertex ≡ v
  pub other : ℕ
  pub going : Going (outside_ends side (position_of q) v) (outside_turn side (length row₀) (position_of q))
      (Standing (length row₀) (position_of q) here side other) (λ s. boundary_length s.mesh.counts s.mesh.links)
      (2 * w₀.added.counts.edges + 1) (walking_of o₀ h₀ a₀ w₀) (walking_of o h a w)

pub walk-starts : {side : Side} {v : Point} {q : List ℤ} {o h a row : List ℕ} {w : Walked} → WalkReady side q o h a row w v
    → WalkingAt side v q o h a row w o h a row w
unfolding extended_of
walk-starts {side} {v} {q} {o} {h} {a} {row} {w} R = record {
  ready = R.ready;
  lengths = same_refl;
  range = R.range;
  vertex = R.vertex;
  here = R.here;
  other = R.other;
  going = going_start (outside_ends side (position_of q) v) (outside_turn side (length row) (position_of q))
      (outside-falls (length row) (position_of q) R.here side R.other) (2 * w.added.counts.edges + 1) _ R.standing
      (let k = boundary-most R.ready.rows.good.wf in omega arith);
}

module _ {side : Side} {v : Point} {q : List ℤ} {o₀ h₀ a₀ row₀ : List ℕ} {w₀ : Walked} {o h a row : List ℕ} {w : Walked}
    (I : WalkingAt side v q o₀ h₀ a₀ row₀ w₀ o h a row w) where
  current-in : In w.added.counts w.edge
  unfolding extended_of
  current-in = go side I.going.claim.tip
    where
      go : (side : Side) → TipOn (length row₀) (position_of q) I.here side w.added.counts (links_of o h a) w.edge I.other
          → In w.added.counts w.edge
      go Left T = T.in-l
      go Right T = T.in-r

  pub walk-sight : BesideReady side q h w.edge v
  walk-sight = beside-ready I.ready.rows I.range side current-in

  module _ {r : Bool} (t : (o a : List ℕ) → r ≡ not (outside_ends side (position_of q) v (walking_of o h a w))) where
    goes_on : r ≡ true → outside_ends side (position_of q) v (walking_of o h a w) ≡ false
    goes_on e = go _ (sym (t o a) ∙ e)
      where
        go : (b : Bool) → not b ≡ true → b ≡ false
        go true x = sym x
        go false x = refl

    comes-to-end : r ≡ false → outside_ends side (position_of q) v (walking_of o h a w) ≡ true
    comes-to-end e = go _ (sym (t o a) ∙ e)
      where
        go : (b : Bool) → not b ≡ false → b ≡ true
        go true x = refl
        go false x = sym x

    module _ (e : r ≡ true) where
      closes : CornerClosed (position_of q) (extended_of o h a w.added)
          (outside_turn side (length row₀) (position_of q) (walking_of o h a w)).mesh
          (face_edge side w.edge (beside side (links_of o h a) w.edge))
      unfolding extended_of
      closes = turn-closes (length row₀) (position_of q) I.here side (walking_of o h a w) I.going.claim (goes_on e)

      pub walk_turn : TurnReady side q o h a row w
      unfolding extended_of
      walk_turn = record {
        current = current-in;
        cover = record {
          ready = I.ready;
          edge = closes.edge;
          outer = closes.outer;
          left = closes.left;
          used = rw (← beside-is side o h a w.edge) (beside-in side I.ready.rows current-in);
        };
      }

      module _ (o' h' a' : List ℕ) (w' : Walked)
          (x : walking_of o' h' a' w' ≡ outside_turn side (length row) (position_of q) (walking_of o h a w)) where
        turned-is : walking_of o' h' a' w' ≡ outside_turn side (length row₀) (position_of q) (walking_of o h a w)
        turned-is = x ∙ ap (λ (n : ℕ). outside_turn side n (position_of q) (walking_of o h a w)) I.lengths.pending

        pub walk-less : boundary_length w'.added.counts (links_of o' h' a') < boundary_length w.added.counts (links_of o h a)
        unfolding extended_of
        walk-less =
            subst⁻¹ (λ (s : Walking). boundary_length s.mesh.counts s.mesh.links < boundary_length w.added.counts (links_of o h a))
            turned-is
            (going_less _ _ (outside-falls (length row₀) (position_of q) I.here side I.other) I.going (goes_on e))

        pub walk-on : {row' : List ℕ} → SameLengths o h a row o' h' a' row' → WalkingAt side v q o₀ h₀ a₀ row₀ w₀ o' h' a' row' w'
        walk-on l = record {
          ready = ready-again I.ready (then none _ closes) (ap (λ (s : Walking). s.mesh) turned-is) l;
          lengths = same-trans I.lengths l;
          range = I.range;
          vertex = I.vertex;
          here = I.here;
          other = I.other;
          going = subst⁻¹ (Going (outside_ends side (position_of q) v) (outside_turn side (length row₀) (position_of q))
              (Standing (length row₀) (position_of q) I.here side I.other) (λ s. boundary_length s.mesh.counts s.mesh.links)
              (2 * w₀.added.counts.edges + 1) (walking_of o₀ h₀ a₀ w₀)) turned-is
              (going-turn _ _ (outside-falls (length row₀) (position_of q) I.here side I.other) I.going (goes_on e));
        }

    pub walk_end : r ≡ false → walking_of o h a w ≡ outside_walk side (length row₀) (position_of q) v (walking_of o₀ h₀ a₀ w₀)
    unfolding outside_walk extended_of
    walk_end e = going_end _ _ (outside-falls (length row₀) (position_of q) I.here side I.other) I.going (comes-to-end e)
