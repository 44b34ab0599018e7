-- What a turn needs of the rows, and what it leaves. Assumes nothing.
use mathlib.Core.List.{List}
use mathlib.Core.Path.{◌≡◌, refl, ◌∙◌, ap}
use Prim.Native.Nat.{ℕ, ◌+◌, ◌*◌, ◌/◌, ◌^◌, ◌<◌}
use native.Mathlib.Omega.{arith}
use lib.IntN.{ℤ}
use lib.ListN.{length}
use Rattle.circle_test.specs.GoodRows.{held}
use Rattle.corner.specs.declared.Extension.{Extension}
use Rattle.corner.specs.Corner.{close_corner}
use Rattle.corner.specs.CornerRows.{extended_of, CloseReady}
use Rattle.dcel.specs.Rows.{halves_of, links_of, position_of, There}
use Rattle.dcel.specs.MeshHeld.{there, prev-in, next-in}
use Rattle.mesh.specs.Mesh.{In}
use Rattle.ring.specs.declared.Side.{Side}
use Rattle.ring.specs.declared.Side.TheVariants.{Left, Right}
use Rattle.apply.specs.declared.Walked.{Walked}
use Rattle.ring.specs.Chain.{beside}
use Rattle.apply.specs.Apply.{Walking, face_edge, walk_turn_of}
use Rattle.apply.specs.ApplyRows.{walking_of, beside_in, TurnReady}

pub beside-is : (side : Side) (o h a : List ℕ) (e : ℕ) → beside_in side (halves_of h) e ≡ beside side (links_of o h a) e
unfolding beside_in links_of
beside-is Left o h a e = refl
beside-is Right o h a e = refl

-- the edge that the face is made at, by the case of the match
pub face-left : {side : Side} (e : ℕ) {at d : ℕ} → side ≡ Left → at ≡ d → at ≡ face_edge side e d
unfolding face_edge
face-left e z y = rw z y

pub face-right : {side : Side} (d : ℕ) {at e : ℕ} → side ≡ Right → at ≡ e → at ≡ face_edge side e d
unfolding face_edge
face-right d z y = rw z y

module _ {side : Side} {q : List ℤ} {o h a row : List ℕ} {w : Walked} (R : TurnReady side q o h a row w) where
  pub current-there : There h w.edge
  current-there = there (held R.ready.rows) R.current

  -- the new edge's number fits
  pub new-fits : 2 * w.added.counts.edges + 1 < 2 ^ 32
  new-fits = let s = R.ready.rows.room.small in omega arith

  module _ {d : ℕ} (x : d ≡ beside_in side (halves_of h) w.edge) where
    d-in : In w.added.counts d
    unfolding beside_in
    d-in = rw x (go side)
      where
        go : (side : Side) → In w.added.counts (beside_in side (halves_of h) w.edge)
        go Left = prev-in (held R.ready.rows) R.current
        go Right = next-in (held R.ready.rows) R.current

    module _ {at : ℕ} (y : at ≡ face_edge side w.edge d) where
      at-is : at ≡ face_edge side w.edge (beside side (links_of o h a) w.edge)
      at-is = y ∙ ap (face_edge side w.edge) (x ∙ beside-is side o h a w.edge)

      pub corner-ready : CloseReady q o h a row w.added at (w.edge / 2) (d / 2)
      unfolding extended_of
      corner-ready = rw at-is (record {
        ready = R.ready;
        edge = R.closes.edge;
        outer = R.closes.outer;
        left = R.closes.left;
        first-in = let i = R.current in omega arith;
        second-in = let i = d-in in omega arith;
      })

      pub turned-row : (o' h' a' : List ℕ) (g : Extension) {n : ℕ} → extended_of o' h' a' g ≡ close_corner (length row) (position_of q) (extended_of o h a w.added) at (w.edge / 2) (d / 2)
          → n ≡ 2 * w.added.counts.edges + 1
          → ◌≡◌ {A = Walking} (record { mesh = extended_of o' h' a' g; current = n }) (walk_turn_of side (length row) (position_of q) (walking_of o h a w))
      unfolding walk_turn_of extended_of
      turned-row o' h' a' g u v = rw (u, v, at-is, x, beside-is side o h a w.edge) refl
