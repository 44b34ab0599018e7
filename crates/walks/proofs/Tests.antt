-- What the test of a walk answers, by the side first and by the angle last, over plain values, so that the needs of the code are single
-- applications. Assumes nothing.
use mathlib.Core.Bool.{Bool, true, false, not, ◌&&◌, ◌||◌}
use mathlib.Core.Path.{◌≡◌, refl, sym, ◌∙◌, ap}
use Prim.Native.Nat.{ℕ, ◌+◌}
use lib.Dec.{T, eqb}
use lib.Ieee.{Float}
use lib.IntN.{ℤ, pos}
use lib.Signed.{lt_z, le_z}
use Rattle.algebra.proofs.Test.{le_read}
use Rattle.angle.specs.Angle.{angle_about, at_center, turns}
use Rattle.math.specs.declared.Point.{Point}
use Rattle.ring.specs.Ring.{proper}
use Rattle.ring.specs.Chain.{covered_if}
use Rattle.ring.specs.declared.Side.{Side}
use Rattle.ring.specs.declared.Side.TheVariants.{Left, Right}
use Rattle.sums.specs.Bit.{bit}
use Rattle.walks.specs.declared.BoundaryVertex.{BoundaryVertex}
use Rattle.walks.specs.Walks.{area_on, behind_on, cover_test}

unseen : (x : Bool) {s : Bool} → s ≡ false → false ≡ (x && s)
unseen true z = sym z
unseen false z = refl

ahead : (u : Bool) {b s : Bool} → b ≡ false → s ≡ true → true ≡ ((not b || u) && s)
ahead u x y = rw (x, y)

level : {u w b s : Bool} → b ≡ true → s ≡ true → u ≡ w → u ≡ ((not b || w) && s)
level {w = w} x y g = g ∙ rw (x, y) (same w)
  where
    same : (w : Bool) → w ≡ (w && true)
    same true = refl
    same false = refl

module _ (side : Side) (far : Point) (near : BoundaryVertex) (v : Point) (a : Float) where
  cover-is : covered_if (behind_on side far near.position v) (turns a) (turns near.angle) (lt_z (pos 0) (area_on side far near.position v))
      ≡ cover_test side far near v a
  unfolding cover_test
  cover-is = go side
    where
      go : (side : Side) → covered_if (behind_on side far near.position v) (turns a) (turns near.angle) (lt_z (pos 0) (area_on side far near.position v))
          ≡ cover_test side far near v a
      go Left = refl
      go Right = refl

  -- the code reads the area as s, and whether the point is behind as k
  module _ {s : ℤ} (i : s ≡ area_on side far near.position v) where
    sees : {t : Bool} → le_z s (pos 0) ≡ t → lt_z (pos 0) (area_on side far near.position v) ≡ not t
    sees u = ap (lt_z (pos 0)) (sym i) ∙ le_read s (pos 0) u

    pub test-unseen : le_z s (pos 0) ≡ true → false ≡ cover_test side far near v a
    test-unseen u = unseen (not (behind_on side far near.position v) || eqb (turns a) (turns near.angle)) (sees u) ∙ cover-is

    module _ (u : le_z s (pos 0) ≡ false) {k : Bool} (j : k ≡ behind_on side far near.position v) where
      pub test-ahead : k ≡ false → true ≡ cover_test side far near v a
      test-ahead w = ahead (eqb (turns a) (turns near.angle)) (sym j ∙ w) (sees u) ∙ cover-is

      pub test-level : k ≡ true → {t : Bool} → t ≡ eqb (turns a) (turns near.angle) → t ≡ cover_test side far near v a
      test-level w g = level (sym j ∙ w) (sees u) g ∙ cover-is

-- ---- the angle at a position, by the coordinates that the code reads
module _ (p : Point) (cx cy : Float) {x y : ℤ} (x-is : x ≡ p.x) (y-is : y ≡ p.y) where
  pub apart-read : T (not (at_center p.x p.y cx cy)) → T (not (at_center x y cx cy))
  apart-read t = rw (x-is, y-is) t

  pub angle-read : {a : Float} → a ≡ angle_about x y cx cy → turns a ≡ turns (angle_about p.x p.y cx cy)
  angle-read e = ap turns (e ∙ rw (x-is, y-is))

-- ---- an edge whose ends have different angles has a node
pub counted : (n x y : ℕ) {m : ℕ} {t : Bool} → t ≡ eqb x y → m ≡ n + bit (not t) → m ≡ n + bit (proper x y)
unfolding proper
counted n x y e z = z ∙ ap (λ (b : Bool). n + bit (not b)) e
