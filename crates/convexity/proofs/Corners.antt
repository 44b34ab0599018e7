-- What the tests of a corner read, and what they say: over plain values, so that the needs of the code are single applications. Assumes nothing.
use mathlib.Core.Bool.{Bool, true, false, not, ◌||◌}
use mathlib.Core.List.{List}
use mathlib.Core.Path.{◌≡◌, refl, ◌∙◌, ap, subst⁻¹}
use Prim.Native.Nat.{ℕ, ◌<◌, ◌≤◌}
use native.Mathlib.Omega.{arith}
use borrow.Author.Tests.{lt-ltb, le-ltb}
use lib.IntN.{ℤ, pos}
use lib.Signed.{lt_z}
use Rattle.dcel.specs.Rows.{halves_of, links_of, position_of, Placed}
use Rattle.math.specs.declared.Point.{Point}
use Rattle.math.specs.Determinant.{InRange, orient2d}
use Rattle.mesh.specs.Mesh.{Links}
use Rattle.sums.specs.Half.{rev}
use Rattle.convexity.specs.Convexity.{turns_left_at}
use Rattle.convexity.specs.Walk.{left_behind}
use Rattle.convexity.specs.ConvexityRows.{CornerReady}

-- ---- three vertices
-- a position that was read is in range
pub in-range : (q : List ℤ) {p : Point} {v w : ℕ} → p ≡ position_of q v → v ≡ w → Placed q w → InRange p
in-range q e f h = subst⁻¹ InRange (e ∙ ap (position_of q) f) h.range

module _ (q : List ℤ) (h : List ℕ) (d e : ℕ) where
  pub side_left : {a b c : ℕ} {p1 p2 t : Point} {s : ℤ}
      → a ≡ (halves_of h).origin d → b ≡ (halves_of h).origin (rev d) → c ≡ (halves_of h).origin (rev e)
      → p1 ≡ position_of q a → p2 ≡ position_of q b → t ≡ position_of q c → s ≡ orient2d p1 p2 t
      → (o f : List ℕ) → lt_z (pos 0) s ≡ turns_left_at (links_of o h f) (position_of q) d e
  unfolding turns_left_at links_of
  side_left x y z u v w s o f = ap (lt_z (pos 0)) s ∙ rw (u, v, w, x, y, z) refl

-- ---- the two half-edges behind the current one
module _ (q : List ℤ) (h : List ℕ) (c : ℕ) {e₁ e₂ : ℕ} (x : e₂ ≡ (halves_of h).prev c) (y : e₁ ≡ (halves_of h).prev e₂) where
  first : e₁ ≡ (halves_of h).prev ((halves_of h).prev c)
  first = y ∙ ap (halves_of h).prev x

  pub corner-ready : CornerReady q h ((halves_of h).prev ((halves_of h).prev c)) ((halves_of h).prev c) → CornerReady q h e₁ e₂
  corner-ready r = rw (first, x) r

  pub behind-tested : (depth : ℕ) {full r : Bool} → full ≡ false → 2 ≤ depth → ((o a : List ℕ) → r ≡ turns_left_at (links_of o h a) (position_of q) e₁ e₂)
      → (o a : List ℕ) → r ≡ not (full || not (left_behind (position_of q) (links_of o h a) c depth))
  unfolding left_behind links_of
  behind-tested depth f l t o a = rw (f, lt-ltb 1 depth l) (t o a ∙ rw (first, x) (back _))
    where
      back : (t : Bool) → t ≡ not (not t)
      back true = refl
      back false = refl

pub behind-full : (p : ℕ → Point) (L : Links) (c depth : ℕ) {full : Bool} → full ≡ true → false ≡ not (full || not (left_behind p L c depth))
behind-full p L c depth f = rw f refl

pub behind-few : (p : ℕ → Point) (L : Links) (c depth : ℕ) {full : Bool} → full ≡ false → depth < 2 → false ≡ not (full || not (left_behind p L c depth))
unfolding left_behind
behind-few p L c depth f l = rw (f, le-ltb 1 depth (omega arith)) refl
