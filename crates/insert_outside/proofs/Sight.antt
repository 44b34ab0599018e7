-- What the test of a loop reads, and what it says. Assumes nothing.
use mathlib.Core.Bool.{Bool, true, false, not}
use mathlib.Core.List.{List}
use mathlib.Core.Path.{◌≡◌, refl, ◌∙◌, ap, subst⁻¹}
use Prim.Native.Nat.{ℕ, ◌<◌}
use native.Mathlib.Omega.{arith}
use lib.IntN.{ℤ, pos}
use lib.Signed.{lt_z}
use Rattle.apply.specs.declared.Walked.{Walked}
use Rattle.apply.specs.ApplyRows.{walking_of, beside_in}
use Rattle.circle_test.specs.GoodRows.{GoodRows, held}
use Rattle.corner.specs.CornerRows.{extended_of}
use Rattle.dcel.specs.Rows.{halves_of, links_of, position_of, Placed}
use Rattle.dcel.specs.MeshHeld.{there, there-rev, prev-in, next-in, origin-in, to_in}
use Rattle.math.specs.declared.Point.{Point}
use Rattle.math.specs.Determinant.{InRange, orient2d}
use Rattle.mesh.specs.declared.Counts.{Counts}
use Rattle.mesh.specs.Mesh.{In}
use Rattle.ring.specs.declared.Side.{Side}
use Rattle.ring.specs.declared.Side.TheVariants.{Left, Right}
use Rattle.ring.specs.Chain.{sees_edge}
use Rattle.skipped.specs.Insert.{outside_ends}
use Rattle.sums.specs.Half.{rev}
use Rattle.insert_outside.specs.OutsideRows.{SightReady, BesideReady}
use Rattle.insert_outside.specs.TurnLaws.{beside-is}

-- ---- the side test
-- a position that was read is in range
pub in-range : (q : List ℤ) {p : Point} {u w : ℕ} → p ≡ position_of q u → u ≡ w → Placed q w → InRange p
in-range q e f h = subst⁻¹ InRange (e ∙ ap (position_of q) f) h.range

pub side-seen : (q : List ℤ) (h : List ℕ) (d : ℕ) (v : Point) {u w : ℕ} {p1 p2 : Point} {s : ℤ}
    → u ≡ (halves_of h).origin d → w ≡ (halves_of h).origin (rev d) → p1 ≡ position_of q u → p2 ≡ position_of q w
    → s ≡ orient2d p1 p2 v → (o a : List ℕ) → lt_z (pos 0) s ≡ sees_edge (links_of o h a) (position_of q) v d
unfolding links_of
side-seen q h d v x y i j s o a = ap (lt_z (pos 0)) s ∙ rw (i, j, x, y) refl

-- ---- of the edge beside the current one
pub beside-in : {C : Counts} {q : List ℤ} {o h a : List ℕ} (side : Side) → GoodRows C q o h a → {e : ℕ} → In C e
    → In C (beside_in side (halves_of h) e)
unfolding beside_in
beside-in Left R l = prev-in (held R) l
beside-in Right R l = next-in (held R) l

-- rows that hold a good mesh have all that it reads
module _ {C : Counts} {q : List ℤ} {o h a : List ℕ} (R : GoodRows C q o h a) {v : Point} (i : InRange v) where
  placed : {u : ℕ} → u < C.vertices → Placed q u
  placed l = record { there = (let k = R.positions in omega arith); range = R.good.range l }

  sight-ready : {d : ℕ} → In C d → SightReady q h d v
  sight-ready l =
      let H = held R in
      record { here = there H l; back = there-rev H l; origin = placed (origin-in H l); to = placed (to_in H l); range = i }

  pub beside-ready : (side : Side) {e : ℕ} → In C e → BesideReady side q h e v
  beside-ready side l = record { here = there (held R) l; sight = sight-ready (beside-in side R l) }

module _ (side : Side) (q : List ℤ) (h : List ℕ) (v : Point) (w : Walked) where
  pub sight-refused : w.added.full ≡ true → (o a : List ℕ) → false ≡ not (outside_ends side (position_of q) v (walking_of o h a w))
  unfolding outside_ends extended_of
  sight-refused f o a = rw f refl

  pub sight-told : {d : ℕ} {r : Bool} → w.added.full ≡ false → d ≡ beside_in side (halves_of h) w.edge
      → ((o a : List ℕ) → r ≡ sees_edge (links_of o h a) (position_of q) v d)
      → (o a : List ℕ) → r ≡ not (outside_ends side (position_of q) v (walking_of o h a w))
  unfolding outside_ends extended_of
  sight-told f x t o a = t o a ∙ rw (x, beside-is side o h a w.edge, f) (back _)
    where
      back : (t : Bool) → t ≡ not (not t)
      back true = refl
      back false = refl
