-- Rows 6 and 7 as `check_ring` meets them. Assumes nothing.
use Rattle.std.specs.Prelude.{Ok}
use mathlib.Core.Path.{◌≡◌, refl, sym, subst}
use mathlib.Core.Bool.{Bool, true, false, not, cond, ◌||◌}
use mathlib.Core.List.{List}
use Prim.Native.Nat.{ℕ}
use lib.Dec.{T, not_T}
use lib.Ieee.{Float}
use lib.IntN.{ℤ}
use Rattle.angle.specs.Angle.{valid_center}
use Rattle.hull.specs.Boundary.{AngledBoundary, edge_at, angles_of, origin_at_center}
use Rattle.mesh_check.specs.Check.{refused}
use Rattle.ring.specs.Ring.{full_turn, is_strict}
use Rattle.sums.proofs.BitLaws.{from-true, from_false}
use Rattle.sums.specs.Bounded.{any_below}
use Rattle.sums.proofs.BoundedLaws.{none-below→}
use Rattle.locate.specs.Rows.{ClosedBoundary, ring_checked}

module _ (p : List ℤ) (h : List ℕ) (cx cy : Float) (start size : ℕ) where
  abbrev meets : Bool
  meets = any_below size (λ k. origin_at_center p h cx cy (edge_at h start k))

  pub no-center : valid_center cx cy ≡ false → refused 6 0 ≡ ring_checked p h cx cy start size
  unfolding ring_checked
  no-center e = rw e

  pub met-center : meets ≡ true → refused 6 0 ≡ ring_checked p h cx cy start size
  unfolding ring_checked
  met-center e = go (not (valid_center cx cy)) meets e
    where
      go : (a b : Bool) → b ≡ true → refused 6 0 ≡ cond (a || b) (refused 6 0) (cond (not (is_strict full_turn (angles_of p h cx cy start size))) (refused 7 0) (Ok tt))
      go true b e = refl
      go false b e = rw e

  pub not-strict : valid_center cx cy ≡ true → meets ≡ false → is_strict full_turn (angles_of p h cx cy start size) ≡ false → refused 7 0 ≡ ring_checked p h cx cy start size
  unfolding ring_checked
  not-strict e f g = rw (e, f, g)

  pub strict : valid_center cx cy ≡ true → meets ≡ false → is_strict full_turn (angles_of p h cx cy start size) ≡ true → (Ok tt) ≡ ring_checked p h cx cy start size
  unfolding ring_checked
  strict e f g = rw (e, f, g)

-- no edge of the round starts at the centre, so none of the walk does
pub angled : {p : List ℤ} {h : List ℕ} {start size : ℕ} → ClosedBoundary p h start size → (cx cy : Float) → valid_center cx cy ≡ true → any_below size (λ k. origin_at_center p h cx cy (edge_at h start k)) ≡ false
    → AngledBoundary p h cx cy start × (edge_at h start size ≡ start)
angled {p} {h} {start} {size} B cx cy v n = (record { rows = B.rows; valid = from-true v; apart = λ k. not_T (origin_at_center p h cx cy (edge_at h start k)) (away k) }, B.closed)
  where
    away : (k : ℕ) → T (origin_at_center p h cx cy (edge_at h start k)) → ⊥
    away k t =
        let r = B.round k in
        none-below→ size (λ j. origin_at_center p h cx cy (edge_at h start j)) (from_false n) r.0 r.1 (subst (λ (e : ℕ). T (origin_at_center p h cx cy e)) (sym r.2) t)
