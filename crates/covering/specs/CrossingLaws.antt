-- Crossings of an edge: antisymmetric, so a cochain of a mesh, and by the ends' heights. Assumes nothing.
use Rattle.std.specs.Prelude.{◌≡◌, refl, [], ◌∷◌, Bool, true, false, not, ◌&&◌, ℕ, pos, neg_ℤ, ◌-ℤ◌, ◌<ℤ◌, ◌≤ℤ◌}
use Rattle.std.proofs.Common.{sym, ◌∙◌, ap, true≢false}
use Rattle.std.specs.Int.Signed.{lt_z, lt_z_yes, lt_z_no}
use Rattle.algebra.specs.Ring.{◌⊕◌, ◌⊖◌, ⊝◌}
use Rattle.algebra.proofs.RingLaws.{v0, v1, v2, ring}
use Rattle.sums.specs.Bit.{bit}
use Rattle.sums.proofs.BitLaws.{from-true, from_false}
use Rattle.sums.proofs.HalfLaws.{rev-rev}
use Rattle.math.specs.declared.Point.{Point}
use Rattle.math.specs.Determinant.{orient2d}
use Rattle.mesh.specs.declared.Counts.{Counts}
use Rattle.mesh.specs.Mesh.{Links, to}
use Rattle.mesh.specs.Cochain.{Cochain}
use Rattle.covering.specs.Crossing.{under, rises, crossing, crossings, edge_crossing}

-- the reverse edge crosses the other way
pub crossing_back : (q a b : Point) → crossing q b a ≡ neg_ℤ (crossing q a b)
unfolding crossing
crossing_back q a b = ring (pos (bit (rises q a b)) ∷ pos (bit (rises q b a)) ∷ []) (v1 ⊖ v0) (⊝ (v0 ⊖ v1)) refl

-- a triangle's crossings from any of its corners
pub crossings-next : (q a b c : Point) → crossings q a b c ≡ crossings q b c a
crossings-next q a b c = ring (crossing q a b ∷ crossing q b c ∷ crossing q c a ∷ []) (v0 ⊕ v1 ⊕ v2) (v1 ⊕ v2 ⊕ v0) refl

-- both ends on one side of the ray's height: no crossing
pub crossing-level : (q a b : Point) → under q a ≡ under q b → crossing q a b ≡ pos 0
unfolding crossing
crossing-level q a b = go (under q a) (under q b) (lt_z (pos 0) (orient2d a b q)) (lt_z (pos 0) (orient2d b a q))
  where
    go : (s t x y : Bool) → s ≡ t → pos (bit (s && (not t && x))) -ℤ pos (bit (t && (not s && y))) ≡ pos 0
    go true true x y e = refl
    go false false x y e = refl
    go true false x y e = absurd (true≢false e)
    go false true x y e = absurd (true≢false (sym e))

-- from under it to above
pub crossing-up : (q a b : Point) → under q a ≡ true → under q b ≡ false → crossing q a b ≡ pos (bit (lt_z (pos 0) (orient2d a b q)))
unfolding crossing
crossing-up q a b = go (under q a) (under q b) (lt_z (pos 0) (orient2d a b q)) (lt_z (pos 0) (orient2d b a q))
  where
    go : (s t x y : Bool) → s ≡ true → t ≡ false → pos (bit (s && (not t && x))) -ℤ pos (bit (t && (not s && y))) ≡ pos (bit x)
    go true false true y d e = refl
    go true false false y d e = refl
    go true true x y d e = absurd (true≢false e)
    go false t x y d e = absurd (true≢false (sym d))

pub crossing-down : (q a b : Point) → under q a ≡ false → under q b ≡ true
    → crossing q a b ≡ neg_ℤ (pos (bit (lt_z (pos 0) (orient2d b a q))))
crossing-down q a b d e = crossing_back q b a ∙ ap neg_ℤ (crossing-up q b a e d)

-- ---- heights
pub under-yes : (q a : Point) → under q a ≡ true → a.y <ℤ q.y
under-yes q a e = lt_z_yes (from-true e)

pub under-no : (q a : Point) → under q a ≡ false → q.y ≤ℤ a.y
under-no q a e = lt_z_no (from_false e)

-- ---- crossings are a cochain
pub crossing-cochain : {C : Counts} (L : Links) (p : ℕ → Point) (q : Point) → Cochain C (edge_crossing L p q)
crossing-cochain L p q = record {
  odd = λ {e} l.
      ap (λ (d : ℕ). crossing q (p (to L e)) (p (L.origin d))) (rev-rev e) ∙ crossing_back q (p (L.origin e)) (p (to L e));
}
