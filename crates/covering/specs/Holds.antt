-- Points that a triangle holds. Definitions only.
use Rattle.std.specs.Prelude.{ℕ, ◌<◌, pos, ◌≤ℤ◌}
use Rattle.math.specs.declared.Point.{Point}
use Rattle.math.specs.Determinant.{orient2d}
use Rattle.mesh.specs.declared.Counts.{Counts}
use Rattle.mesh.specs.Mesh.{Links, to}

-- q is in the closed triangle a b c, which turns left
pub record Holds (q a b c : Point) : Type 0 where
  pub ab : pos 0 ≤ℤ orient2d a b q
  pub bc : pos 0 ≤ℤ orient2d b c q
  pub ca : pos 0 ≤ℤ orient2d c a q

-- the triangle of e holds q
abbrev pub HoldsAt : Links → (ℕ → Point) → Point → ℕ → Type 0
HoldsAt L p q e = Holds q (p (L.origin e)) (p (to L e)) (p (L.origin (L.prev e)))

-- the triangle f holds z, by its stored edge
pub record HoldsFace (C : Counts) (L : Links) (p : ℕ → Point) (z : Point) (f : ℕ) : Type 0 where
  pub inner : 0 < f
  pub below : f < C.faces
  pub holds : HoldsAt L p z (L.adjacent f)
