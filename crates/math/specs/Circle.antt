-- What `incircle` says of the circle of a, b and c. Its centre is the point (centreX / k, centreY / k), where k is four
-- times the signed area of a b c; all is said of k times the coordinates, so that every number is whole.
-- Assumes nothing.
use Rattle.std.specs.Prelude.{pos, ◌*ℤ◌}
use Rattle.std.proofs.Math.IntN.{ℤ}
use Rattle.math.specs.declared.Point.{Point}
use Rattle.math.specs.Determinant.{Ops, Pt, Lift, ℤ·, pt, orient2d}

-- ---- the circle through a, b and c
module _ {R : Type 0} (o : Ops R) where
  open o use {◌⊞◌, ◌⊟◌, ◌⊠◌}

  abbrev pub CentreX : Pt R → Pt R → Pt R → R
  CentreX a b c = Lift o a ⊠ (b.y ⊟ c.y) ⊞ Lift o b ⊠ (c.y ⊟ a.y) ⊞ Lift o c ⊠ (a.y ⊟ b.y)

  abbrev pub CentreY : Pt R → Pt R → Pt R → R
  CentreY a b c = Lift o a ⊠ (c.x ⊟ b.x) ⊞ Lift o b ⊠ (a.x ⊟ c.x) ⊞ Lift o c ⊠ (b.x ⊟ a.x)

  -- the squared distance of k times p from m
  abbrev pub Distance2 : R → R → R → Pt R → R
  Distance2 k mx my p = (k ⊠ p.x ⊟ mx) ⊠ (k ⊠ p.x ⊟ mx) ⊞ (k ⊠ p.y ⊟ my) ⊠ (k ⊠ p.y ⊟ my)

abbrev pub scale : Point → Point → Point → ℤ
scale a b c = pos 2 *ℤ orient2d a b c

-- k² times the squared distance of p from the centre
unfoldable pub from_centre : Point → Point → Point → Point → ℤ
from_centre a b c p = Distance2 ℤ· (scale a b c) (CentreX ℤ· (pt a) (pt b) (pt c)) (CentreY ℤ· (pt a) (pt b) (pt c)) (pt p)
