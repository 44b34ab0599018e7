-- How an edge crosses the ray from a point q to the east, half-open: an end on the ray's height counts as above it.
-- Definitions only; `CrossingLaws` has the laws.
use Rattle.std.specs.Prelude.{Bool, not, ◌&&◌, ℕ, ℤ, pos, ◌+ℤ◌, ◌-ℤ◌}
use Rattle.std.specs.Int.Signed.{lt_z}
use Rattle.sums.specs.Bit.{bit}
use Rattle.math.specs.declared.Point.{Point}
use Rattle.math.specs.Determinant.{orient2d}
use Rattle.mesh.specs.Mesh.{Links, to}

-- a is lower than q
abbrev pub under : Point → Point → Bool
under q a = lt_z a.y q.y

-- the edge from a to b rises past q's height, with q strictly to its left
abbrev pub rises : Point → Point → Point → Bool
rises q a b = under q a && (not (under q b) && lt_z (pos 0) (orient2d a b q))

-- 1 where it rises so, -1 where its reverse does, else 0: how often it crosses the ray, with its direction
unfoldable pub crossing : Point → Point → Point → ℤ
crossing q a b = pos (bit (rises q a b)) -ℤ pos (bit (rises q b a))

-- the three edges of a triangle together
abbrev pub crossings : Point → Point → Point → Point → ℤ
crossings q a b c = crossing q a b +ℤ crossing q b c +ℤ crossing q c a

-- how the half-edge e crosses the ray from q
abbrev pub edge_crossing : Links → (ℕ → Point) → Point → ℕ → ℤ
edge_crossing L p q e = crossing q (p (L.origin e)) (p (to L e))
