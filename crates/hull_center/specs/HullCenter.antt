-- When the sweep of a bare list of points may start, and its centre. 02, Change 6: "until `try_get_hull_center` and
-- `Hull::from_triangulation` succeed with a strict ring", "The centre is worked out with the Rust's own float steps."
-- Definitions only; each computes. `Exact` and `Laws` have the laws.
use Rattle.std.specs.Prelude.{Bool, false, not, ◌&&◌, ℕ, suc, ◌-◌, ◌≤◌, ltb, Float, ℤ, pos, negsuc, nat_abs, ◌+ℤ◌, ◌*ℤ◌}
use Rattle.std.specs.Float.{fin, binary64}
use Rattle.std.specs.Float.Ieee.{mul, of_int}
use Rattle.std.specs.Int.Signed.{lt_z}
use Rattle.angle.specs.declared.Point2.{Point2}
use Rattle.math.specs.declared.Point.{Point}
use Rattle.math.specs.Determinant.{orient2d}
use Rattle.mesh.specs.declared.Counts.{Counts}
use Rattle.mesh.specs.Mesh.{Links, to}
use Rattle.ring.specs.Center.{refuses_center, refuses_ring}
use Rattle.sums.specs.Bounded.{any_below}
use Rattle.hull_center.specs.declared.PositionSum.{PositionSum}

-- ---- the centre
-- 000: `sum_x` and `sum_y`, over the three vertices that were added last. The Rust adds them as floats from 0.0 on; for
-- whole coordinates in range each sum is exact, so that whole numbers, made a float once, are the same (`rust-steps`)
unfoldable pub last_three : Counts → (ℕ → Point) → PositionSum
last_three C p = let n = C.vertices in record {
  x = (p (n - 3)).x +ℤ (p (n - 2)).x +ℤ (p (n - 1)).x;
  y = (p (n - 3)).y +ℤ (p (n - 2)).y +ℤ (p (n - 1)).y;
}

-- such a sum is at most 3 * 2 ^ 24 in size (`sum-small`)
pub record SmallSum (s : PositionSum) : Type 0 where
  pub x : nat_abs s.x ≤ 50331648
  pub y : nat_abs s.y ≤ 50331648

-- 000: "1f32 / 3f32", which is 11184811 / 2 ^ 25 (`third-is`); as an f64 it is the same number
abbrev pub third : Float
third = fin false 11184811 (negsuc 24)

unfoldable pub center_coordinate : ℤ → Float
center_coordinate z = mul binary64 (of_int binary64 z) third

unfoldable pub center_of : PositionSum → Point2
center_of s = record { x = center_coordinate s.x; y = center_coordinate s.y }

unfoldable pub hull_center : Counts → (ℕ → Point) → Point2
hull_center C p = center_of (last_three C p)

-- ---- where it lies. It is a whole number of 2 ^ -25 (`center-exact`), so that its side of a line is decided in whole numbers of these
unfoldable pub fine_center : PositionSum → Point
fine_center s = record { x = s.x *ℤ pos 11184811; y = s.y *ℤ pos 11184811 }

unfoldable pub scaled : Point → Point
scaled a = record { x = a.x *ℤ pos 33554432; y = a.y *ℤ pos 33554432 }

-- the centre is strictly left of the line from a to b
unfoldable pub is_center_left : Point → Point → PositionSum → Bool
is_center_left a b s = lt_z (pos 0) (orient2d (scaled a) (scaled b) (fine_center s))

-- strictly left of half-edge e
unfoldable pub is_center_left_of : Links → (ℕ → Point) → PositionSum → ℕ → Bool
is_center_left_of L p s e = is_center_left (p (L.origin e)) (p (to L e)) s

-- strictly inside the triangle of a
unfoldable pub holds_center_at : Links → (ℕ → Point) → PositionSum → ℕ → Bool
holds_center_at L p s a =
    is_center_left_of L p s a && (is_center_left_of L p s (L.next a) && is_center_left_of L p s (L.next (L.next a)))

-- 000: `OnFace`. An inner face holds the centre strictly inside
unfoldable pub holds_center : Counts → Links → (ℕ → Point) → Bool
holds_center C L p = any_below (C.faces - 1) (λ f. holds_center_at L p (last_three C p) (L.adjacent (suc f)))

-- ---- the start
-- 01's refusals 6 and 7 let the centre (cx, cy) pass: the boundary has a strict ring about it
unfoldable pub accepts_center : Counts → Links → (ℕ → Point) → Float → Float → Bool
accepts_center C L p cx cy = not (refuses_center C L p cx cy) && not (refuses_ring C L p cx cy)

-- there is a triangle, one of them holds the centre, and the ring is strict
unfoldable pub is_ready : Counts → Links → (ℕ → Point) → Bool
is_ready C L p = ltb 1 C.faces && (holds_center C L p && accepts_center C L p (hull_center C p).x (hull_center C p).y)
