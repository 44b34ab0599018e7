-- The circle rule at an edge, and a mesh that keeps it everywhere: by the test that the code makes, and by the circles
-- themselves. Definitions only; the laws are in `CircleLaws`, where both are shown to say the same, and in `FlipRun`.
use Rattle.std.specs.Prelude.{Bool, false, ◌&&◌, ◌≡◌, ℕ, ◌*◌, ◌+◌, ◌<◌, ltb, pos, ◌<ℤ◌}
use Rattle.std.specs.Int.Signed.{lt_z}
use Rattle.math.specs.declared.Point.{Point}
use Rattle.math.specs.Circle.{from_centre}
use Rattle.sums.specs.Half.{rev}
use Rattle.mesh.specs.declared.Counts.{Counts}
use Rattle.mesh.specs.Mesh.{Links, In}
use Rattle.mesh.specs.Area.{at_corners, circle_at}

-- 01: "both half-edges of edge u have a far vertex and that of 2u+1 is strictly inside the circle of 2u's triangle"; "a
-- half-edge of the outer face has no far vertex"
unfoldable pub breaks_circle : Links → (ℕ → Point) → ℕ → Bool
breaks_circle L p u = ltb 0 (L.face (2 * u)) && (ltb 0 (L.face (2 * u + 1)) && lt_z (pos 0) (circle_at L p (2 * u)))

-- no edge breaks the rule; `settled-far` and `far-settled` in `CircleLaws` say that this is `LocallyDelaunay`
pub record Settled (C : Counts) (L : Links) (p : ℕ → Point) : Type 0 where
  pub edge : {u : ℕ} → u < C.edges → breaks_circle L p u ≡ false

-- ---- the same by circles
-- The point q is strictly inside the circle of the triangle f: nearer to the circle's centre than the triangle's
-- corners are. `from_centre` of crate math is the square of the distance from the centre, times a positive number that
-- depends on the triangle alone and makes it whole.
-- 01: "Triangles are the inner faces."
abbrev pub InsideCircle : Links → (ℕ → Point) → ℕ → Point → Type 0
InsideCircle L p f q =
    at_corners (λ a b c. from_centre a b c q) L p (L.adjacent f)
    <ℤ at_corners (λ a b c. from_centre a b c a) L p (L.adjacent f)

-- No triangle's circle strictly contains a neighbour's far vertex: of each half-edge e with a triangle on both sides,
-- the circle of its own triangle does not contain the far vertex of its reverse.
-- 01: "The neighbour's far vertex over a half-edge is the far vertex of its reverse, where that has one", "A far vertex
-- is the origin of prev".
pub record LocallyDelaunay (C : Counts) (L : Links) (p : ℕ → Point) : Type 0 where
  pub outside : {e : ℕ} → In C e → 0 < L.face e → 0 < L.face (rev e)
      → InsideCircle L p (L.face e) (p (L.origin (L.prev (rev e)))) → ⊥
