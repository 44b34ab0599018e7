-- The test of a mesh to walk on, once along its boundary. Definitions only, and each computes; `TestLaws` has the laws.
use Rattle.std.specs.Prelude.{Bool, ◌&&◌, ◌||◌, ◌≡◌, ℕ, eqb, pos}
use Rattle.std.specs.Int.Signed.{lt_z, le_z}
use Rattle.sums.specs.Bounded.{all_below}
use Rattle.math.specs.declared.Point.{Point}
use Rattle.math.specs.declared.Vector.{Vector}
use Rattle.math.specs.Vector.{cross_of, dot_of}
use Rattle.mesh.specs.declared.Counts.{Counts}
use Rattle.mesh.specs.Mesh.{Links, In}
use Rattle.mesh.specs.Area.{boundary_length, hull_edge}
use Rattle.outline.specs.Outline.{direction, full_circles}
use Rattle.outline.proofs.HalfPlaneLaws.{RightTurn}

-- direction v follows direction u with a right turn, so that u is on its left, or straight on
unfoldable pub is_right_turn : Vector → Vector → Bool
is_right_turn u v = lt_z (pos 0) (cross_of v u) || (le_z (pos 0) (cross_of v u) && lt_z (pos 0) (dot_of u v))

-- the corner from e to the next
abbrev pub turns_right : Links → (ℕ → Point) → ℕ → Bool
turns_right L p e = is_right_turn (direction L p e) (direction L p (L.next e))

-- THE TEST: every corner of the boundary turns right or goes straight on, and all together turn through one full circle
unfoldable pub is_walkable : Counts → Links → (ℕ → Point) → Bool
is_walkable C L p = all_below (boundary_length C L) (λ k. turns_right L p (hull_edge L k)) && eqb (full_circles C L p) 1

-- what it says of each corner
pub record RightTurns (C : Counts) (L : Links) (p : ℕ → Point) : Type 0 where
  pub turns : {e : ℕ} → In C e → L.face e ≡ 0 → RightTurn (direction L p e) (direction L p (L.next e))
