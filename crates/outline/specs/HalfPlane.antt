-- Half-planes as tests on vectors, whose edge may go to either side: `left a`, strictly left of the direction a, and
-- the upper half-plane of `Outline`, which is of the direction due east.
-- Assumes nothing.
use Rattle.std.specs.Prelude.{◌≡◌, refl, ◌⊎◌, List, [], ◌∷◌, Bool, not, ◌&&◌, T, ℤ, pos, ◌<ℤ◌, ◌≤ℤ◌}
use Rattle.std.proofs.Math.Logic.{inl, inr, ⊎_elim}
use Rattle.std.proofs.Common.{T_not}
use Rattle.std.specs.Int.Signed.{lt_z, le_z, lt_z_yes, lt_z_no, le_z_yes}
use Rattle.algebra.specs.Ring.{var, ◌⊖◌, ◌⊗◌, ⊝◌}
use Rattle.algebra.proofs.RingLaws.{#◌}
use Rattle.algebra.proofs.Order.{lt-le}
use Rattle.algebra.proofs.Sign.{Pos, NN, ◌*⁺◌, ◌*°◌, ◌+⁺◌, ◌+°◌, weak, sq, pos-in, nn-in, lt_in, le-by, lt_by, cases, refute, eq-in, eq-by, zero°, ◌*⁰◌}
use Rattle.math.specs.declared.Vector.{Vector}
use Rattle.math.specs.Determinant.{Dot}
use Rattle.math.proofs.Plane.{E·, A, B, C}
use Rattle.math.specs.Vector.{cross_of, dot_of}
use Rattle.sums.proofs.BitLaws.{or_cases, or_left, or_right, and_left, and_right, and_both}
use Rattle.outline.specs.Outline.{upper}

-- v' points where v does
pub record SameWay (v v' : Vector) : Type 0 where
  pub parallel : cross_of v v' ≡ pos 0
  pub ahead : pos 0 <ℤ dot_of v v'

-- h is the half-plane left of the direction a; it holds all or nothing of a ray
pub record HalfPlane (a : Vector) (h : Vector → Bool) : Type 0 where
  pub inside : (v : Vector) → T (h v) → pos 0 ≤ℤ cross_of a v
  pub outside : (v : Vector) → T (not (h v)) → cross_of a v ≤ℤ pos 0
  pub ray : (v v' : Vector) → SameWay v v' → T (h v) → T (h v')

-- ---- the open half-plane
unfoldable pub left : Vector → Vector → Bool
left a v = lt_z (pos 0) (cross_of a v)

-- ---- the upper half-plane
unfoldable pub east : Vector
east = record { x = pos 1; y = pos 0 }

-- ---- the lower half-plane is the upper one's opposite
