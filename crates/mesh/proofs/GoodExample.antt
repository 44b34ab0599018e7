-- `Good` can be met: the triangle of `Examples` with corners that turn left, and with a vertex added outside one of its edges. Assumes nothing.
use Rattle.std.specs.Prelude.{refl, List, [], ◌∷◌, ℕ, zero, suc, ◌<◌, get_or, ℤ, pos, ◌<ℤ◌}
use Rattle.std.proofs.Common.{arith}
use Rattle.math.specs.declared.Point.{Point}
use Rattle.math.specs.Determinant.{orient2d, InRange}
use Rattle.sums.specs.Half.{rev}
use Rattle.mesh.specs.Mesh.{Links}
use Rattle.mesh.specs.Operations.{create_new_face_adjacent_to_edge}
use Rattle.mesh.specs.Area.{at_corners}
use Rattle.mesh.specs.Good.{Good}
use Rattle.mesh.proofs.GoodLaws.{new-face-good}
use Rattle.mesh.specs.Examples.{seed, seed_counts, square_counts}
use Rattle.mesh.proofs.ExamplesLaws.{seed-wf}

abbrev points : List Point → ℕ → Point
points l i = get_or l i (record { x = pos 0; y = pos 0 })

abbrev at : ℤ → ℤ → Point
at x y = record { x = x; y = y }

-- ---- the square of side 4 with a diagonal: the vertex 3 beside the half-edge 3, from 2 to 1
pub quad : Links
unfolding create_new_face_adjacent_to_edge
quad = create_new_face_adjacent_to_edge seed seed_counts 3

pub corners : ℕ → Point
corners = points (at (pos 0) (pos 0) ∷ at (pos 4) (pos 0) ∷ at (pos 0) (pos 4) ∷ at (pos 4) (pos 4) ∷ [])

-- good: the triangle turns left and is in range, and (4, 4) is left of the half-edge 3
pub triangle-good : Good seed_counts seed corners
unfolding seed corners orient2d
triangle-good = record { wf = seed-wf; turning = record { left = λ {f} i l. turns f i l }; range = λ {v} l. held v l }
  where
    turns : (f : ℕ) → 0 < f → f < 2 → pos 0 <ℤ at_corners orient2d seed corners (seed.adjacent f)
    turns zero i l = absurd (omega arith)
    turns (suc zero) i l = record { lt = tt }
    turns (suc (suc f)) i l = absurd (omega arith)

    held : (v : ℕ) → v < 3 → InRange (corners v)
    held zero l = record { x = omega arith; y = omega arith }
    held (suc zero) l = record { x = omega arith; y = omega arith }
    held (suc (suc zero)) l = record { x = omega arith; y = omega arith }
    held (suc (suc (suc v))) l = absurd (omega arith)

pub quad-good : Good square_counts quad corners
unfolding seed quad corners orient2d rev
quad-good = new-face-good triangle-good {e = 3} (omega arith) refl (λ v l. refl) (record { x = omega arith; y = omega arith }) (record { lt = tt })
