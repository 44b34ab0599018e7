-- `hull_center_rows::cross` meets its contract: no operation overflows. Assumes nothing.
use mathlib.Core.List.{[], ◌∷◌}
use Rattle.algebra.specs.Ring.{◌⊖◌, ◌⊗◌}
use Rattle.algebra.proofs.RingLaws.{v0, v1, v2, v3}
use Rattle.algebra.proofs.Bound.{Env, []ᵉ, ◌∷ᵉ◌, fits64, reads64}
use Rattle.hull_center.specs.declared.PositionSum.{PositionSum}
use Rattle.math.specs.declared.Vector.{Vector}
use Rattle.math.specs.Vector.{Short}
use Rattle.hull_center_rows.specs.Side.{WideSum, cross_sum}
use Rattle.hull_center_rows.proofs.cross.Goals as goal

env : {d : Vector} {s : PositionSum} → Short d → WideSum s
    → Env (d.x ∷ d.y ∷ s.x ∷ s.y ∷ []) (33554432 ∷ 33554432 ∷ 100663296 ∷ 100663296 ∷ [])
env p q = p.x ∷ᵉ p.y ∷ᵉ q.x ∷ᵉ q.y ∷ᵉ []ᵉ

pub overflow_mul-result : goal.overflow_mul-result
overflow_mul-result c =
    fits64 (env c.requires.0 c.requires.1) (v0 ⊗ v3) tt

pub overflow_mul-result-2 : goal.overflow_mul-result-2
overflow_mul-result-2 c =
    fits64 (env c.requires.0 c.requires.1) (v1 ⊗ v2) tt

pub overflow_sub-result : goal.overflow_sub-result
overflow_sub-result c =
    fits64 (env c.requires.0 c.requires.1) (v0 ⊗ v3 ⊖ v1 ⊗ v2) tt

pub returns : goal.returns
unfolding cross_sum
returns c =
    reads64 (env c.requires.0 c.requires.1) (v0 ⊗ v3 ⊖ v1 ⊗ v2) tt
