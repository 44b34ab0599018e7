-- `volume::less_level` meets its contract: numbers of 32 bits are widened, and nothing overflows. Assumes nothing.
use mathlib.Core.Path.{◌∙◌, ap₂}
use mathlib.Core.List.{[], ◌∷◌}
use Prim.Native.Nat.{◌≤◌}
use lib.IntN.{ℤ, nat_abs, pos, ◌+ℤ◌, ◌-ℤ◌, ◌*ℤ◌}
use lib.Signed.{nat_abs-le}
use mir.Syntax.{w32}
use mir.Val.{SFits, to_z, of_z}
use mir.Facts.{to_z-of_z}
use Rattle.algebra.specs.Ring.{◌⊕◌, ◌⊖◌, ◌⊗◌}
use Rattle.algebra.proofs.RingLaws.{v0, v1, v2, v3, #◌}
use Rattle.algebra.proofs.Bound.{Env, []ᵉ, ◌∷ᵉ◌, fits64, reads64}
use Rattle.volume.proofs.less_level.Goals as goal

-- a number as the machine reads it
abbrev rd : ℤ → ℤ
rd z = to_z w32 (of_z w32 z)

small : {z : ℤ} → SFits w32 z → nat_abs (rd z) ≤ 2147483648
small {z} f = rw (to_z-of_z f) (nat_abs-le z f.sfits)

env : {x y z l : ℤ} → SFits w32 x → SFits w32 y → SFits w32 z → SFits w32 l
    → Env (rd x ∷ rd y ∷ rd z ∷ rd l ∷ []) (2147483648 ∷ 2147483648 ∷ 2147483648 ∷ 2147483648 ∷ [])
env f g h k = small f ∷ᵉ small g ∷ᵉ small h ∷ᵉ small k ∷ᵉ []ᵉ

pub overflow_cast-result : goal.overflow_cast-result
overflow_cast-result c =
    let f = c.ranges in fits64 (env f.x f.y f.z f.level) v0 tt

pub overflow_cast-result-2 : goal.overflow_cast-result-2
overflow_cast-result-2 c =
    let f = c.ranges in fits64 (env f.x f.y f.z f.level) v1 tt

pub overflow_add-result : goal.overflow_add-result
overflow_add-result c =
    let f = c.ranges in fits64 (env f.x f.y f.z f.level) (v0 ⊕ v1) tt

pub overflow_cast-result-3 : goal.overflow_cast-result-3
overflow_cast-result-3 c =
    let f = c.ranges in fits64 (env f.x f.y f.z f.level) v2 tt

pub overflow_add-result-2 : goal.overflow_add-result-2
overflow_add-result-2 c =
    let f = c.ranges in fits64 (env f.x f.y f.z f.level) (v0 ⊕ v1 ⊕ v2) tt

pub overflow_cast-result-4 : goal.overflow_cast-result-4
overflow_cast-result-4 c =
    let f = c.ranges in fits64 (env f.x f.y f.z f.level) v3 tt

pub overflow_mul-result : goal.overflow_mul-result
overflow_mul-result c =
    let f = c.ranges in fits64 (env f.x f.y f.z f.level) (# 3 ⊗ v3) tt

pub overflow_sub-result : goal.overflow_sub-result
overflow_sub-result c =
    let f = c.ranges in fits64 (env f.x f.y f.z f.level) (v0 ⊕ v1 ⊕ v2 ⊖ # 3 ⊗ v3) tt

pub returns : goal.returns
returns c =
    let f = c.ranges in
    reads64 (env f.x f.y f.z f.level) (v0 ⊕ v1 ⊕ v2 ⊖ # 3 ⊗ v3) tt
    ∙ ap₂ (λ (s l : ℤ). s -ℤ pos 3 *ℤ l)
    (ap₂ ◌+ℤ◌ (ap₂ ◌+ℤ◌ (to_z-of_z f.x) (to_z-of_z f.y)) (to_z-of_z f.z)) (to_z-of_z f.level)
