-- `hull_center_rows::less_three` meets its contract: no operation overflows. Assumes nothing.
use mathlib.Core.List.{[], ◌∷◌}
use mathlib.Core.Path.{◌≡◌, ◌∙◌, ap, ap₂}
use Prim.Native.Nat.{◌≤◌}
use lib.IntN.{ℤ, pos, nat_abs, ◌-ℤ◌, ◌*ℤ◌}
use mir.Syntax.{w32}
use mir.Val.{to_z, of_z}
use mir.Facts.{to_z-of_z}
use Rattle.algebra.specs.Ring.{◌⊖◌, ◌⊗◌}
use Rattle.algebra.proofs.RingLaws.{#◌, v0, v1}
use Rattle.algebra.proofs.Bound.{Env, []ᵉ, ◌∷ᵉ◌, fits64, reads64, small-fits}
use Rattle.hull_center_rows.specs.Side.{less_three}
use Rattle.hull_center_rows.proofs.less_three.Goals as goal

-- a coordinate of the point, and the number r that it is
read : (z : ℤ) {r : ℤ} → r ≡ to_z w32 (of_z w32 z) → nat_abs z ≤ 16777216 → r ≡ z
read z e i = e ∙ to_z-of_z (small-fits w32 {z = z} i tt)

env : (z : ℤ) {s r : ℤ} → nat_abs s ≤ 50331648 → r ≡ to_z w32 (of_z w32 z) → nat_abs z ≤ 16777216
    → Env (s ∷ r ∷ []) (50331648 ∷ 16777216 ∷ [])
env z {s} {r} h e i = let a : nat_abs r ≤ 16777216 = rw (read z e i) i in h ∷ᵉ a ∷ᵉ []ᵉ

pub overflow_mul-result : goal.overflow_mul-result
overflow_mul-result c =
    fits64 (env c.args.a.x {s = c.args.sum.x} c.requires.0.x c.from.ensures c.requires.1.x) (# 3 ⊗ v1) tt

pub overflow_sub-result : goal.overflow_sub-result
overflow_sub-result c =
    fits64 (env c.args.a.x {s = c.args.sum.x} c.requires.0.x c.from.ensures c.requires.1.x) (v0 ⊖ # 3 ⊗ v1) tt

pub overflow_mul-result-2 : goal.overflow_mul-result-2
overflow_mul-result-2 c =
    fits64 (env c.args.a.y {s = c.args.sum.y} c.requires.0.y c.from-2.ensures c.requires.1.y) (# 3 ⊗ v1) tt

pub overflow_sub-result-2 : goal.overflow_sub-result-2
overflow_sub-result-2 c =
    fits64 (env c.args.a.y {s = c.args.sum.y} c.requires.0.y c.from-2.ensures c.requires.1.y) (v0 ⊖ # 3 ⊗ v1) tt

pub returns : goal.returns
unfolding less_three
returns c =
    let a = c.args in let p = c.requires.0 in let q = c.requires.1 in
    ap₂ (λ (x y : ℤ). record { x = x; y = y })
    (reads64 (env a.a.x {s = a.sum.x} p.x c.from.ensures q.x) (v0 ⊖ # 3 ⊗ v1) tt
    ∙ ap (λ (z : ℤ). a.sum.x -ℤ pos 3 *ℤ z) (read a.a.x c.from.ensures q.x))
    (reads64 (env a.a.y {s = a.sum.y} p.y c.from-2.ensures q.y) (v0 ⊖ # 3 ⊗ v1) tt
    ∙ ap (λ (z : ℤ). a.sum.y -ℤ pos 3 *ℤ z) (read a.a.y c.from-2.ensures q.y))
