-- `math::wide::sum_sign` meets its contract: where the magnitudes total less than 2 ^ 31, no product and no sum overflows.
-- Assumes nothing.
use mathlib.Core.Path.{◌≡◌, ◌∙◌, ap}
use mathlib.Core.List.{[], ◌∷◌}
use Prim.Native.Nat.{◌≤◌}
use native.Mathlib.Omega.{arith}
use borrow.Author.Rules.{sfits_of}
use lib.IntN.{ℤ, nat_abs}
use mir.Syntax.{w64}
use mir.Facts.{to_z-of_z}
use Rattle.algebra.specs.Ring.{◌⊕◌, ◌⊗◌}
use Rattle.algebra.proofs.RingLaws.{v0, v1, v2, v3}
use Rattle.algebra.proofs.Bound.{Env, []ᵉ, ◌∷ᵉ◌, fits64, reads64}
use Rattle.math.specs.Wide.{sgn, total_of}
use Rattle.math.proofs.wide.sum_sign.Goals as goal

-- numbers whose magnitudes total less than 2 ^ 31
small : (x y z w : ℤ) → total_of x y z w ≤ 2147483647 → Env (x ∷ y ∷ z ∷ w ∷ []) (2147483647 ∷ 2147483647 ∷ 2147483647 ∷ 2147483647 ∷ [])
unfolding total_of
small x y z w h =
    let a : nat_abs x ≤ 2147483647 = omega arith in
    let b : nat_abs y ≤ 2147483647 = omega arith in
    let c : nat_abs z ≤ 2147483647 = omega arith in
    let d : nat_abs w ≤ 2147483647 = omega arith in
    a ∷ᵉ b ∷ᵉ c ∷ᵉ d ∷ᵉ []ᵉ

pub sum_sign_wide-requires : goal.sum_sign_wide-requires
sum_sign_wide-requires c =
    let f = c.ranges in let p = c.requires in
    let total : let a = c.args in c.magnitudes-total.result ≡ total_of a.x a.y a.z a.w = rw (to_z-of_z f.x, to_z-of_z f.y, to_z-of_z f.z, to_z-of_z f.w) at c.magnitudes-total.ensures in
    rw (to_z-of_z f.x, to_z-of_z f.y, to_z-of_z f.z, to_z-of_z f.w) (p.0, p.1, p.2, p.3, total)

pub returns-then-total-gt2147483647 : goal.returns-then-total-gt2147483647
returns-then-total-gt2147483647 c =
    let f = c.ranges in
    ap sgn (to_z-of_z {w = w64} (sfits_of c.sum_sign_wide.type_inv)) ∙ rw (to_z-of_z f.x, to_z-of_z f.y, to_z-of_z f.z, to_z-of_z f.w) at c.sum_sign_wide.ensures

pub overflow_mul-result : goal.overflow_mul-result
overflow_mul-result c =
    let f = c.ranges in let a = c.args in
    let total : c.magnitudes-total.result ≡ total_of a.x a.y a.z a.w = rw (to_z-of_z f.x, to_z-of_z f.y, to_z-of_z f.z, to_z-of_z f.w) at c.magnitudes-total.ensures in
    fits64 (small a.x a.y a.z a.w (omega arith)) (v0 ⊗ v1) tt

pub overflow_mul-result-2 : goal.overflow_mul-result-2
overflow_mul-result-2 c =
    let f = c.ranges in let a = c.args in
    let total : c.magnitudes-total.result ≡ total_of a.x a.y a.z a.w = rw (to_z-of_z f.x, to_z-of_z f.y, to_z-of_z f.z, to_z-of_z f.w) at c.magnitudes-total.ensures in
    fits64 (small a.x a.y a.z a.w (omega arith)) (v2 ⊗ v3) tt

pub overflow_add-result : goal.overflow_add-result
overflow_add-result c =
    let f = c.ranges in let a = c.args in
    let total : c.magnitudes-total.result ≡ total_of a.x a.y a.z a.w = rw (to_z-of_z f.x, to_z-of_z f.y, to_z-of_z f.z, to_z-of_z f.w) at c.magnitudes-total.ensures in
    fits64 (small a.x a.y a.z a.w (omega arith)) (v0 ⊗ v1 ⊕ v2 ⊗ v3) tt

pub returns : goal.returns
returns c =
    let f = c.ranges in let a = c.args in
    let total : c.magnitudes-total.result ≡ total_of a.x a.y a.z a.w = rw (to_z-of_z f.x, to_z-of_z f.y, to_z-of_z f.z, to_z-of_z f.w) at c.magnitudes-total.ensures in
    ap sgn (reads64 (small a.x a.y a.z a.w (omega arith)) (v0 ⊗ v1 ⊕ v2 ⊗ v3) tt)
