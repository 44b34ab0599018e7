-- `math::wide::split` meets its contract: the shift rounds down, and what is left is below 2 ^ 26.
-- Assumes nothing.
use mathlib.Core.Path.{◌≡◌, sym, ◌∙◌, ap, subst}
use mathlib.Core.List.{[], ◌∷◌}
use Prim.Native.Nat.{◌≤◌}
use native.Mathlib.Omega.{arith}
use lib.IntN.{ℤ, pos, nat_abs, ◌-ℤ◌, ◌*ℤ◌}
use lib.Signed.{shr_z}
use mir.Syntax.{w64}
use mir.Val.{to_z, of_z}
use mir.Facts.{to_z-of_z}
use Rattle.algebra.specs.Ring.{E, num, ◌⊖◌, ◌⊗◌}
use Rattle.algebra.proofs.RingLaws.{v0, v1}
use Rattle.algebra.proofs.Bound.{Env, []ᵉ, ◌∷ᵉ◌, fits64, reads64}
use Rattle.math.proofs.WideLaws.{shr-abs, split-of}
use Rattle.math.proofs.wide.split.Goals as goal

abbrev K : E
K = num (pos 67108864)

pub overflow_mul-lo : goal.overflow_mul-lo
overflow_mul-lo c =
    let hi : ℤ = shr_z (to_z w64 (of_z w64 c.args.x)) 67108864 in
    let hi-is : hi ≡ shr_z c.args.x 67108864 = ap (λ (z : ℤ). shr_z z 67108864) (to_z-of_z c.ranges.x) in
    let hi_small : nat_abs (hi) ≤ 536870913 = subst (λ (z : ℤ). nat_abs z ≤ 536870913) (sym (hi-is)) (omega (arith, shr-abs c.args.x, c.requires)) in
    let env : Env (c.args.x ∷ hi ∷ []) (36028797018963968 ∷ 536870913 ∷ []) = c.requires ∷ᵉ hi_small ∷ᵉ []ᵉ in
    fits64 (env) (v1 ⊗ K) tt

pub overflow_sub-lo : goal.overflow_sub-lo
overflow_sub-lo c =
    let hi : ℤ = shr_z (to_z w64 (of_z w64 c.args.x)) 67108864 in
    let hi-is : hi ≡ shr_z c.args.x 67108864 = ap (λ (z : ℤ). shr_z z 67108864) (to_z-of_z c.ranges.x) in
    let hi_small : nat_abs (hi) ≤ 536870913 = subst (λ (z : ℤ). nat_abs z ≤ 536870913) (sym (hi-is)) (omega (arith, shr-abs c.args.x, c.requires)) in
    let env : Env (c.args.x ∷ hi ∷ []) (36028797018963968 ∷ 536870913 ∷ []) = c.requires ∷ᵉ hi_small ∷ᵉ []ᵉ in
    fits64 (env) (v0 ⊖ v1 ⊗ K) tt

pub returns : goal.returns
returns c =
    let hi : ℤ = shr_z (to_z w64 (of_z w64 c.args.x)) 67108864 in
    let hi-is : hi ≡ shr_z c.args.x 67108864 = ap (λ (z : ℤ). shr_z z 67108864) (to_z-of_z c.ranges.x) in
    let hi_small : nat_abs (hi) ≤ 536870913 = subst (λ (z : ℤ). nat_abs z ≤ 536870913) (sym (hi-is)) (omega (arith, shr-abs c.args.x, c.requires)) in
    let env : Env (c.args.x ∷ hi ∷ []) (36028797018963968 ∷ 536870913 ∷ []) = c.requires ∷ᵉ hi_small ∷ᵉ []ᵉ in
    let h = reads64 (env) v1 tt in
    split-of c.args.x _ _ (h ∙ hi-is) (reads64 (env) (v0 ⊖ v1 ⊗ K) tt ∙ ap (λ (z : ℤ). c.args.x -ℤ z *ℤ pos 67108864) (sym h))
