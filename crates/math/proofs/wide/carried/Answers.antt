-- `math::wide::carried` meets its contract. With l the digits of lo and m those of mid + l.hi, the number is (hi + m.hi) * 2 ^ 52 + (m.lo * 2 ^ 26 + l.lo).
-- Assumes nothing.
use mathlib.Core.Path.{◌≡◌, sym, ◌∙◌, ap}
use mathlib.Core.List.{[], ◌∷◌}
use Prim.Native.Nat.{◌≤◌}
use native.Mathlib.Omega.{arith}
use lib.IntN.{pos, nat_abs, ◌+ℤ◌}
use mir.Syntax.{w64}
use mir.Val.{to_z, of_z}
use mir.Facts.{to_z-of_z}
use Rattle.algebra.specs.Ring.{num, ◌⊕◌, ◌⊗◌}
use Rattle.algebra.proofs.RingLaws.{v0, v1}
use Rattle.algebra.proofs.Bound.{Env, []ᵉ, ◌∷ᵉ◌, fits64, reads64, raws64, within}
use Rattle.math.specs.Wide.{SplitOf, sgn}
use Rattle.math.proofs.WideLaws.{carry-lead, carry-rest}
use Rattle.math.proofs.wide.carried.Goals as goal

-- ---- after the second

pub split-l-requires : goal.split-l-requires
split-l-requires c = rw (to_z-of_z c.ranges.lo) (omega (arith, c.requires.2))

pub overflow_add-mid : goal.overflow_add-mid
overflow_add-mid c =
    let split1 : SplitOf c.args.lo c.split-l.result = rw (to_z-of_z c.ranges.lo) at c.split-l.ensures in
    let carry1 : nat_abs c.split-l.result.hi ≤ 268435457 = omega (arith, (split1).hi, c.requires.2) in
    let env-m : Env (c.args.mid ∷ c.split-l.result.hi ∷ []) (18014398509481984 ∷ 268435457 ∷ []) = c.requires.1 ∷ᵉ carry1 ∷ᵉ []ᵉ in
    fits64 (env-m) (v0 ⊕ v1) tt

pub split-m-requires : goal.split-m-requires
split-m-requires c =
    let split1 : SplitOf c.args.lo c.split-l.result = rw (to_z-of_z c.ranges.lo) at c.split-l.ensures in
    let carry1 : nat_abs c.split-l.result.hi ≤ 268435457 = omega (arith, (split1).hi, c.requires.2) in
    let env-m : Env (c.args.mid ∷ c.split-l.result.hi ∷ []) (18014398509481984 ∷ 268435457 ∷ []) = c.requires.1 ∷ᵉ carry1 ∷ᵉ []ᵉ in
    let e = env-m in rw (reads64 e (v0 ⊕ v1) tt) (omega (arith, within e (v0 ⊕ v1)))

pub overflow_add-h : goal.overflow_add-h
overflow_add-h c =
    let split1 : SplitOf c.args.lo c.split-l.result = rw (to_z-of_z c.ranges.lo) at c.split-l.ensures in
    let carry1 : nat_abs c.split-l.result.hi ≤ 268435457 = omega (arith, (split1).hi, c.requires.2) in
    let env-m : Env (c.args.mid ∷ c.split-l.result.hi ∷ []) (18014398509481984 ∷ 268435457 ∷ []) = c.requires.1 ∷ᵉ carry1 ∷ᵉ []ᵉ in
    let split2 : SplitOf (c.args.mid +ℤ c.split-l.result.hi) c.split-m.result = rw (reads64 (env-m) (v0 ⊕ v1) tt) at c.split-m.ensures in
    let carry2 : nat_abs c.split-m.result.hi ≤ 268435461 = omega (arith, (split2).hi, within (env-m) (v0 ⊕ v1)) in
    let env-h : Env (c.args.hi ∷ c.split-m.result.hi ∷ []) (36028797018963968 ∷ 268435461 ∷ []) = c.requires.0 ∷ᵉ carry2 ∷ᵉ []ᵉ in
    fits64 (env-h) (v0 ⊕ v1) tt

pub overflow_mul-result : goal.overflow_mul-result
overflow_mul-result c =
    let split1 : SplitOf c.args.lo c.split-l.result = rw (to_z-of_z c.ranges.lo) at c.split-l.ensures in
    let carry1 : nat_abs c.split-l.result.hi ≤ 268435457 = omega (arith, (split1).hi, c.requires.2) in
    let env-m : Env (c.args.mid ∷ c.split-l.result.hi ∷ []) (18014398509481984 ∷ 268435457 ∷ []) = c.requires.1 ∷ᵉ carry1 ∷ᵉ []ᵉ in
    let split2 : SplitOf (c.args.mid +ℤ c.split-l.result.hi) c.split-m.result = rw (reads64 (env-m) (v0 ⊕ v1) tt) at c.split-m.ensures in
    let env-r : Env (c.split-m.result.lo ∷ c.split-l.result.lo ∷ []) (67108863 ∷ 67108863 ∷ []) = (split2).lo ∷ᵉ (split1).lo ∷ᵉ []ᵉ in
    fits64 (env-r) (v0 ⊗ num (pos 67108864)) tt

pub overflow_add-result : goal.overflow_add-result
overflow_add-result c =
    let split1 : SplitOf c.args.lo c.split-l.result = rw (to_z-of_z c.ranges.lo) at c.split-l.ensures in
    let carry1 : nat_abs c.split-l.result.hi ≤ 268435457 = omega (arith, (split1).hi, c.requires.2) in
    let env-m : Env (c.args.mid ∷ c.split-l.result.hi ∷ []) (18014398509481984 ∷ 268435457 ∷ []) = c.requires.1 ∷ᵉ carry1 ∷ᵉ []ᵉ in
    let split2 : SplitOf (c.args.mid +ℤ c.split-l.result.hi) c.split-m.result = rw (reads64 (env-m) (v0 ⊕ v1) tt) at c.split-m.ensures in
    let env-r : Env (c.split-m.result.lo ∷ c.split-l.result.lo ∷ []) (67108863 ∷ 67108863 ∷ []) = (split2).lo ∷ᵉ (split1).lo ∷ᵉ []ᵉ in
    fits64 (env-r) (v0 ⊗ num (pos 67108864) ⊕ v1) tt

-- ---- the sign
pub returns-then-h-ne0 : goal.returns-then-h-ne0
returns-then-h-ne0 c =
    let split1 : SplitOf c.args.lo c.split-l.result = rw (to_z-of_z c.ranges.lo) at c.split-l.ensures in
    let carry1 : nat_abs c.split-l.result.hi ≤ 268435457 = omega (arith, (split1).hi, c.requires.2) in
    let env-m : Env (c.args.mid ∷ c.split-l.result.hi ∷ []) (18014398509481984 ∷ 268435457 ∷ []) = c.requires.1 ∷ᵉ carry1 ∷ᵉ []ᵉ in
    let split2 : SplitOf (c.args.mid +ℤ c.split-l.result.hi) c.split-m.result = rw (reads64 (env-m) (v0 ⊕ v1) tt) at c.split-m.ensures in
    let carry2 : nat_abs c.split-m.result.hi ≤ 268435461 = omega (arith, (split2).hi, within (env-m) (v0 ⊕ v1)) in
    let env-h : Env (c.args.hi ∷ c.split-m.result.hi ∷ []) (36028797018963968 ∷ 268435461 ∷ []) = c.requires.0 ∷ᵉ carry2 ∷ᵉ []ᵉ in
    let a = c.args in
    let h = reads64 (env-h) (v0 ⊕ v1) tt in
    ap sgn h ∙ carry-lead a.hi a.mid a.lo (split1) (split2) (λ e. c.if-h-ne0.true (ap (of_z w64) (raws64 (env-h) (v0 ⊕ v1) tt ∙ e)))

pub returns-else-h-ne0 : goal.returns-else-h-ne0
returns-else-h-ne0 c =
    let split1 : SplitOf c.args.lo c.split-l.result = rw (to_z-of_z c.ranges.lo) at c.split-l.ensures in
    let carry1 : nat_abs c.split-l.result.hi ≤ 268435457 = omega (arith, (split1).hi, c.requires.2) in
    let env-m : Env (c.args.mid ∷ c.split-l.result.hi ∷ []) (18014398509481984 ∷ 268435457 ∷ []) = c.requires.1 ∷ᵉ carry1 ∷ᵉ []ᵉ in
    let split2 : SplitOf (c.args.mid +ℤ c.split-l.result.hi) c.split-m.result = rw (reads64 (env-m) (v0 ⊕ v1) tt) at c.split-m.ensures in
    let carry2 : nat_abs c.split-m.result.hi ≤ 268435461 = omega (arith, (split2).hi, within (env-m) (v0 ⊕ v1)) in
    let env-h : Env (c.args.hi ∷ c.split-m.result.hi ∷ []) (36028797018963968 ∷ 268435461 ∷ []) = c.requires.0 ∷ᵉ carry2 ∷ᵉ []ᵉ in
    let env-r : Env (c.split-m.result.lo ∷ c.split-l.result.lo ∷ []) (67108863 ∷ 67108863 ∷ []) = (split2).lo ∷ᵉ (split1).lo ∷ᵉ []ᵉ in
    let a = c.args in
    let h : a.hi +ℤ c.split-m.result.hi ≡ pos 0 = sym (reads64 (env-h) (v0 ⊕ v1) tt) ∙ ap (to_z w64) c.if-h-ne0.false in
    ap sgn (reads64 (env-r) (v0 ⊗ num (pos 67108864) ⊕ v1) tt ∙ carry-rest a.hi a.mid a.lo (split1) (split2) h)
