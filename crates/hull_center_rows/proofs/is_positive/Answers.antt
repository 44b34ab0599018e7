-- `hull_center_rows::is_positive` meets its contract: where the high part does not decide, the sum fits. Assumes nothing.
use mathlib.Core.List.{[], ◌∷◌}
use mathlib.Core.Path.{refl, ap}
use lib.IntN.{ℤ, pos, neg_ℤ, nat_abs}
use Prim.Native.Nat.{◌≤◌}
use lib.Signed.{lt_z, ◌≤ℤ◌}
use mir.Facts.{to_z-of_z}
use Rattle.algebra.specs.Ring.{◌⊕◌, ◌⊗◌}
use Rattle.algebra.proofs.RingLaws.{#◌, v0, v1}
use Rattle.algebra.proofs.Bound.{Env, []ᵉ, ◌∷ᵉ◌, fits64, reads64, abs-by}
use Rattle.algebra.proofs.Test.{lt-taken, lt-left}
use Rattle.hull_center_rows.specs.Side.{high-positive, high-negative}
use Rattle.hull_center_rows.proofs.is_positive.Goals as goal

pub returns-then-high-gt134217728 : goal.returns-then-high-gt134217728
returns-then-high-gt134217728 c =
    high-positive c.args.high c.args.low c.requires (lt-taken refl (to_z-of_z c.ranges.high) c.if-high-gt134217728.true)

pub returns-then-high-ltminus134217728 : goal.returns-then-high-ltminus134217728
returns-then-high-ltminus134217728 c =
    high-negative c.args.high c.args.low c.requires (lt-taken (to_z-of_z c.ranges.high) refl c.if-high-ltminus134217728.true)

env : {h : ℤ} (l : ℤ) → neg_ℤ (pos 134217728) ≤ℤ h → h ≤ℤ pos 134217728 → nat_abs l ≤ 3377699720527872
    → Env (h ∷ l ∷ []) (134217728 ∷ 3377699720527872 ∷ [])
env {h} l a b c = abs-by {z = h} a b ∷ᵉ c ∷ᵉ []ᵉ

pub overflow_mul-result : goal.overflow_mul-result
overflow_mul-result c =
    let h = to_z-of_z c.ranges.high in
    fits64 (env c.args.low (lt-left h refl c.if-high-ltminus134217728.false) (lt-left refl h c.if-high-gt134217728.false) c.requires) (v0 ⊗ # 33554432) tt

pub overflow_add-result : goal.overflow_add-result
overflow_add-result c =
    let h = to_z-of_z c.ranges.high in
    fits64 (env c.args.low (lt-left h refl c.if-high-ltminus134217728.false) (lt-left refl h c.if-high-gt134217728.false) c.requires) (v0 ⊗ # 33554432 ⊕ v1) tt

pub returns : goal.returns
returns c =
    let h = to_z-of_z c.ranges.high in
    ap (lt_z (pos 0))
    (reads64 (env c.args.low (lt-left h refl c.if-high-ltminus134217728.false) (lt-left refl h c.if-high-gt134217728.false) c.requires) (v0 ⊗ # 33554432 ⊕ v1) tt)
