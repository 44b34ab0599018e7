-- What the machine's numbers hold. Assumes nothing.
use mathlib.Core.Path.{◌≡◌, sym, ◌∙◌, ap₂, subst}
use Prim.Native.Nat.{◌≤◌, ◌^◌}
use native.Mathlib.Omega.{arith}
use lib.Dec.{T, le→leb, lt→ltb}
use lib.Ieee.{binary64, in_float}
use lib.IntN.{ℤ, pos, negsuc, nat_abs, ◌+ℤ◌}
use mir.Syntax.{w32}
use mir.Val.{SFits, to_z, of_z}
use mir.Facts.{to_z-of_z}

fits-abs : (z : ℤ) → SFits w32 z → nat_abs z ≤ 2147483648
fits-abs (pos n) f = omega (arith, f.sfits)
fits-abs (negsuc n) f = omega (arith, f.sfits)

-- an i32, as it is read
pub read-abs : {r z : ℤ} → r ≡ to_z w32 (of_z w32 z) → SFits w32 z → nat_abs r ≤ 2147483648
read-abs {r} {z} e f = subst (λ (v : ℤ). nat_abs v ≤ 2147483648) {x = z} (sym (e ∙ to_z-of_z f)) (fits-abs z f)

-- a small number goes into an f64 as it is
pub in-float : (z : ℤ) → nat_abs z ≤ 50331648 → T (in_float binary64 z)
unfolding in_float
in-float (pos n) h = le→leb n (2 ^ 53) (omega arith)
in-float (negsuc n) h = lt→ltb n (2 ^ 53) (omega arith)

pub sums : {u v w x y z : ℤ} → u ≡ x → v ≡ y → w ≡ z → u +ℤ v +ℤ w ≡ x +ℤ y +ℤ z
sums a b c = ap₂ ◌+ℤ◌ (ap₂ ◌+ℤ◌ a b) c
