-- `angle::turns_of` meets its contract, by what a valid angle's pattern is (`valid-read`); a mask is a remainder (`and_mask`). Assumes nothing.
use mathlib.Core.Path.{◌≡◌, sym, ap, ◌∙◌, subst}
use Prim.Native.Nat.{ℕ, ◌+◌, ◌-◌, ◌*◌, ◌/◌, ◌%◌, ◌^◌, ◌<◌, ◌≤◌, zero-le}
use native.Mathlib.Nat.{le_trans, le_of_eq}
use native.Mathlib.Omega.{arith}
use lib.Bits.{bit_and, and_mask}
use lib.Ieee.{binary64, to_bits}
use Rattle.angle.specs.Angle.{turns}
use Rattle.angle.proofs.Bits.{Read, valid-read, valid-no-nan, valid-small}
use Rattle.angle.proofs.turns_of.Goals as goal

field : (n : ℕ) → bit_and (n / 4503599627370496) 2047 ≡ n / 4503599627370496 % 2048
field n = and_mask (n / 4503599627370496) 11

digits : (n : ℕ) → bit_and n 4503599627370495 ≡ n % 4503599627370496
digits n = and_mask n 52

-- as the code has it
low : (b t : ℕ) → Read b t → bit_and (b / 4503599627370496) 2047 < 970 → 0 ≡ t
low b t r h = r.0 (subst (λ (x : ℕ). x < 970) (field b) h)

high : (b t : ℕ) → Read b t → 970 ≤ bit_and (b / 4503599627370496) 2047
    → (bit_and (b / 4503599627370496) 2047 ≤ 1023) × ((bit_and b 4503599627370495 + 4503599627370496) * 2 / 2 ^ (1023 - bit_and (b / 4503599627370496) 2047) ≡ t)
high b t r h =
    let q = r.1 (subst (λ (x : ℕ). 970 ≤ x) (field b) h) in (
      subst (λ (x : ℕ). x ≤ 1023) (sym (field b)) q.0,
      ap (λ (x : ℕ). (bit_and b 4503599627370495 + 4503599627370496) * 2 / 2 ^ (1023 - x)) (field b)
          ∙ ap (λ (x : ℕ). (x + 4503599627370496) * 2 / 2 ^ (1023 - b / 4503599627370496 % 2048)) (digits b)
          ∙ q.1,
    )

pub float_to_bits-bits : goal.float_to_bits-bits
float_to_bits-bits c = valid-no-nan c.args.a c.requires

pub returns-then-exponent-lt970 : goal.returns-then-exponent-lt970
returns-then-exponent-lt970 c = let a = c.args.a in record { is = low (to_bits binary64 a) (turns a) (valid-read a c.requires) c.if-exponent-lt970.true; small = zero-le }

pub overflow_add-mantissa : goal.overflow_add-mantissa
overflow_add-mantissa c = omega (arith, digits (to_bits binary64 c.args.a))

pub overflow_mul-result : goal.overflow_mul-result
overflow_mul-result c = omega (arith, digits (to_bits binary64 c.args.a))

pub overflow_sub-result : goal.overflow_sub-result
overflow_sub-result c = let a = c.args.a in (high (to_bits binary64 a) (turns a) (valid-read a c.requires) c.if-exponent-lt970.false).0

pub returns : goal.returns
returns c =
    let a = c.args.a in
    let is = (high (to_bits binary64 a) (turns a) (valid-read a c.requires) c.if-exponent-lt970.false).1 in
    record { is = is; small = le_trans (le_of_eq is) (valid-small a c.requires) }
