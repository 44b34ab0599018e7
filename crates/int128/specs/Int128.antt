-- Whole numbers of 128 bits in two halves, by Change 1: "A number past 64 bits, here and later, is two's complement in a
-- high and a low 64-bit half." Definitions only; `Int128Laws` has that the two directions undo each other.
use Rattle.std.specs.Prelude.{ℕ, ◌+◌, ◌*◌, ◌/◌, ◌%◌, ◌^◌, ℤ, pos, negsuc, ◌-ℤ◌, neg_ℤ, FitsSigned}
use Rattle.std.specs.Int.{w128}
use Rattle.std.proofs.Common.{of_z}
use Rattle.int128.specs.declared.Int128.{Int128}

-- the number that two halves mean: their bits, less 2 ^ 128 where the top bit is set
unfoldable pub of_halves : ℕ → ℕ → ℤ
of_halves high low = pos (high * 2 ^ 64 + low) -ℤ pos (high / 2 ^ 63 * 2 ^ 128)

abbrev pub int128_of : Int128 → ℤ
int128_of n = of_halves n.high n.low

-- the halves of a number: its 128 bits, as the language itself writes them, in two
unfoldable pub in_halves : ℤ → Int128
in_halves z = record { high = of_z w128 z / 2 ^ 64; low = of_z w128 z % 2 ^ 64 }

-- from -2 ^ 127 to 2 ^ 127 - 1
abbrev pub Fits128 : ℤ → Type 0
Fits128 z = FitsSigned w128 z

-- z, or -z where x is negative
unfoldable pub with_sign : ℤ → ℤ → ℤ
with_sign (pos n) z = z
with_sign (negsuc n) z = neg_ℤ z
