-- The two halves of an edge: 2u and 2u + 1 are each other's other half. Assumes nothing.
use Rattle.std.specs.Prelude.{◌≡◌, ◌≢◌, ℕ, ◌+◌, ◌-◌, ◌*◌, ◌/◌, ◌%◌, ◌<◌}
use Rattle.std.proofs.Common.{sym, ◌∙◌, ap, arith}
use Rattle.std.specs.Int.Bits.{bit_xor, xor_add_and}
use Rattle.std.proofs.lemmas.Nat.{and_mask}
use Rattle.sums.specs.Iterate.{Inverse}

unfoldable pub rev : ℕ → ℕ
rev e = e + 1 - 2 * (e % 2)
