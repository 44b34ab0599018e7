-- The order of powers of two is that of their exponents. Assumes nothing.
use Rattle.std.specs.Prelude.{ℕ, suc, ◌^◌, ◌≤◌}
use Rattle.std.proofs.Common.{le_of_suc-le-suc, lt_of_not-le, lt_irrefl, lt_of_lt_of_le}
use Rattle.std.proofs.Math.Pow.{pow-lt}

pub pow_le_back : (a l : ℕ) → 2 ^ a ≤ 2 ^ l → a ≤ l
pow_le_back a l h = le_of_suc-le-suc (lt_of_not-le (λ (g : suc l ≤ a). lt_irrefl (2 ^ l) (lt_of_lt_of_le (pow-lt g) h)))
