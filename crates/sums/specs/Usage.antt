-- How each tool of this crate is used: a law that it proves, to copy from. Assumes nothing.
use Rattle.std.specs.Prelude.{◌≡◌, refl, ◌≢◌, Bool, true, false, List, [], ◌∷◌, ℕ, suc, ◌+◌, ◌*◌, ◌%◌, ◌^◌, ◌<◌, ◌≤◌, eqb, ltb, leb, ℤ, ◌+ℤ◌, ◌-ℤ◌, length, get_or, set}
use Rattle.std.proofs.Common.{sym, ◌∙◌, ap, ap₂, mod-lt, arith}
use Rattle.std.proofs.lemmas.Bool.{eqb-false}
use Rattle.sums.specs.Bit.{bit}
use Rattle.sums.specs.Put.{put}
use Rattle.sums.specs.Bounded.{count}
use Rattle.sums.specs.Sum.{sum}
use Rattle.sums.specs.Iterate.{iter, Inverse, Period, period_below}
use Rattle.sums.specs.Half.{rev}
use Rattle.sums.specs.Tally.{walk, tally}
use Rattle.sums.specs.Until.{until}

-- ---- a loop with fuel: Euclid's algorithm, ending
pub record Two : Type 0 where
  pub a : ℕ
  pub b : ℕ

abbrev pub done : Two → Bool
done s = eqb s.b 0

abbrev pub turn : Two → Two
turn s = record { a = s.b; b = s.a % s.b }

-- fuel that is computed from the state
abbrev pub fuel : Two → ℕ
fuel s = 2 ^ 100 + (s.a + s.b)

unfoldable pub gcd : Two → Two
gcd s = until done turn (fuel s) s
