-- Writing a number, digit by digit. Assumes nothing.
use mathlib.Core.List.{List, [], ◌∷◌, ◌++◌}
use mathlib.Core.Path.{◌≡◌, sym, ◌∙◌, ap, subst}
use Prim.Native.Nat.{ℕ, ◌+◌, ◌/◌, ◌%◌, ◌≤◌, ◌<◌}
use native.Mathlib.Nat.{add_comm}
use native.Mathlib.Omega.{arith}
use Rattle.listing_text.specs.Decimal.{decimal, Appended}
use Rattle.listing_text.specs.DecimalLaws.{decimal-small, decimal-large}
use Rattle.listing_text.specs.RowLaws.{appended_then}

-- the digits of n, by those of its tenth and the last one
module _ (n : ℕ) {digit : ℕ} (d : digit ≡ n % 10 + 48) where
  pub last-digit : n < 10 → {row row' : List ℕ} {at at' : ℕ} → Appended row at (digit ∷ []) row' at'
      → Appended row at (decimal n) row' at'
  last-digit l {row} {row'} {at} {at'} f =
      let s : digit ≡ 48 + n = omega arith in
      subst (λ (xs : List ℕ). Appended row at xs row' at') (ap (λ (b : ℕ). b ∷ []) s ∙ sym (decimal-small l)) f

  pub more-digits : 10 ≤ n → {row row' row'' : List ℕ} {at at' at'' : ℕ} → Appended row at (decimal (n / 10)) row' at'
      → Appended row' at' (digit ∷ []) row'' at''
      → Appended row at (decimal n) row'' at''
  more-digits l {row} {row'} {row''} {at} {at'} {at''} f g =
      subst (λ (xs : List ℕ). Appended row at xs row'' at'')
      (ap (λ (b : ℕ). decimal (n / 10) ++ (b ∷ [])) (d ∙ add_comm (n % 10) 48) ∙ sym (decimal-large n l))
      (appended_then f g)
