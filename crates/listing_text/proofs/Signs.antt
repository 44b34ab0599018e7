-- The digits of a number of 64 signed bits, by its sign. Assumes nothing.
use mathlib.Core.Bool.{true}
use mathlib.Core.List.{List, [], ◌∷◌}
use mathlib.Core.Path.{◌≡◌, refl, sym, ◌∙◌, ap, subst}
use Prim.Native.Nat.{ℕ}
use native.Mathlib.Omega.{arith}
use borrow.Author.Tests.{ltb-true}
use lib.IntN.{ℤ, pos, negsuc, nat_abs}
use lib.Signed.{lt_z}
use mir.Syntax.{w64}
use mir.Val.{SFits, to_z, of_z}
use mir.Facts.{to_z-of_z}
use Rattle.listing_text.specs.Decimal.{decimal, signed_decimal, Appended}
use Rattle.listing_text.specs.RowLaws.{appended_then}

below-zero : (z : ℤ) → lt_z z (pos 0) ≡ true → (n : ℕ) × (z ≡ negsuc n)
below-zero (pos n) t = absurd (omega (arith, ltb-true n 0 t))
below-zero (negsuc n) t = (n, refl)

module _ {z : ℤ} (f : SFits w64 z) where
  -- as the machine reads it
  abbrev pub machine : ℤ
  machine = to_z w64 (of_z w64 z)

  read : machine ≡ z
  read = to_z-of_z f

  module _ (t : lt_z machine (pos 0) ≡ true) where
    less_one : ℕ
    less_one = (below-zero z (ap (λ (y : ℤ). lt_z y (pos 0)) (sym read) ∙ t)).0

    is_negative : z ≡ negsuc less_one
    unfolding less_one
    is_negative = (below-zero z (ap (λ (y : ℤ). lt_z y (pos 0)) (sym read) ∙ t)).1

    pub negative-digits : {row row' row'' : List ℕ} {at at' at'' m : ℕ} → Appended row at (45 ∷ []) row' at' → m ≡ nat_abs machine
        → Appended row' at' (decimal m) row'' at''
        → Appended row at (signed_decimal z) row'' at''
    negative-digits {row} {row'} {row''} {at} {at'} {at''} a e b =
        subst (λ (y : ℤ). Appended row at (signed_decimal y) row'' at'') (sym is_negative)
        (appended_then a (subst (λ (n : ℕ). Appended row' at' (decimal n) row'' at'') (e ∙ ap nat_abs (read ∙ is_negative)) b))

  -- handed on as the machine reads it
  pub handed : {row row' : List ℕ} {at at' : ℕ} → Appended row at (signed_decimal machine) row' at'
      → Appended row at (signed_decimal z) row' at'
  handed {row} {row'} {at} {at'} b = subst (λ (y : ℤ). Appended row at (signed_decimal y) row' at') read b
