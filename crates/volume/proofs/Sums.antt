-- The sums by digits as the machine has them. Assumes nothing.
use mathlib.Core.Path.{◌≡◌, ◌∙◌, ap, ap₂}
use mathlib.Core.List.{[], ◌∷◌}
use Prim.Native.Nat.{ℕ, ◌/◌, ◌%◌, ◌^◌, ◌≤◌}
use native.Mathlib.Nat.{lt_of_le_of_lt}
use lib.Dec.{T, ltb, lit<}
use lib.IntN.{ℤ, pos, nat_abs, ◌+ℤ◌, ◌*ℤ◌}
use lib.Signed.{non_neg, yes_non_neg}
use mir.Syntax.{w64, w128}
use mir.Val.{Fits, SFits, to_z, of_z}
use mir.Facts.{to_z-of_z}
use Rattle.algebra.specs.Ring.{◌⊕◌, ◌⊗◌}
use Rattle.algebra.proofs.RingLaws.{v0, v1, v2, #◌}
use Rattle.algebra.proofs.Bound.{Env, []ᵉ, ◌∷ᵉ◌, within, small-fits, small-read}
use Rattle.int128.specs.Int128.{Fits128}
use Rattle.volume.specs.declared.DigitSums.{DigitSums}
use Rattle.volume.specs.DigitSums.{plus_triangle, whole_of, SmallProduct, SmallTriangle, SmallSums}
use Rattle.volume.proofs.DigitSumsLaws.{digits-small}

-- a number as the machine reads it
abbrev pub rd : ℤ → ℤ
rd z = to_z w64 (of_z w64 z)

read : (z : ℤ) {B : ℕ} → nat_abs z ≤ B → T (ltb B (2 ^ 63)) → rd z ≡ z
read z h t = to_z-of_z (small-fits w64 {z = z} h t)

-- ---- one triangle more
module _ {a t : ℤ} (S : SmallTriangle a t) where
  pub area-casts : T (non_neg (rd a)) × Fits w64 (nat_abs (rd a))
  area-casts = rw (read a S.area tt) (yes_non_neg S.positive, record { fits = lt_of_le_of_lt S.area (lit< tt) })

  -- what each product asks
  asked : (d : ℕ → ℕ) (x : ℤ) → d (nat_abs a) ≤ 131072 → nat_abs x ≤ 2 ^ 61 → SmallProduct (rd x) (d (nat_abs (rd a))) (rd t)
  asked d x l h = record {
    sum = small-read w64 x h tt;
    digit = rw (read a S.area tt) l;
    above = small-read w64 t S.above tt;
  }

  module _ {s : DigitSums} (R : SmallSums s) where
    pub low-asked : SmallProduct (rd s.low) (nat_abs (rd a) % 131072) (rd t)
    low-asked = asked (λ n. n % 131072) s.low (digits-small (nat_abs a) S.area).0 R.low

    pub middle-asked : SmallProduct (rd s.middle) (nat_abs (rd a) / 131072 % 131072) (rd t)
    middle-asked = asked (λ n. n / 131072 % 131072) s.middle (digits-small (nat_abs a) S.area).1 R.middle

    pub high-asked : SmallProduct (rd s.high) (nat_abs (rd a) / 17179869184) (rd t)
    high-asked = asked (λ n. n / 17179869184) s.high (digits-small (nat_abs a) S.area).2 R.high

    product : (d : ℕ → ℕ) (x : ℤ) {y : ℤ} → nat_abs x ≤ 2 ^ 61 → SFits w64 y → y ≡ rd x +ℤ pos (d (nat_abs (rd a))) *ℤ rd t
        → rd y ≡ x +ℤ pos (d (nat_abs a)) *ℤ t
    product d x h f e =
        to_z-of_z f ∙ e
        ∙ ap₂ ◌+ℤ◌ (read x h tt) (ap₂ (λ (u v : ℤ). pos (d (nat_abs u)) *ℤ v) (read a S.area tt) (read t S.above tt))

    pub one-added : {x y z : ℤ} → SFits w64 x → SFits w64 y → SFits w64 z
        → x ≡ rd s.low +ℤ pos (nat_abs (rd a) % 131072) *ℤ rd t
        → y ≡ rd s.middle +ℤ pos (nat_abs (rd a) / 131072 % 131072) *ℤ rd t
        → z ≡ rd s.high +ℤ pos (nat_abs (rd a) / 17179869184) *ℤ rd t
        → record { low = rd x; middle = rd y; high = rd z } ≡ plus_triangle s a t
    unfolding plus_triangle
    one-added f g h p q r =
        ap₂ (λ (x : ℤ) (s : DigitSums). record { low = x; middle = s.middle; high = s.high })
        (product (λ n. n % 131072) s.low R.low f p)
        (ap₂ (λ (y z : ℤ). record { low = y; middle = y; high = z })
        (product (λ n. n / 131072 % 131072) s.middle R.middle g q)
        (product (λ n. n / 17179869184) s.high R.high h r))

-- a triangle's numbers a and t as they are read
module _ {a t x y : ℤ} (f : SFits w64 x) (g : SFits w64 y) (p : x ≡ a) (q : y ≡ t) where
  pub triangle-read : SmallTriangle a t → SmallTriangle (rd x) (rd y)
  triangle-read S = rw (to_z-of_z f, p, to_z-of_z g, q) S

  pub plus-read : (s : DigitSums) {r : DigitSums} → r ≡ plus_triangle s (rd x) (rd y) → r ≡ plus_triangle s a t
  plus-read s e = e ∙ ap₂ (plus_triangle s) (to_z-of_z f ∙ p) (to_z-of_z g ∙ q)

-- ---- the number that they make up
module _ {s : DigitSums} (R : SmallSums s) {x y : ℤ} (p : x ≡ rd s.low) (q : y ≡ rd s.middle *ℤ pos 131072) where
  env : Env (s.low ∷ s.middle ∷ s.high ∷ []) (2 ^ 61 ∷ 2 ^ 61 ∷ 2 ^ 61 ∷ [])
  env = R.low ∷ᵉ R.middle ∷ᵉ R.high ∷ᵉ []ᵉ

  first : x +ℤ y ≡ s.low +ℤ s.middle *ℤ pos 131072
  first = ap₂ ◌+ℤ◌ (p ∙ read s.low R.low tt) (q ∙ ap (λ (z : ℤ). z *ℤ pos 131072) (read s.middle R.middle tt))

  pub first_fits : Fits128 (x +ℤ y)
  first_fits = rw first (small-fits w128 (within env (v0 ⊕ v1 ⊗ # 131072)) tt)

  module _ {u v : ℤ} (k : u ≡ x +ℤ y) (r : v ≡ rd s.high *ℤ pos 17179869184) where
    pub whole-made : u +ℤ v ≡ whole_of s
    unfolding whole_of
    whole-made = ap₂ ◌+ℤ◌ (k ∙ first) (r ∙ ap (λ (z : ℤ). z *ℤ pos 17179869184) (read s.high R.high tt))

    pub whole-fits : Fits128 (u +ℤ v)
    unfolding whole_of
    whole-fits = rw whole-made (small-fits w128 (within env (v0 ⊕ v1 ⊗ # 131072 ⊕ v2 ⊗ # 17179869184)) tt)
