-- The sign of a number as a test has it, and a number of 64 signed bits without its sign. Assumes nothing.
use Rattle.std.proofs.Common.{◌≡◌, ℕ, zero, suc, ◌+◌, ◌-◌, ◌^◌, ◌<◌, ◌≤◌, true, false, T, ℤ, pos, negsuc, ◌-ℤ◌, neg_ℤ, nat_abs, sym, refl, ap, ◌∙◌, subst, arith, to_z-of_z, w64, Fits, SFits, to_z, of_z, ltb-true, le-ltb}
use lib.IntN.{+ℤ_idl}
use lib.Signed.{mag, lt_z, non_neg, nat_abs-le}
use Rattle.int128.specs.Int128.{with_sign}

below-zero : (z : ℤ) → lt_z z (pos 0) ≡ true → (n : ℕ) × (z ≡ negsuc n)
below-zero (pos n) t = absurd (omega (arith, ltb-true n 0 t))
below-zero (negsuc n) t = (n, refl)

pub not-below : (z : ℤ) → lt_z z (pos 0) ≡ false → z ≡ pos (nat_abs z)
not-below (pos n) t = refl
not-below (negsuc n) t = absurd (let z : ◌≡◌ {A = ℕ} 0 1 = cc in omega arith)

pub sign_below : (z w : ℤ) → lt_z z (pos 0) ≡ true → neg_ℤ w ≡ with_sign z w
unfolding with_sign
sign_below z w t = let n = below-zero z t in rw n.1 refl

pub sign-not : (z w : ℤ) → lt_z z (pos 0) ≡ false → w ≡ with_sign z w
unfolding with_sign
sign-not z w t = rw (not-below z t) refl

-- ---- a number below 2 ^ 63, with a sign, in 64 signed bits
module _ (n : ℕ) (b : n < 2 ^ 63) where
  pub read_pos : to_z w64 n ≡ pos n
  read_pos = to_z-of_z {w = w64} {z = pos n} (record { sfits = b })

  minus : pos 0 -ℤ to_z w64 n ≡ neg_ℤ (pos n)
  minus = ap (λ (z : ℤ). pos 0 -ℤ z) read_pos ∙ +ℤ_idl (neg_ℤ (pos n))

  pub minus-fits : SFits w64 (pos 0 -ℤ to_z w64 n)
  minus-fits = rw minus (go n b)
    where
      go : (m : ℕ) → m < 2 ^ 63 → SFits w64 (neg_ℤ (pos m))
      go zero h = record { sfits = h }
      go (suc m) h = record { sfits = omega arith }

  pub minus-read : to_z w64 (of_z w64 (pos 0 -ℤ to_z w64 n)) ≡ neg_ℤ (pos n)
  minus-read = to_z-of_z minus-fits ∙ minus

-- ---- without its sign: the least number of 64 signed bits has none of the other sign, so one is added after the sign is gone
minus_one : (n : ℕ) → negsuc 0 -ℤ negsuc n ≡ pos n
minus_one n = let e : suc n - 1 ≡ n = omega arith in rw (le-ltb (suc n) 1 (omega arith), e) refl

module _ {z : ℤ} (f : SFits w64 z) where
  abbrev machine : ℤ
  machine = to_z w64 (of_z w64 z)

  pub abs-max : nat_abs machine ≤ 2 ^ 63
  abs-max = rw (to_z-of_z f) (nat_abs-le z f.sfits)

  module _ (t : lt_z machine (pos 0) ≡ true) where
    less_one : ℕ
    less_one = (below-zero machine t).0

    is_negative : z ≡ negsuc less_one
    unfolding less_one
    is_negative = sym (to_z-of_z f) ∙ (below-zero machine t).1

    small : less_one < 2 ^ 63
    small = subst (λ (y : ℤ). mag y < 2 ^ 63) is_negative f.sfits

    complement : negsuc 0 -ℤ machine ≡ pos less_one
    complement = ap (λ (y : ℤ). negsuc 0 -ℤ y) (to_z-of_z f ∙ is_negative) ∙ minus_one less_one

    pub complement-fits : SFits w64 (negsuc 0 -ℤ machine)
    complement-fits = rw complement (record { sfits = small })

    complement-read : to_z w64 (of_z w64 (negsuc 0 -ℤ machine)) ≡ pos less_one
    complement-read = to_z-of_z complement-fits ∙ complement

    pub complement-casts : T (non_neg (to_z w64 (of_z w64 (negsuc 0 -ℤ machine))))
        × Fits w64 (nat_abs (to_z w64 (of_z w64 (negsuc 0 -ℤ machine))))
    complement-casts = rw complement-read (tt, record { fits = let h = small in omega arith })

    pub complement-more : Fits w64 (nat_abs (to_z w64 (of_z w64 (negsuc 0 -ℤ machine))) + 1)
    complement-more = rw complement-read (record { fits = let h = small in omega arith })

  pub positive-casts : lt_z machine (pos 0) ≡ false → T (non_neg machine) × Fits w64 (nat_abs machine)
  positive-casts t =
      let h = abs-max in
      subst (λ (y : ℤ). T (non_neg y) × Fits w64 (nat_abs y)) (sym (not-below machine t)) (tt, record { fits = omega arith })
