-- Laws of specs/CubicMetresLaws.antt.
use Rattle.std.specs.Prelude.{◌≡◌, ℕ, zero, suc, ◌+◌, ◌*◌, ◌/◌, ◌%◌, ◌≤◌, ◌≢◌, ℤ, pos, negsuc, neg_ℤ, refl}
use Rattle.std.proofs.Common.{sym, ◌∙◌, ap, arith, eq-eqb, ne_eqb}
use Rattle.std.proofs.Math.Decide.{ℕ_discrete}
use Rattle.std.proofs.Math.IntN.{neg_ℤ-neg_ℤ}
use Rattle.int128.specs.Int128.{with_sign}
use Rattle.int128.specs.CubicMetres.{half_to_even, cubic_metres_of}
use Rattle.int128.specs.CubicMetresLaws.{Rounded}

-- ---- the two cases
pub exact-half : (n : ℕ) → n % 6000000000 ≡ 3000000000 → half_to_even n ≡ n / 6000000000 + n / 6000000000 % 2
unfolding half_to_even
exact-half n e = rw (eq-eqb _ _ e) refl

pub no-half : (n : ℕ) → n % 6000000000 ≢ 3000000000 → half_to_even n ≡ (n + 3000000000) / 6000000000
unfolding half_to_even
no-half n d = rw (ne_eqb _ _ d) refl

pub next-even : (w : ℕ) → (w + w % 2) % 2 ≡ 0
next-even w = omega arith

-- ---- what it comes to
pub rounded : (n : ℕ) → Rounded n (half_to_even n)
rounded n = go (half_to_even n) (ℕ_discrete (n % 6000000000) 3000000000) (exact-half n) (no-half n)
  where
    go : (r : ℕ) → Dec (n % 6000000000 ≡ 3000000000)
        → (n % 6000000000 ≡ 3000000000 → r ≡ n / 6000000000 + n / 6000000000 % 2)
        → (n % 6000000000 ≢ 3000000000 → r ≡ (n + 3000000000) / 6000000000)
        → Rounded n r
    go r (yes e) x y =
        let z = x e in
        record {
          not-far-below = omega arith;
          not-far-above = omega arith;
          even = λ k. ap (λ (w : ℕ). w % 2) z ∙ next-even (n / 6000000000);
        }
    go r (no d) x y =
        let z = y d in
        record { not-far-below = omega arith; not-far-above = omega arith; even = λ k. absurd (d k) }

pub rounded-only : {n r : ℕ} → Rounded n r → r ≡ half_to_even n
rounded-only {n} {r} R = go R.not-far-below R.not-far-above (ℕ_discrete (n % 6000000000) 3000000000)
  where
    to-even : (w : ℕ) → w ≤ r → r ≤ w + 1 → r % 2 ≡ 0 → r ≡ w + w % 2
    to-even w b a q = omega arith

    go : n ≤ r * 6000000000 + 3000000000 → r * 6000000000 ≤ n + 3000000000 → Dec (n % 6000000000 ≡ 3000000000)
        → r ≡ half_to_even n
    go b a (yes e) = to-even (n / 6000000000) (omega arith) (omega arith) (R.even e) ∙ sym (exact-half n e)
    go b a (no d) = let q : r ≡ (n + 3000000000) / 6000000000 = omega arith in q ∙ sym (no-half n d)

pub metres-negated : (six : ℤ) → cubic_metres_of (neg_ℤ six) ≡ neg_ℤ (cubic_metres_of six)
unfolding cubic_metres_of half_to_even with_sign
metres-negated (pos zero) = refl
metres-negated (pos (suc n)) = refl
metres-negated (negsuc n) = sym (neg_ℤ-neg_ℤ (pos (half_to_even (suc n))))

-- 2.5, 3.5 and -2.5 as the change has them, and what is next to 2.5 and -2.5
pub examples : (cubic_metres_of (pos 15000000000) ≡ pos 2)
    × (cubic_metres_of (pos 21000000000) ≡ pos 4)
    × (cubic_metres_of (negsuc 14999999999) ≡ negsuc 1)
    × (cubic_metres_of (pos 15000000001) ≡ pos 3)
    × (cubic_metres_of (negsuc 15000000000) ≡ negsuc 2)
unfolding cubic_metres_of half_to_even with_sign
examples = (refl, refl, refl, refl, refl)
