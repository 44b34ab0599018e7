-- Laws of specs/Int128Laws.antt.
use Rattle.std.specs.Prelude.{◌≡◌, ℕ, zero, suc, ◌+◌, ◌-◌, ◌*◌, ◌/◌, ◌%◌, ◌^◌, ◌<◌, ◌≤◌, leb, [], ◌∷◌, ℤ, pos, negsuc, ◌+ℤ◌, ◌-ℤ◌, ◌*ℤ◌, neg_ℤ, int_lt, nat_le, unsigned_abs, refl}
use Rattle.std.proofs.Common.{sym, ◌∙◌, ap, ap₂, mul-le-mul_right, lt_of_le_of_lt, le-add_right, le_trans, div-lt_iff_lt-mul, div-add-mod', arith, lt-ltb, le-ltb, lit<, Fits, to_z, of_z, to_z-of_z}
use Rattle.std.proofs.Math.Nat.{le-suc}
use Rattle.std.proofs.Math.Decide.{dec_lt}
use Rattle.std.proofs.Math.IntN.{neg_ℤ-neg_ℤ}
use Rattle.std.specs.Int.Signed.{mag}
use Rattle.std.specs.Int.{w128}
use Rattle.std.proofs.Math.Facts.{Fits-cat, sfits_to_z, Fits-of_z, of_z-to_z}
use Rattle.algebra.specs.Ring.{E, num, ◌⊕◌, ◌⊖◌, ◌⊗◌, ⊝◌, var}
use Rattle.algebra.proofs.RingLaws.{v0, v1, v2, v3, v4, v5, v6, v7, ring}
use Rattle.algebra.proofs.Sign.{eq-in, eq-by, ◌*⁰◌, ◌+⁰◌}
use Rattle.algebra.proofs.Bound.{nat_abs-neg, nat_abs-+}
use Rattle.int128.specs.declared.Int128.{Int128}
use Rattle.int128.specs.Int128.{of_halves, int128_of, in_halves, Fits128, with_sign}

abbrev K : E
K = num (pos (2 ^ 64))

abbrev K² : E
K² = num (pos (2 ^ 128))

-- ---- the number with its top bit clear, or set
-- two digits base K, over any K, since 2 ^ 128 is beyond `omega`
room : (J K h l : ℕ) → h < J → l < K → h * K + l < J * K
room J K h l b c = omega (arith, mul-le-mul_right K b)

pub clear-is : (h l : ℕ) → h < 2 ^ 63 → of_halves h l ≡ pos (h * 2 ^ 64 + l)
unfolding of_halves
clear-is h l b =
    let e : h / 2 ^ 63 ≡ 0 = omega arith in
    rw e (ring (pos h ∷ pos l ∷ []) (v0 ⊗ K ⊕ v1 ⊖ num (pos 0)) (v0 ⊗ K ⊕ v1) refl)

complement : (M N : ℕ) → N < M → pos N -ℤ pos M ≡ negsuc (M - suc N)
complement M N h =
    let e : M ≡ N + suc (M - suc N) = omega arith in
    ap (λ (m : ℕ). pos N -ℤ pos m) e ∙ ring (pos N ∷ pos (suc (M - suc N)) ∷ []) (v0 ⊖ (v0 ⊕ v1)) (⊝ v1) refl

set_is : (h l : ℕ) → 2 ^ 63 ≤ h → h < 2 ^ 64 → l < 2 ^ 64 → of_halves h l ≡ negsuc (2 ^ 128 - suc (h * 2 ^ 64 + l))
unfolding of_halves
set_is h l a b d =
    let e : h / 2 ^ 63 ≡ 1 = omega arith in
    ap (λ (t : ℕ). pos (h * 2 ^ 64 + l) -ℤ pos (t * 2 ^ 128)) e
    ∙ complement (2 ^ 128) (h * 2 ^ 64 + l) (room (2 ^ 64) (2 ^ 64) h l b d)

module _ (h l : ℕ) (b : h < 2 ^ 64) (d : l < 2 ^ 64) where
  pub negative-is : leb (2 ^ 63) h ≡ int_lt (of_halves h l) (pos 0)
  negative-is = go (dec_lt h (2 ^ 63))
    where
      go : Dec (h < 2 ^ 63) → nat_le (2 ^ 63) h ≡ int_lt (of_halves h l) (pos 0)
      go (yes p) = rw (le-ltb (2 ^ 63 - 1) h (omega arith), clear-is h l p, le-ltb (h * 2 ^ 64 + l) 0 (omega arith)) refl
      go (no p) = rw (lt-ltb (2 ^ 63 - 1) h (omega arith), set_is h l (omega arith) b d) refl

  -- the number is what the language itself reads in the 128 bits
  pub as_read : of_halves h l ≡ to_z w128 (h * 2 ^ 64 + l)
  as_read = go (dec_lt h (2 ^ 63))
    where
      go : Dec (h < 2 ^ 63) → of_halves h l ≡ to_z w128 (h * 2 ^ 64 + l)
      go (yes p) = clear-is h l p ∙ rw (lt-ltb (h * 2 ^ 64 + l) (2 ^ 127) (room (2 ^ 63) (2 ^ 64) h l p d)) refl
      go (no p) =
          let q : 2 ^ 63 ≤ h = omega arith in
          let m : 2 ^ 127 ≤ h * 2 ^ 64 + l = le_trans (mul-le-mul_right (2 ^ 64) q) (le-add_right (h * 2 ^ 64) l) in
          set_is h l q b d ∙ rw (le-ltb (h * 2 ^ 64 + l) (2 ^ 127) m) refl

  fit : Fits w128 (h * 2 ^ 64 + l)
  fit = Fits-cat 64 64 tt b d

  pub in-range : Fits128 (of_halves h l)
  in-range = rw as_read (sfits_to_z fit)

  written : of_z w128 (of_halves h l) ≡ h * 2 ^ 64 + l
  written = ap (of_z w128) as_read ∙ of_z-to_z fit

  pub unsigned : {n : ℕ} → of_halves h l ≡ pos n → h * 2 ^ 64 + l ≡ n
  unsigned e = sym written ∙ ap (of_z w128) e

-- a number in halves is determined by what it means
pub halves_are : (n : Int128) {z : ℤ} → n.high < 2 ^ 64 → n.low < 2 ^ 64 → int128_of n ≡ z → n ≡ in_halves z
unfolding in_halves
halves_are n {z} b d e =
    let w : n.high * 2 ^ 64 + n.low ≡ of_z w128 z = sym (written n.high n.low b d) ∙ ap (of_z w128) e in
    ap₂ (λ (h l : ℕ). record { high = h; low = l }) (first n.high n.low d w) (second n.high n.low d w)
  where
    first : (h l : ℕ) {n : ℕ} → l < 2 ^ 64 → h * 2 ^ 64 + l ≡ n → h ≡ n / 2 ^ 64
    first h l d w = omega arith

    second : (h l : ℕ) {n : ℕ} → l < 2 ^ 64 → h * 2 ^ 64 + l ≡ n → l ≡ n % 2 ^ 64
    second h l d w = omega arith

low_half : (n : ℕ) {r : ℕ} → r ≡ n % 2 ^ 64 → r < 2 ^ 64
low_half n f = omega arith

-- and every number in range has halves
pub halves-mean : (z : ℤ) → Fits128 z → int128_of (in_halves z) ≡ z
unfolding in_halves
halves-mean z f =
    let n = of_z w128 z in
    let b = (div-lt_iff_lt-mul {k = 2 ^ 64} {x = n} {y = 2 ^ 64} (lit< tt)).1 (Fits-of_z f).fits in
    as_read (n / 2 ^ 64) (n % 2 ^ 64) b (low_half n refl) ∙ ap (to_z w128) (div-add-mod' n (2 ^ 64)) ∙ to_z-of_z f

-- ---- two numbers in range that differ by a multiple of 2 ^ 128 are equal
once : (N b n : ℕ) (j : ℤ) → b < N → n < N → pos b ≡ pos n +ℤ j *ℤ pos N → b ≡ n
once N b n (pos j) p q e = let f : b ≡ n + j * N = ap unsigned_abs e in go j f
  where
    go : (j : ℕ) → b ≡ n + j * N → b ≡ n
    go zero f = omega arith
    go (suc j) f = omega arith
once N b n (negsuc j) p q e =
    let ρ = pos b ∷ pos n ∷ pos (suc j) ∷ pos N ∷ [] in
    let f : b + suc j * N ≡ n = ap unsigned_abs (eq-by (eq-in ρ v0 (v1 ⊕ ⊝ v2 ⊗ v3) e) (v0 ⊕ v2 ⊗ v3) v1 refl) in
    omega arith

-- a number in range, moved up by M
offset : (M : ℕ) (z : ℤ) → mag z < M → (n : ℕ) × (z ≡ pos n -ℤ pos M) × (n < M + M)
offset M (pos a) h = (a + M, ring (pos a ∷ pos M ∷ []) v0 (v0 ⊕ v1 ⊖ v1) refl, omega arith)
offset M (negsuc a) h =
    let e : M - suc a + suc a ≡ M = omega arith in (
      M - suc a,
      ring (pos (M - suc a) ∷ pos (suc a) ∷ []) (⊝ v1) (v0 ⊖ (v0 ⊕ v1)) refl
          ∙ ap (λ (m : ℕ). pos (M - suc a) -ℤ pos m) e,
      omega arith,
    )

unwrap : (y z j : ℤ) → Fits128 y → Fits128 z → y ≡ z +ℤ j *ℤ pos (2 ^ 128) → y ≡ z
unwrap y z j f g e =
    let m = offset (2 ^ 127) y f.sfits in
    let n = offset (2 ^ 127) z g.sfits in
    let ρ = pos m.0 ∷ pos n.0 ∷ j ∷ y ∷ z ∷ [] in
    let H = num (pos (2 ^ 127)) in
    let s = eq-in ρ v3 (v4 ⊕ v2 ⊗ K²) e +⁰ eq-in ρ (v0 ⊖ H) v3 (sym m.1) +⁰ eq-in ρ v4 (v1 ⊖ H) n.1 in
    let same = once (2 ^ 128) m.0 n.0 j m.2 n.2 (eq-by s v0 (v1 ⊕ v2 ⊗ K²) refl) in
    m.1 ∙ ap (λ (k : ℕ). pos k -ℤ pos (2 ^ 127)) same ∙ sym n.1

-- ---- a sum by halves, with its carry c, and w out of it
carried : (g k h l hi lo c w : ℕ) → k + l ≡ lo + c * 2 ^ 64 → g + h + c ≡ hi + w * 2 ^ 64
    → (j : ℤ) × (of_halves hi lo ≡ of_halves g k +ℤ of_halves h l +ℤ j *ℤ pos (2 ^ 128))
unfolding of_halves
carried g k h l hi lo c w p q =
    let x = pos (g / 2 ^ 63) in
    let y = pos (h / 2 ^ 63) in
    let z = pos (hi / 2 ^ 63) in
    let ρ = pos g ∷ pos k ∷ pos h ∷ pos l ∷ pos hi ∷ pos lo ∷ pos c ∷ pos w ∷ x ∷ y ∷ z ∷ [] in
    let low = eq-in ρ (v5 ⊕ v6 ⊗ K) (v1 ⊕ v3) (ap pos (sym p)) in
    let high = eq-in ρ (v4 ⊕ v7 ⊗ K) (v0 ⊕ v2 ⊕ v6) (ap pos (sym q)) in (
      x +ℤ y -ℤ pos w -ℤ z,
      eq-by (low +⁰ K *⁰ high) (v4 ⊗ K ⊕ v5 ⊖ var 10 ⊗ K²)
          (v0 ⊗ K ⊕ v1 ⊖ var 8 ⊗ K² ⊕ (v2 ⊗ K ⊕ v3 ⊖ var 9 ⊗ K²) ⊕ (var 8 ⊕ var 9 ⊖ v7 ⊖ var 10) ⊗ K²)
          refl,
    )

halve : (n : ℕ) {q r : ℕ} → q ≡ n / 2 ^ 64 → r ≡ n % 2 ^ 64 → n ≡ r + q * 2 ^ 64
halve n e f = omega arith

chain : (K a s c hi u w : ℕ) → a ≡ s + u * K → s + c ≡ hi + w * K → a + c ≡ hi + (u + w) * K
chain K a s c hi u w p q = omega arith

-- s: the high halves' sum, before the carry c
pub added : (g k h l s c hi lo : ℕ) → c ≡ (k + l) / 2 ^ 64 → s ≡ (g + h) % 2 ^ 64 → hi ≡ (s + c) % 2 ^ 64 → lo ≡ (k + l) % 2 ^ 64
    → Fits128 (of_halves g k +ℤ of_halves h l)
    → of_halves hi lo ≡ of_halves g k +ℤ of_halves h l
added g k h l s c hi lo p q r t f =
    let high = chain (2 ^ 64) (g + h) s c hi _ _ (halve (g + h) refl q) (halve (s + c) refl r) in
    let e = carried g k h l hi lo c ((g + h) / 2 ^ 64 + (s + c) / 2 ^ 64) (halve (k + l) p t) high in
    unwrap _ _ e.0 (in-range hi lo (low_half (s + c) r) (low_half (k + l) t)) f e.1

back : (K hi h c s g u w : ℕ) → hi + c ≡ s + u * K → s + h ≡ g + w * K → hi + h + c ≡ g + (u + w) * K
back K hi h c s g u w p q = omega arith

-- the sum backwards. s: the high halves' difference, before the borrow c
pub subtracted : (g k h l s c hi lo : ℕ) → (lo + l) % 2 ^ 64 ≡ k → (s + h) % 2 ^ 64 ≡ g → c ≡ (lo + l) / 2 ^ 64
    → (hi + c) % 2 ^ 64 ≡ s → hi < 2 ^ 64 → lo < 2 ^ 64 → Fits128 (of_halves g k -ℤ of_halves h l)
    → of_halves hi lo ≡ of_halves g k -ℤ of_halves h l
subtracted g k h l s c hi lo p q r t b d f =
    let high = back (2 ^ 64) hi h c s g _ _ (halve (hi + c) refl (sym t)) (halve (s + h) refl (sym q)) in
    let e = carried hi lo h l g k c ((hi + c) / 2 ^ 64 + (s + h) / 2 ^ 64) (halve (lo + l) r (sym p)) high in
    let ρ = of_halves g k ∷ of_halves h l ∷ of_halves hi lo ∷ e.0 ∷ [] in
    let turned = num (negsuc 0) *⁰ eq-in ρ v0 (v2 ⊕ v1 ⊕ v3 ⊗ K²) e.1 in
    unwrap _ _ (neg_ℤ e.0) (in-range hi lo b d) f (eq-by turned v2 (v0 ⊖ v1 ⊕ ⊝ v3 ⊗ K²) refl)

-- ---- ranges, and signs
pub fits-abs : (z : ℤ) → unsigned_abs z < 2 ^ 127 → Fits128 z
fits-abs (pos n) h = record { sfits = h }
fits-abs (negsuc n) h = record { sfits = lt_of_le_of_lt (le-suc n) h }

pub fits_neg : (z : ℤ) → unsigned_abs z < 2 ^ 127 → Fits128 (neg_ℤ z)
fits_neg z h = fits-abs (neg_ℤ z) (rw (nat_abs-neg z) h)

-- for callers: a sum fits by absolute values
pub sum_fits : (x y : ℤ) → unsigned_abs x + unsigned_abs y < 2 ^ 127 → Fits128 (x +ℤ y)
sum_fits x y h = fits-abs (x +ℤ y) (lt_of_le_of_lt (nat_abs-+ x y) h)

pub sign-abs : (x : ℤ) → with_sign x (pos (unsigned_abs x)) ≡ x
unfolding with_sign
sign-abs (pos n) = refl
sign-abs (negsuc n) = refl

pub sign-mul : (x y : ℤ) → with_sign y (with_sign x (pos (unsigned_abs x * unsigned_abs y))) ≡ x *ℤ y
unfolding with_sign
sign-mul (pos m) (pos n) = refl
sign-mul (pos m) (negsuc n) = refl
sign-mul (negsuc m) (pos n) = refl
sign-mul (negsuc m) (negsuc n) = neg_ℤ-neg_ℤ (pos (suc m * suc n))

-- ---- a number without a sign, of at most 2 ^ 126
pub whole_is : (h l : ℕ) {n : ℕ} → h * 2 ^ 64 + l ≡ n → h < 2 ^ 63 → of_halves h l ≡ pos n
whole_is h l e b = clear-is h l b ∙ ap pos e

pub whole-fits : (h l : ℕ) {n : ℕ} → h * 2 ^ 64 + l ≡ n → h < 2 ^ 63 → n ≤ 2 ^ 126 → unsigned_abs (of_halves h l) < 2 ^ 127
whole-fits h l e b m = rw (whole_is h l e b) (lt_of_le_of_lt m (lit< tt))
