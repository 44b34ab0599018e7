-- The bits of a word: a power of two that is added to a word without it, or taken from a word with it, changes that bit alone. Assumes nothing.
use Rattle.std.specs.Prelude.{◌≢◌, ◌≡◌, refl, ℕ, zero, suc, ◌+◌, ◌-◌, ◌*◌, ◌/◌, ◌%◌, ◌^◌, ◌≤◌, ◌<◌}
use Rattle.std.proofs.Common.{sym, ◌∙◌, ap, pow-suc, mul_comm, arith}
use Rattle.std.proofs.Math.Nat.{div-div-eq-div-mul}
use Rattle.pending.specs.Set.{bit_of}

-- ---- bit by bit
pub bit-zero : (w : ℕ) → bit_of w 0 ≡ w % 2
unfolding bit_of
bit-zero w = omega arith

pub bit-suc : (w k : ℕ) → bit_of w (suc k) ≡ bit_of (w / 2) k
unfolding bit_of
bit-suc w k = ap (λ (m : ℕ). w / m % 2) (pow-suc 2 k ∙ mul_comm (2 ^ k) 2) ∙ ap (λ (m : ℕ). m % 2) (sym (div-div-eq-div-mul w 2 (2 ^ k)))

pub bit-two : (w k : ℕ) → bit_of w k < 2
unfolding bit_of
bit-two w k = two (w / 2 ^ k)
  where
    two : (m : ℕ) → m % 2 < 2
    two m = omega arith

-- the next power
twice : (k : ℕ) → 2 ^ suc k ≡ 2 * 2 ^ k
twice k = pow-suc 2 k ∙ mul_comm (2 ^ k) 2

module _ (w p : ℕ) where
  half-more : (w + 2 * p) / 2 ≡ w / 2 + p
  half-more = omega arith

  half-less : (w - 2 * p) / 2 ≡ w / 2 - p
  half-less = omega arith

  odd-more : (w + 2 * p) % 2 ≡ w % 2
  odd-more = omega arith

-- ---- a bit that is not there is put in
pub set_same : (w k : ℕ) → bit_of w k ≡ 0 → bit_of (w + 2 ^ k) k ≡ 1
set_same w zero e = let f : w % 2 ≡ 0 = sym (bit-zero w) ∙ e in bit-zero (w + 1) ∙ omega arith
set_same w (suc k) e =
    bit-suc (w + 2 ^ suc k) k
    ∙ ap (λ (m : ℕ). bit_of ((w + m) / 2) k) (twice k)
    ∙ ap (λ (m : ℕ). bit_of m k) (half-more w (2 ^ k))
    ∙ set_same (w / 2) k (sym (bit-suc w k) ∙ e)

pub set_other : (w k j : ℕ) → j ≢ k → bit_of w k ≡ 0 → bit_of (w + 2 ^ k) j ≡ bit_of w j
set_other w zero zero d e = absurd (d refl)
set_other w zero (suc j) d e =
    let f : w % 2 ≡ 0 = sym (bit-zero w) ∙ e in
    bit-suc (w + 1) j ∙ ap (λ (m : ℕ). bit_of m j) (omega arith) ∙ sym (bit-suc w j)
set_other w (suc k) zero d e =
    bit-zero (w + 2 ^ suc k) ∙ ap (λ (m : ℕ). (w + m) % 2) (twice k) ∙ odd-more w (2 ^ k) ∙ sym (bit-zero w)
set_other w (suc k) (suc j) d e =
    bit-suc (w + 2 ^ suc k) j
    ∙ ap (λ (m : ℕ). bit_of ((w + m) / 2) j) (twice k)
    ∙ ap (λ (m : ℕ). bit_of m j) (half-more w (2 ^ k))
    ∙ set_other (w / 2) k j (λ z. d (ap suc z)) (sym (bit-suc w k) ∙ e)
    ∙ sym (bit-suc w j)

-- the word has room for it
pub set-fits : (w k m : ℕ) → k < m → w < 2 ^ m → bit_of w k ≡ 0 → w + 2 ^ k < 2 ^ m
set-fits w k zero l u e = absurd (omega arith)
set-fits w zero (suc m) l u e =
    let f : w % 2 ≡ 0 = sym (bit-zero w) ∙ e in let t = twice m in omega arith
set-fits w (suc k) (suc m) l u e =
    let t = twice m in let s = twice k in
    let i = set-fits (w / 2) k m (omega arith) (omega arith) (sym (bit-suc w k) ∙ e) in omega arith

-- ---- a bit that is there
pub bit-least : (w k : ℕ) → bit_of w k ≡ 1 → 2 ^ k ≤ w
bit-least w zero e = let f : w % 2 ≡ 1 = sym (bit-zero w) ∙ e in omega arith
bit-least w (suc k) e = let i = bit-least (w / 2) k (sym (bit-suc w k) ∙ e) in let t = twice k in omega arith

-- is taken out
pub clear-same : (w k : ℕ) → bit_of w k ≡ 1 → bit_of (w - 2 ^ k) k ≡ 0
clear-same w zero e = let f : w % 2 ≡ 1 = sym (bit-zero w) ∙ e in bit-zero (w - 1) ∙ omega arith
clear-same w (suc k) e =
    bit-suc (w - 2 ^ suc k) k
    ∙ ap (λ (m : ℕ). bit_of ((w - m) / 2) k) (twice k)
    ∙ ap (λ (m : ℕ). bit_of m k) (half-less w (2 ^ k))
    ∙ clear-same (w / 2) k (sym (bit-suc w k) ∙ e)

pub clear-other : (w k j : ℕ) → j ≢ k → bit_of w k ≡ 1 → bit_of (w - 2 ^ k) j ≡ bit_of w j
clear-other w zero zero d e = absurd (d refl)
clear-other w zero (suc j) d e =
    let f : w % 2 ≡ 1 = sym (bit-zero w) ∙ e in
    bit-suc (w - 1) j ∙ ap (λ (m : ℕ). bit_of m j) (omega arith) ∙ sym (bit-suc w j)
clear-other w (suc k) zero d e =
    let b = bit-least w (suc k) e in let t = twice k in
    bit-zero (w - 2 ^ suc k) ∙ omega arith ∙ sym (bit-zero w)
clear-other w (suc k) (suc j) d e =
    bit-suc (w - 2 ^ suc k) j
    ∙ ap (λ (m : ℕ). bit_of ((w - m) / 2) j) (twice k)
    ∙ ap (λ (m : ℕ). bit_of m j) (half-less w (2 ^ k))
    ∙ clear-other (w / 2) k j (λ z. d (ap suc z)) (sym (bit-suc w k) ∙ e)
    ∙ sym (bit-suc w j)

-- a word of zeros
pub no_bits : (k : ℕ) → bit_of 0 k ≡ 0
no_bits zero = bit-zero 0
no_bits (suc k) = bit-suc 0 k ∙ no_bits k
