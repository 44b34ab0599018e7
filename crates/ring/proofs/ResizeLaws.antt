-- Laws of specs/Resize.antt.
use Rattle.std.specs.Prelude.{◌≡◌, refl, Bool, true, false, cond, ◌&&◌, ℕ, zero, suc, ◌+◌, ◌*◌, ◌/◌, ◌%◌, ◌^◌, ◌<◌, ◌≤◌, T, ltb, leb}
use Rattle.std.proofs.Common.{sym, ◌∙◌, ap, subst, mul-div_cancel, arith, ltb→lt, leb→le, lit≤}
use Rattle.std.proofs.Math.Nat.{two-pow-succ}
use Rattle.segment.specs.Bucket.{Buckets, width, ceil_of}
use Rattle.segment.proofs.Laws.{bucket-width}
use Rattle.sums.proofs.BitLaws.{and_right}
use Rattle.ring.specs.Ring.{full_turn}
use Rattle.ring.specs.Buckets.{ceiling, Sized}
use Rattle.ring.specs.Resize.{adjusted_buckets}

-- by what it is
adjusted : (P : ℕ → Type 0) (num size : ℕ) → (num * 2 < size → P (num * 2)) → (16 ≤ num / 4 → P (num / 4)) → P num
    → P (adjusted_buckets num size)
unfolding adjusted_buckets
adjusted P num size up down same = go (ltb (num * 2) size) (ltb (size * 4) num && ltb 16 num && leb 16 (num / 4)) (ltb→lt (num * 2) size)
    (λ t. down (leb→le 16 (num / 4) (and_right (ltb (size * 4) num && ltb 16 num) (leb 16 (num / 4)) t)))
  where
    go : (a b : Bool) → (T a → num * 2 < size) → (T b → P (num / 4)) → P (cond a (num * 2) (cond b (num / 4) num))
    go true b f g = up (f tt)
    go false true f g = g tt
    go false false f g = same

-- 01: "max(16, N) buckets" suffice for rings of at most N nodes
pub adjusted-most : (num size most : ℕ) → size ≤ most → num ≤ most → adjusted_buckets num size ≤ most
adjusted-most num size most a b = adjusted (λ n. n ≤ most) num size (λ u. omega arith) (λ u. omega arith) b

-- 01: "Buckets start at 8 and number 8 times a power of two, changed as in 000."
pub eight-buckets : Buckets 8
eight-buckets = record { power = (0, refl); most = lit≤ tt }

quarter : (j : ℕ) → 16 ≤ 8 * 2 ^ j / 4 → (i : ℕ) × (8 * 2 ^ j / 4 ≡ 8 * 2 ^ i)
quarter zero h = absurd (few h)
  where
    few : 16 ≤ 8 * 2 ^ 0 / 4 → ⊥
    few h = omega (arith, h)
quarter (suc zero) h = absurd (few h)
  where
    few : 16 ≤ 8 * 2 ^ 1 / 4 → ⊥
    few h = omega (arith, h)
quarter (suc (suc i)) h =
    (i, ap (λ (n : ℕ). n / 4) (four (2 ^ i) (2 ^ suc i) (2 ^ suc (suc i)) (two-pow-succ i) (two-pow-succ (suc i))) ∙ mul-div_cancel (8 * 2 ^ i) (omega arith))
  where
    four : (a b c : ℕ) → b ≡ a + a → c ≡ b + b → 8 * c ≡ 8 * a * 4
    four a b c p q = omega arith

pub adjusted-buckets : {num : ℕ} (size : ℕ) → size ≤ 2 ^ 20 → Buckets num → Buckets (adjusted_buckets num size)
adjusted-buckets {num} size s B = record {
  power = adjusted (λ n. (j : ℕ) × (n ≡ 8 * 2 ^ j)) num size (λ u. double B.power) (λ u. fourth B.power u) B.power;
  most = adjusted-most num size (2 ^ 20) s B.most;
}
  where
    double : (j : ℕ) × (num ≡ 8 * 2 ^ j) → (j : ℕ) × (num * 2 ≡ 8 * 2 ^ j)
    double (j, e) = (suc j, twice num (2 ^ j) (2 ^ suc j) e (two-pow-succ j))
      where
        twice : (n a b : ℕ) → n ≡ 8 * a → b ≡ a + a → n * 2 ≡ 8 * b
        twice n a b p q = omega arith

    fourth : (j : ℕ) × (num ≡ 8 * 2 ^ j) → 16 ≤ num / 4 → (j : ℕ) × (num / 4 ≡ 8 * 2 ^ j)
    fourth (j, e) u = let r = quarter j (subst (λ (n : ℕ). 16 ≤ n / 4) e u) in (r.0, ap (λ (n : ℕ). n / 4) e ∙ r.1)

-- ---- the circle in buckets of one width
pub buckets-sized : {B : ℕ} → Buckets B → Sized full_turn B (width B)
buckets-sized {B} b = let w = bucket-width B b in record { eight = w.1; room = w.0; all = w.2 }
