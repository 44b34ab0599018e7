-- A bound on an absolute value, as the code tests it: from above and from below. And what the range of coordinates says of a point.
-- Assumes nothing.
use Rattle.std.specs.Prelude.{◌≡◌, refl, Bool, true, false, ◌&&◌, ℕ, zero, suc, ◌<◌, T, leb, ℤ, pos, negsuc, neg_ℤ, nat_abs, ◌<ℤ◌, ◌≤ℤ◌}
use Rattle.std.proofs.Common.{ap₂, suc-le-suc, zero-le, not-suc-le-zero, le-leb, leb-true, ltb→lt}
use Rattle.std.proofs.lemmas.Bool.{false≢true, lt-leb}
use Rattle.std.specs.Int.Signed.{lt_z}
use Rattle.algebra.proofs.Bound.{abs-by}
use Rattle.math.specs.declared.Point.{Point}
use Rattle.math.specs.Determinant.{InRange, is_valid_coordinate, is_valid_vertex}

pub abs-above : (B : ℕ) {z : ℤ} → pos B <ℤ z → B < nat_abs z
abs-above B {z} h = go z h.lt
  where
    go : (z : ℤ) → T (lt_z (pos B) z) → B < nat_abs z
    go (pos n) t = ltb→lt B n t
    go (negsuc n) t = absurd t

pub abs-below : (B : ℕ) {z : ℤ} → z <ℤ neg_ℤ (pos B) → B < nat_abs z
abs-below B {z} h = go B z h.lt
  where
    go : (B : ℕ) (z : ℤ) → T (lt_z z (neg_ℤ (pos B))) → B < nat_abs z
    go zero (pos n) t = absurd (not-suc-le-zero (ltb→lt n 0 t))
    go zero (negsuc n) t = suc-le-suc zero-le
    go (suc B) (pos n) t = absurd t
    go (suc B) (negsuc n) t = suc-le-suc (ltb→lt B n t)

-- ---- the three ways out of the two tests
pub test-within : (B : ℕ) {z : ℤ} → neg_ℤ (pos B) ≤ℤ z → z ≤ℤ pos B → leb (nat_abs z) B ≡ true
test-within B {z} h k = le-leb (nat_abs z) B (abs-by h k)

pub test-above : (B : ℕ) {z : ℤ} → pos B <ℤ z → leb (nat_abs z) B ≡ false
test-above B {z} h = lt-leb (nat_abs z) B (abs-above B h)

pub test_below : (B : ℕ) {z : ℤ} → z <ℤ neg_ℤ (pos B) → leb (nat_abs z) B ≡ false
test_below B {z} h = lt-leb (nat_abs z) B (abs-below B h)

-- ---- a point in range is a valid vertex
both : (a b : Bool) → (a && b) ≡ true → (a ≡ true) × (b ≡ true)
both true b e = (refl, e)
both false b e = absurd (false≢true e)

pub in-range : {p : Point} → is_valid_vertex p ≡ true → InRange p
in-range {p} e =
    let h = both (is_valid_coordinate p.x) (is_valid_coordinate p.y) e in
    record { x = leb-true (nat_abs p.x) 16777216 h.0; y = leb-true (nat_abs p.y) 16777216 h.1 }

pub valid-vertex : {p : Point} → InRange p → is_valid_vertex p ≡ true
valid-vertex {p} h = ap₂ ◌&&◌ (le-leb (nat_abs p.x) 16777216 h.x) (le-leb (nat_abs p.y) 16777216 h.y)
