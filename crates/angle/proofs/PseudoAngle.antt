-- The pseudo-angle at any format f: a whole number of 2 ^ -prec, from 0 to 1. Assumes nothing.
-- U is 1.0 in units of the format's smallest value. |p| ≤ U, since rounding keeps the order and |x| is fixed by it.
-- 3 - p lies in [2U, 4U], so a quarter of it, rounded, in [U/2, U], where rounding gives multiples of 2 ^ -prec, and 1
-- less that is exact. 1 + p lies in [0, 2U], a quarter of it in [0, U/2], and 1 less that in [U/2, U].
use Rattle.std.specs.Prelude.{◌≡◌, refl, ◌⊎◌, Bool, true, false, not, ◌&&◌, cond, ℤ, pos, negsuc, T, leb, ltb, eqb, Float}
use Rattle.std.proofs.Common.{sym, ap, ◌∙◌, subst, inl, inr, le_refl, le_of_eq, le_trans, lt_of_lt_of_le, lt_irrefl, pos_of_ne-zero, one-mul, mul-one, zero-mul, mul_comm, mul_assoc, mul_right_comm, mul-pos, mul-le-mul_right, le_of_mul-le-mul_right, add_comm, leb→le, eqb→eq, lit≤, lit<, pow-add, pow_pos, pow_mono}
use Prim.Native.Nat.{ℕ, zero, suc, ◌+◌, ◌-◌, ◌*◌, ◌%◌, ◌^◌, ◌≤◌, ◌<◌, zero-le}
use Rattle.std.proofs.Math.Nat.{mul-sub, eq_of_mul-eq-mul_right, two-pow-succ}
use native.Mathlib.Omega.{arith}
use Rattle.std.specs.Float.{nan, inf, fin, Format, binary32, binary64}
use Rattle.std.specs.Float.Ieee.{prec, emax, low, up, down, round, add, sub, mul, div, eq, fits}
use Rattle.std.specs.Float.Ieee.Digits.{back}
use Rattle.std.specs.Float.Ieee.Fits.{up_pos, down_pos, and_l, and_r, two}
use Rattle.std.specs.Float.Ieee.Exact.{HasValue}
use Rattle.std.specs.Float.Ieee.Scale.{grid}
use Rattle.angle.proofs.Powers.{pow_le_back}
use Rattle.angle.specs.Angle.{absolute_of, quarter, one64, three64, bounded}
use Rattle.angle.proofs.Grid.{grid-le, grid-exact, grid-pow, grid-again, grid-multiple}
use Rattle.algebra.proofs.Fractions.{sum_like}
use Rattle.angle.proofs.Values.{Val, add_at, sub_at, sum_less, difference, eq-at, div-at, quarter-at, absolute-at, round-at, under}

-- ---- the sign and the size, in units, of a value that the format holds
place : (l m : ℕ) (e : ℤ) → down e ≤ 2 ^ l → (g : ℕ) × (m * up e * 2 ^ l ≡ g * down e)
place l m (pos a) h = (m * 2 ^ a * 2 ^ l, sym (mul-one (m * 2 ^ a * 2 ^ l)))
place l m (negsuc a) h = (
  m * 2 ^ (l - suc a),
  ap (λ (x : ℕ). x * 2 ^ l) (mul-one m)
      ∙ ap (λ (x : ℕ). m * x) (ap (λ (x : ℕ). 2 ^ x) (sym (back l (suc a) (pow_le_back (suc a) l h))) ∙ pow-add 2 (l - suc a) (suc a))
      ∙ sym (mul_assoc m (2 ^ (l - suc a)) (2 ^ suc a)),
)

pub down_le : (f : Format) (s : Bool) (m : ℕ) (e : ℤ) → T (fits f (fin s m e)) → down e ≤ 2 ^ low f
unfolding fits
down_le f s zero e h =
    le_trans (le_trans (le_of_eq (sym (one-mul (down e)))) (mul-le-mul_right (down e) (up_pos e))) (le_trans (le_of_eq (eqb→eq (up e * down e) 1 h)) (pow_pos (low f)))
down_le f s (suc m) e h =
    leb→le (down e) (2 ^ low f) (and_r (eqb (suc m % 2) 1 && ltb (suc m) (2 ^ prec f)) (leb (down e) (2 ^ low f)) (and_l (eqb (suc m % 2) 1 && ltb (suc m) (2 ^ prec f) && leb (down e) (2 ^ low f)) (ltb (suc m * up e) (2 ^ suc (emax f) * down e)) h))

pub unit-of : (f : Format) (x : Float) → T (fits f x) → T (bounded 31 x) → (s : Bool) × (g : ℕ) × Val f x s g × (g ≤ 2 ^ (low f + 31))
unfolding bounded
unit-of f nan h k = absurd k
unit-of f (inf s) h k = absurd k
unit-of f (fin s m e) h k =
    let l = low f in
    let p = place l m e (down_le f s m e h) in
    let b : m * up e ≤ 2 ^ 31 * down e = leb→le (m * up e) (2 ^ 31 * down e) k in (
      s,
      p.0,
      (refl, p.1),
      le_of_mul-le-mul_right
          (le_trans (le_of_eq (sym p.1))
          (le_trans (mul-le-mul_right (2 ^ l) b)
          (le_of_eq (mul_right_comm (2 ^ 31) (down e) (2 ^ l) ∙ ap (λ (x : ℕ). x * down e) (mul_comm (2 ^ 31) (2 ^ l) ∙ sym (pow-add 2 l 31))))))
          (down_pos e),
    )

-- ---- rounding a whole number of units
abbrev U : Format → ℕ
U f = 2 ^ low f

unit-mono : (f : Format) (a b : ℕ) → a ≤ b → grid f a (U f) ≤ grid f b (U f)
unit-mono f a b h = grid-le f a (U f) b (U f) (pow_pos (low f)) (pow_pos (low f)) (mul-le-mul_right (U f) h)

unit-pow : (f : Format) (j : ℕ) → grid f (2 ^ j) (U f) ≡ 2 ^ j
unit-pow f j = grid-pow f (2 ^ j) (U f) j (pow_pos (low f)) refl

unit-most : (f : Format) (n j : ℕ) → n ≤ 2 ^ j → grid f n (U f) ≤ 2 ^ j
unit-most f n j h = le_trans (unit-mono f n (2 ^ j) h) (le_of_eq (unit-pow f j))

unit-least : (f : Format) (n j : ℕ) → 2 ^ j ≤ n → 2 ^ j ≤ grid f n (U f)
unit-least f n j h = le_trans (le_of_eq (sym (unit-pow f j))) (unit-mono f (2 ^ j) n h)

unit-pos : (f : Format) (n : ℕ) → 0 < n → 0 < grid f n (U f)
unit-pos f n h = unit-least f n 0 h

-- ---- the difference of two values within 2 ^ 31
double : (l a b : ℕ) → a ≤ 2 ^ (l + 31) → b ≤ 2 ^ (l + 31) → a + b ≤ 2 ^ (l + 32)
double l a b h k = subst (λ (x : ℕ). a + b ≤ x) (sym (ap (λ (x : ℕ). 2 ^ x) (step l) ∙ two-pow-succ (l + 31))) (both (2 ^ (l + 31)) h k)
  where
    step : (l : ℕ) → l + 32 ≡ suc (l + 31)
    step l = omega arith

    both : (p : ℕ) → a ≤ p → b ≤ p → a + b ≤ p + p
    both p h k = omega arith

abbrev pub Diff : Format → Float → Type 0 → Type 0
Diff f x same = (s : Bool) × (g : ℕ) × Val f x s g × (g ≤ 2 ^ (low f + 32)) × (grid f g (U f) ≡ g) × ((same → ⊥) → 0 < g)

pub diff : (f : Format) (a c : Float) → T (fits f a) → T (fits f c) → T (bounded 31 a) → T (bounded 31 c) → Diff f (sub f a c) (T (eq a c))
diff f a c fa fc na nc =
    let A = unit-of f a fa na in
    let C = unit-of f c fc nc in
    let G = difference f A.0 A.1 C.0 C.1 (U f) in
    let n = G.1 in
    let most : n ≤ 2 ^ (low f + 32) = le_trans G.3 (double (low f) A.1 C.1 A.3 C.3) in
    let top : grid f n (U f) ≤ 2 ^ (low f + 32) = unit-most f n (low f + 32) most in
    let is : sub f a c ≡ round f G.0 n (U f) = sub_at f a c A.0 C.0 A.1 C.1 A.2 C.2 ∙ G.2 in (
      G.0,
      grid f n (U f),
      subst (λ (z : Float). Val f z G.0 (grid f n (U f))) (sym is) (round-at f G.0 n (U f) (under f (grid f n (U f)) 32 (lit≤ tt) top)),
      top,
      grid-again f n (U f),
      λ no. unit-pos f n (pos_of_ne-zero (λ (z : n ≡ 0). no (subst T (sym (eq-at a c A.0 C.0 A.1 C.1 (U f) (pow_pos (low f)) A.2 C.2)) (G.4 z)))),
    )

-- ---- x / (|x| + |y|) is at most 1 in size
double33 : (l a b : ℕ) → a ≤ 2 ^ (l + 32) → b ≤ 2 ^ (l + 32) → a + b ≤ 2 ^ (l + 33)
double33 l a b h k = subst (λ (x : ℕ). a + b ≤ x) (sym (ap (λ (x : ℕ). 2 ^ x) (step l) ∙ two-pow-succ (l + 32))) (both (2 ^ (l + 32)) h k)
  where
    step : (l : ℕ) → l + 33 ≡ suc (l + 32)
    step l = omega arith

    both : (p : ℕ) → a ≤ p → b ≤ p → a + b ≤ p + p
    both p h k = omega arith

le-sum : (a b : ℕ) → a ≤ a + b
le-sum a b = omega arith

at_most_one : (f : Format) (a b : ℕ) → 0 < b → a ≤ b → grid f a b ≤ U f
at_most_one f a b B h =
    le_trans (grid-le f a b 1 1 B (lit< tt) (le_trans (le_of_eq (mul-one a)) (le_trans h (le_of_eq (sym (one-mul b))))))
    (le_of_eq (grid-pow f 1 1 (low f) (lit< tt) (one-mul (U f) ∙ sym (mul-one (U f)))))

zero_room : (l : ℕ) → l ≤ l + 0
zero_room l = omega arith

pub slope-at : (f : Format) (x y : Float) (s t : Bool) (a b : ℕ) → Val f x s a → Val f y t b → a ≤ 2 ^ (low f + 32)
    → b ≤ 2 ^ (low f + 32) → grid f a (U f) ≡ a → 0 < a + b
    → (g : ℕ) × Val f (div f x (add f (absolute_of x) (absolute_of y))) s g × (g ≤ U f)
slope-at f x y s t a b v w ha hb fixed some =
    let S = add f (absolute_of x) (absolute_of y) in
    let n = a + b in
    let top : grid f n (U f) ≤ 2 ^ (low f + 33) = unit-most f n (low f + 33) (double33 (low f) a b ha hb) in
    let is : S ≡ round f false n (U f) = add_at f (absolute_of x) (absolute_of y) false false a b (absolute-at x s a (U f) v) (absolute-at y t b (U f) w) ∙ sum_like f false a b (U f) in
    let vS : Val f S false (grid f n (U f)) = subst (λ (z : Float). Val f z false (grid f n (U f))) (sym is) (round-at f false n (U f) (under f (grid f n (U f)) 33 (lit≤ tt) top)) in
    let pos : 0 < grid f n (U f) = unit-pos f n some in
    let le : a ≤ grid f n (U f) = le_trans (le_of_eq (sym fixed)) (unit-mono f a n (le-sum a b)) in
    let small : grid f a (grid f n (U f)) ≤ U f = at_most_one f a (grid f n (U f)) pos le in (
      grid f a (grid f n (U f)),
      subst (λ (z : Float). Val f z s (grid f a (grid f n (U f)))) (sym (div-at f x S s a (grid f n (U f)) v vS pos))
          (round-at f s a (grid f n (U f)) (under f (grid f a (grid f n (U f))) 0 zero-le (le_trans small (pow_mono (zero_room (low f)))))),
      small,
    )

-- ---- 3 - p, 1 + p
one_at : (f : Format) → Val f one64 false (U f)
one_at f = (refl, one-mul (U f) ∙ sym (mul-one (U f)))

three-at : (f : Format) → Val f three64 false (3 * U f)
three-at f = (refl, sym (mul-one (3 * U f)))

-- a value that is not negative, with its size between two bounds
abbrev Within : Format → Float → ℕ → ℕ → Type 0
Within f x lo hi = (g : ℕ) × Val f x false g × (lo ≤ g) × (g ≤ hi)

pow-two : (l : ℕ) → 2 ^ (l + 2) ≡ 4 * 2 ^ l
pow-two l = pow-add 2 l 2 ∙ mul_comm (2 ^ l) 4

pow-one : (l : ℕ) → 2 ^ (l + 1) ≡ 2 * 2 ^ l
pow-one l = pow-add 2 l 1 ∙ mul_comm (2 ^ l) 2

rounded : (f : Format) (x : Float) (n lo : ℕ) → x ≡ round f false n (U f) → lo ≤ grid f n (U f)
    → n ≤ 2 ^ (low f + 2) → Within f x lo (2 ^ (low f + 2))
rounded f x n lo is h k =
    let top : grid f n (U f) ≤ 2 ^ (low f + 2) = unit-most f n (low f + 2) k in
    (grid f n (U f), subst (λ (z : Float). Val f z false (grid f n (U f))) (sym is) (round-at f false n (U f) (under f (grid f n (U f)) 2 (lit≤ tt) top)), h, top)

more-lo : (u a q : ℕ) → q ≡ 2 * u → q ≤ 3 * u + a
more-lo u a q e = omega arith

more-hi : (u a q : ℕ) → q ≡ 4 * u → a ≤ u → 3 * u + a ≤ q
more-hi u a q e h = omega arith

less-lo : (u a q : ℕ) → q ≡ 2 * u → a ≤ u → q ≤ 3 * u - a
less-lo u a q e h = omega arith

less-hi : (u a q : ℕ) → q ≡ 4 * u → 3 * u - a ≤ q
less-hi u a q e = omega arith

thrice : (u a : ℕ) → a ≤ u → a ≤ 3 * u
thrice u a h = omega arith

three-less : (f : Format) (p : Float) (s : Bool) (a : ℕ) → Val f p s a → a ≤ U f
    → Within f (sub f three64 p) (2 ^ (low f + 1)) (2 ^ (low f + 2))
three-less f p true a v h =
    rounded f (sub f three64 p) (3 * U f + a) (2 ^ (low f + 1)) (sub_at f three64 p false true (3 * U f) a (three-at f) v ∙ sum_like f false (3 * U f) a (U f))
    (unit-least f (3 * U f + a) (low f + 1) (more-lo (U f) a (2 ^ (low f + 1)) (pow-one (low f)))) (more-hi (U f) a (2 ^ (low f + 2)) (pow-two (low f)) h)
three-less f p false a v h =
    rounded f (sub f three64 p) (3 * U f - a) (2 ^ (low f + 1)) (sub_at f three64 p false false (3 * U f) a (three-at f) v ∙ sum_less f (3 * U f) a (U f) (thrice (U f) a h))
    (unit-least f (3 * U f - a) (low f + 1) (less-lo (U f) a (2 ^ (low f + 1)) (pow-one (low f)) h)) (less-hi (U f) a (2 ^ (low f + 2)) (pow-two (low f)))

-- 1 + p is 2 at most
one-most : (u a q : ℕ) → q ≡ 2 * u → a ≤ u → u + a ≤ q
one-most u a q e h = omega arith

one-least : (u a q : ℕ) → q ≡ 2 * u → u - a ≤ q
one-least u a q e = omega arith

wider : (l : ℕ) → l + 1 ≤ l + 2
wider l = omega arith

one_more : (f : Format) (p : Float) (s : Bool) (a : ℕ) → Val f p s a → a ≤ U f → Within f (add f one64 p) 0 (2 ^ (low f + 1))
one_more f p s a v h =
    let n = pick s in
    let is : add f one64 p ≡ round f false n (U f) = sums s v in
    let top : grid f n (U f) ≤ 2 ^ (low f + 1) = unit-most f n (low f + 1) (most s) in
    (grid f n (U f), subst (λ (z : Float). Val f z false (grid f n (U f))) (sym is) (round-at f false n (U f) (under f (grid f n (U f)) 1 (lit≤ tt) top)), zero-le, top)
  where
    pick : Bool → ℕ
    pick true = U f - a
    pick false = U f + a

    sums : (s : Bool) → Val f p s a → add f one64 p ≡ round f false (pick s) (U f)
    sums true v = add_at f one64 p false true (U f) a (one_at f) v ∙ sum_less f (U f) a (U f) h
    sums false v = add_at f one64 p false false (U f) a (one_at f) v ∙ sum_like f false (U f) a (U f)

    most : (s : Bool) → pick s ≤ 2 ^ (low f + 1)
    most true = one-least (U f) a (2 ^ (low f + 1)) (pow-one (low f))
    most false = one-most (U f) a (2 ^ (low f + 1)) (pow-one (low f)) h

-- ---- a quarter of it
quarter-pow : (f : Format) (j : ℕ) → grid f (2 ^ (j + 2)) (U f * 4) ≡ 2 ^ j
quarter-pow f j = grid-pow f (2 ^ (j + 2)) (U f * 4) j (mul-pos (pow_pos (low f)) (lit< tt)) (ap (λ (x : ℕ). x * U f) (pow-add 2 j 2) ∙ mul_assoc (2 ^ j) 4 (U f) ∙ ap (λ (x : ℕ). 2 ^ j * x) (mul_comm 4 (U f)))

quarter-mono : (f : Format) (a b : ℕ) → a ≤ b → grid f a (U f * 4) ≤ grid f b (U f * 4)
quarter-mono f a b h = grid-le f a (U f * 4) b (U f * 4) (mul-pos (pow_pos (low f)) (lit< tt)) (mul-pos (pow_pos (low f)) (lit< tt)) (mul-le-mul_right (U f * 4) h)

quarter-most : (f : Format) (n j : ℕ) → n ≤ 2 ^ (j + 2) → grid f n (U f * 4) ≤ 2 ^ j
quarter-most f n j h = le_trans (quarter-mono f n (2 ^ (j + 2)) h) (le_of_eq (quarter-pow f j))

quarter-least : (f : Format) (n j : ℕ) → 2 ^ (j + 2) ≤ n → 2 ^ j ≤ grid f n (U f * 4)
quarter-least f n j h = le_trans (le_of_eq (sym (quarter-pow f j))) (quarter-mono f (2 ^ (j + 2)) n h)

-- ---- the format reaches further down than it has digits
digits : (f : Format) → prec f ≤ low f
digits binary32 = lit≤ tt
digits binary64 = lit≤ tt

pos_of : (p l : ℕ) → 2 ≤ p → p ≤ l → suc (l - 1) ≡ l
pos_of p l a b = omega arith

half_up : (l : ℕ) → suc (l - 1) ≡ l → l - 1 + 2 ≡ l + 1
half_up l h = omega arith

below : (l : ℕ) → l - 1 ≤ l
below l = omega arith

-- the result: k times 2 ^ -prec
abbrev pub Turn : Format → Float → Type 0
Turn f x = (k : ℕ) × (k ≤ 2 ^ prec f) × HasValue x false k (2 ^ prec f)

rescale : (x : Float) (k p w : ℕ) → 0 < w → HasValue x false (k * w) (p * w) → HasValue x false k p
rescale nan k p w W v = v
rescale (inf s) k p w W v = v
rescale (fin s m e) k p w W v = (v.0, eq_of_mul-eq-mul_right w W (m * up e * p) (k * down e) (mul_assoc (m * up e) p w ∙ v.1 ∙ mul_right_comm k w (down e)))

abbrev W : Format → ℕ
W f = 2 ^ (low f - prec f)

whole : (f : Format) → U f ≡ 2 ^ prec f * W f
whole f = ap (λ (x : ℕ). 2 ^ x) (sym (back (low f) (prec f) (digits f)) ∙ add_comm (low f - prec f) (prec f)) ∙ pow-add 2 (prec f) (low f - prec f)

turn : (f : Format) (x : Float) (k : ℕ) → k ≤ 2 ^ prec f → Val f x false (k * W f) → Turn f x
turn f x k h v = (k, h, rescale x k (2 ^ prec f) (W f) (pow_pos (low f - prec f)) (subst (λ (z : ℕ). HasValue x false (k * W f) z) (whole f) v))

-- 1 - m, for an m up to 1
last-at : (f : Format) (m : Float) (g : ℕ) → Val f m false g → g ≤ U f → Val f (sub f one64 m) false (grid f (U f - g) (U f))
last-at f m g v h =
    let top : grid f (U f - g) (U f) ≤ 2 ^ (low f + 0) = le_trans (unit-most f (U f - g) (low f) (fall (U f) g)) (pow_mono (zero_room (low f))) in
    subst (λ (z : Float). Val f z false (grid f (U f - g) (U f))) (sym (sub_at f one64 m false false (U f) g (one_at f) v ∙ sum_less f (U f) g (U f) h))
    (round-at f false (U f - g) (U f) (under f (grid f (U f - g) (U f)) 0 zero-le top))
  where
    fall : (a b : ℕ) → a - b ≤ a
    fall a b = omega arith

quarter-val : (f : Format) (x : Float) (g j : ℕ) → Val f x false g → j ≤ low f → g ≤ 2 ^ (j + 2)
    → Val f (mul f x quarter) false (grid f g (U f * 4))
quarter-val f x g j v J h =
    subst (λ (z : Float). Val f z false (grid f g (U f * 4))) (sym (quarter-at f x g v))
    (round-at f false g (U f * 4) (under f (grid f g (U f * 4)) 0 zero-le (le_trans (quarter-most f g j h) (pow_mono (le_trans J (zero_room (low f)))))))

sub-mul : (a b c : ℕ) → a * c - b * c ≡ (a - b) * c
sub-mul a b c = sym (mul_comm (a - b) c ∙ mul-sub c a b ∙ ap (λ (x : ℕ). x - c * b) (mul_comm c a) ∙ ap (λ (x : ℕ). a * c - x) (mul_comm c b))

less-than : (p q : ℕ) → 0 < p → 0 < q → p - q < p
less-than p q h k = omega arith

fall-le : (p q : ℕ) → p - q ≤ p
fall-le p q = omega arith

factor-pos : (q w m : ℕ) → m ≡ q * w → 0 < m → 0 < q
factor-pos zero w m e h = absurd (lt_irrefl 0 (subst (λ (x : ℕ). 0 < x) (e ∙ zero-mul w) h))
factor-pos (suc q) w m e h = lt_of_lt_of_le (lit< tt) (unfold-suc q)
  where
    unfold-suc : (q : ℕ) → 1 ≤ suc q
    unfold-suc q = omega arith

-- the upper half: 3 - p
upper : (f : Format) (t : Float) → Within f t (2 ^ (low f + 1)) (2 ^ (low f + 2)) → Turn f (sub f one64 (mul f t quarter))
upper f t (g, v, lo, hi) =
    let l = low f in
    let H : suc (l - 1) ≡ l = pos_of (prec f) l (two f) (digits f) in
    let up2 : l - 1 + 2 ≡ l + 1 = half_up l H in
    let M = grid f g (U f * 4) in
    let lo' : 2 ^ (l - 1 + 2) ≤ g = subst (λ (x : ℕ). 2 ^ x ≤ g) (sym up2) lo in
    let least : 2 ^ (l - 1) ≤ M = quarter-least f g (l - 1) lo' in
    let most : M ≤ U f = quarter-most f g l hi in
    let mult = grid-multiple f g (U f * 4) (l - 1) (mul-pos (pow_pos l) (lit< tt))
    (le_trans (le_of_eq (ap (λ (x : ℕ). 2 ^ (l - 1) * x) (mul_comm (U f) 4) ∙ sym (mul_assoc (2 ^ (l - 1)) 4 (U f)) ∙ ap (λ (x : ℕ). x * U f) (sym (pow-add 2 (l - 1) 2)))) (mul-le-mul_right (U f) lo')) in
    let q = mult.0 in
    let M-is : M ≡ q * W f = mult.1 ∙ ap (λ (x : ℕ). q * 2 ^ (x - prec f)) H in
    let q-pos : 0 < q = factor-pos q (W f) M M-is (lt_of_lt_of_le (pow_pos (l - 1)) least) in
    let k = 2 ^ prec f - q in
    let rest : U f - M ≡ k * W f = ap (λ (x : ℕ). x - M) (whole f) ∙ ap (λ (x : ℕ). 2 ^ prec f * W f - x) M-is ∙ sub-mul (2 ^ prec f) q (W f) in
    let exact : grid f (U f - M) (U f) ≡ k * W f = grid-exact f (U f - M) (U f) k (l - prec f) (pow_pos l) (less-than (2 ^ prec f) q (pow_pos (prec f)) q-pos) (ap (λ (x : ℕ). x * U f) rest) in
    let vM : Val f (mul f t quarter) false M = quarter-val f t g l v (le_refl l) hi in
    turn f (sub f one64 (mul f t quarter)) k (fall-le (2 ^ prec f) q) (subst (λ (x : ℕ). Val f (sub f one64 (mul f t quarter)) false x) exact (last-at f (mul f t quarter) M vM most))

-- the lower half: 1 + p
lower : (f : Format) (t : Float) → Within f t 0 (2 ^ (low f + 1)) → Turn f (sub f one64 (mul f t quarter))
lower f t (g, v, lo, hi) =
    let l = low f in
    let H : suc (l - 1) ≡ l = pos_of (prec f) l (two f) (digits f) in
    let up2 : l - 1 + 2 ≡ l + 1 = half_up l H in
    let M = grid f g (U f * 4) in
    let hi' : g ≤ 2 ^ (l - 1 + 2) = subst (λ (x : ℕ). g ≤ 2 ^ x) (sym up2) hi in
    let most : M ≤ 2 ^ (l - 1) = quarter-most f g (l - 1) hi' in
    let twice : U f ≡ 2 ^ (l - 1) + 2 ^ (l - 1) = ap (λ (x : ℕ). 2 ^ x) (sym H) ∙ two-pow-succ (l - 1) in
    let big : 2 ^ (l - 1) ≤ U f - M = left (U f) (2 ^ (l - 1)) M twice most in
    let mult = grid-multiple f (U f - M) (U f) (l - 1) (pow_pos l) (mul-le-mul_right (U f) big) in
    let q = mult.0 in
    let R-is : grid f (U f - M) (U f) ≡ q * W f = mult.1 ∙ ap (λ (x : ℕ). q * 2 ^ (x - prec f)) H in
    let q-le : q ≤ 2 ^ prec f = le_of_mul-le-mul_right (le_trans (le_of_eq (sym R-is)) (le_trans (unit-most f (U f - M) l (fall-le (U f) M)) (le_of_eq (whole f)))) (pow_pos (l - prec f)) in
    let vM : Val f (mul f t quarter) false M = quarter-val f t g (l - 1) v (below l) hi' in
    turn f (sub f one64 (mul f t quarter)) q q-le (subst (λ (x : ℕ). Val f (sub f one64 (mul f t quarter)) false x) R-is (last-at f (mul f t quarter) M vM (le_trans most (pow_mono (below l)))))
  where
    left : (u h m : ℕ) → u ≡ h + h → m ≤ h → h ≤ u - m
    left u h m e k = omega arith

pub halves : (f : Format) (b : Bool) (p : Float) (s : Bool) (a : ℕ) → Val f p s a → a ≤ U f
    → Turn f (sub f one64 (mul f (cond b (sub f three64 p) (add f one64 p)) quarter))
halves f true p s a v h = upper f (sub f three64 p) (three-less f p s a v h)
halves f false p s a v h = lower f (add f one64 p) (one_more f p s a v h)

-- ---- the whole
either : (a b : Bool) → T (not (a && b)) → (T a → ⊥) ⊎ (T b → ⊥)
either true true n = absurd n
either true false n = inr (λ t. t)
either false b n = inl (λ t. t)

some_of : (a b : ℕ) → (0 < a) ⊎ (0 < b) → 0 < a + b
some_of a b (inl h) = omega arith
some_of a b (inr h) = omega arith

pub whole-turn : (f : Format) (b : Bool) (ax ay cx cy : Float) → T (fits f ax) → T (fits f ay) → T (fits f cx)
    → T (fits f cy) → T (bounded 31 ax) → T (bounded 31 ay) → T (bounded 31 cx) → T (bounded 31 cy)
    → T (not (eq ax cx && eq ay cy))
    → Turn f (sub f one64 (mul f (cond b
    (sub f three64 (div f (sub f ax cx) (add f (absolute_of (sub f ax cx)) (absolute_of (sub f ay cy)))))
    (add f one64 (div f (sub f ax cx) (add f (absolute_of (sub f ax cx)) (absolute_of (sub f ay cy)))))) quarter))
whole-turn f b ax ay cx cy fax fay fcx fcy nax nay ncx ncy apart =
    let X = diff f ax cx fax fcx nax ncx in
    let Y = diff f ay cy fay fcy nay ncy in
    let x = sub f ax cx in
    let y = sub f ay cy in
    let some : 0 < X.1 + Y.1 = some_of X.1 Y.1 (elim (either (eq ax cx) (eq ay cy) apart) [ inl n ↦ inl (X.5 n) | inr n ↦ inr (Y.5 n) ]) in
    let p = slope-at f x y X.0 Y.0 X.1 Y.1 X.2 Y.2 X.3 Y.3 X.4 some in
    halves f b (div f x (add f (absolute_of x) (absolute_of y))) X.0 p.0 p.1 p.2
