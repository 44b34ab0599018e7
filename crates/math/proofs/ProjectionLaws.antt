-- Laws of specs/Projection.antt.
use Rattle.std.specs.Prelude.{◌≡◌, Bool, true, false, [], ◌∷◌, ℕ, zero, suc, ◌+◌, ◌-◌, ◌*◌, ◌^◌, ◌≤◌, ◌<◌, T, ltb, ℤ, pos, nat_abs, ◌+ℤ◌, ◌-ℤ◌, ◌*ℤ◌, Float}
use Rattle.std.proofs.Math.Path.{refl}
use Rattle.std.proofs.Common.{sym, ap, ap₂, ◌∙◌, subst, zero-le, le_trans, le_of_eq, lt_of_le_of_lt, lt_of_lt_of_le, mul-one, one-mul, mul_assoc, mul_right_comm, mul-pos, lt_of_mul-lt-mul_right, zero-mul, mul-le-mul_right, arith, le-ltb, ltb→lt, lt→ltb, lit<, lit≤, pow-add, pow_pos, pow_mono, shl_lt}
use Rattle.std.proofs.lemmas.Bool.{false≢true}
use Rattle.std.specs.Int.Signed.{lt_z, non_neg, yes_non_neg, pos-nat_abs}
use Rattle.std.proofs.Math.Pow.{pow-lt}
use Rattle.std.specs.Float.{nan, inf, fin, Format, binary32, binary64}
use Rattle.std.specs.Float.Ieee.{prec, emax, low, up, down, round, sum, add, sub, mul, of_int, lt, le, below}
use Rattle.std.specs.Float.Ieee.Fits.{down_pos}
use Rattle.std.specs.Float.Ieee.Digits.{back}
use Rattle.std.specs.Float.Ieee.Exact.{HasValue, round_exact}
use Rattle.std.specs.Float.Ieee.Back.{round_whole}
use Rattle.std.specs.Float.Ieee.Order.{round_mono}
use Rattle.std.specs.Float.Ieee.Positive.{num, den, positive, den_pos, own_value, positive_of_value, values_of_le, between}
use Rattle.algebra.specs.Ring.{◌⊕◌, ◌⊖◌, ◌⊗◌}
use Rattle.algebra.proofs.RingLaws.{v0, v1, v2, v3}
use Rattle.algebra.proofs.Order.{add-0≤, sq-0≤}
use Rattle.algebra.proofs.Bound.{Env, []ᵉ, ◌∷ᵉ◌, within}
use Rattle.algebra.proofs.Test.{test-ext}
use Rattle.algebra.proofs.Fractions.{add-fractions, sum_like, ltb-scale, left-scale, right-scale}
use Rattle.math.specs.declared.Point.{Point}
use Rattle.math.specs.Determinant.{Factor, Length2, InRange, factor, length2, is_behind_edge}
use Rattle.math.specs.Whole.{Whole, signed}
use Rattle.math.proofs.WholeLaws.{whole-int, whole-add, whole_sub, whole-mul}
use Rattle.math.specs.Projection.{f64·, to_f64, epsilon, rust_is_behind_edge, Side}

-- ---- two values compared, the first not negative, the second whole
lt-from : (x y : Float) (t : Bool) (a c b : ℕ) → 0 < c → HasValue x false a c → HasValue y t b 1 → lt x y ≡ below false a t (b * c)
unfolding lt
lt-from nan y t a c b h v w = absurd v
lt-from (inf r) y t a c b h v w = absurd v
lt-from (fin r m e) nan t a c b h v w = absurd w
lt-from (fin r m e) (inf z) t a c b h v w = absurd w
lt-from (fin r m e) (fin z n d) t a c b h v w =
    ap₂ (λ (i j : Bool). below i (m * up e * down d) j (n * up d * down e)) v.0 w.0 ∙ go t
  where
    one-scale : n * up d * down e * c ≡ b * c * (down e * down d)
    one-scale =
        ap (λ (k : ℕ). k * c) (sym (mul-one (n * up d * down e)) ∙ right-scale (n * up d) (down e) (down d) b 1 w.1) ∙ mul_right_comm b (down e * down d) c

    go : (t : Bool) → below false (m * up e * down d) t (n * up d * down e) ≡ below false a t (b * c)
    go true = refl
    go false = ltb-scale (m * up e * down d) (n * up d * down e) (down e * down d) a (b * c) c (mul-pos (down_pos e) (down_pos d)) h (left-scale (m * up e) (down e) (down d) a c v.1) one-scale

-- ---- l + 2 ^ -(prec - 1), rounded, is from l to l + 1/2
two-le : (f : Format) → 2 ≤ 2 ^ (prec f - 1)
two-le binary32 = lit≤ tt
two-le binary64 = lit≤ tt

half_room : (f : Format) → prec f + (low f - 1) ≤ low f + suc (emax f)
half_room binary32 = lit≤ tt
half_room binary64 = lit≤ tt

one-room : (f : Format) → low f - (prec f - 1) < low f + suc (emax f)
one-room binary32 = lit< tt
one-room binary64 = lit< tt

one-small : (f : Format) → 1 < 2 ^ prec f
one-small binary32 = lit< tt
one-small binary64 = lit< tt

one_below : (f : Format) → 1 ≤ low f
one_below binary32 = lit≤ tt
one_below binary64 = lit≤ tt

prec-below : (f : Format) → prec f - 1 ≤ low f
prec-below binary32 = lit≤ tt
prec-below binary64 = lit≤ tt

module _ (f : Format) where
  abbrev P : ℕ
  P = 2 ^ (prec f - 1)

  half-value : (l : ℕ) → 2 * l + 1 < 2 ^ prec f → HasValue (round f false (2 * l + 1) 2) false (2 * l + 1) 2
  half-value l h =
      round_exact f false (2 * l + 1) 2 (2 * l + 1) (low f - 1) (lit< tt) h (lt_of_lt_of_le (shl_lt (prec f) (low f - 1) h) (pow_mono (half_room f)))
      (ap (λ (k : ℕ). (2 * l + 1) * k) (ap (λ (k : ℕ). 2 ^ k) (sym (back (low f) 1 (one_below f))) ∙ pow-add 2 (low f - 1) 1) ∙ sym (mul_assoc (2 * l + 1) (2 ^ (low f - 1)) 2))

  eps-value : HasValue (round f false 1 P) false 1 P
  eps-value =
      let j = low f - (prec f - 1) in
      round_exact f false 1 P 1 j (pow_pos (prec f - 1)) (one-small f) (subst (λ (k : ℕ). k < 2 ^ (low f + suc (emax f))) (sym (one-mul (2 ^ j))) (pow-lt (one-room f)))
      (ap (λ (k : ℕ). 1 * k) (ap (λ (k : ℕ). 2 ^ k) (sym (back (low f) (prec f - 1) (prec-below f))) ∙ pow-add 2 j (prec f - 1)) ∙ sym (mul_assoc 1 (2 ^ j) P))

  module _ (l : ℕ) (h : 2 * l + 1 < 2 ^ prec f) where
    abbrev r : Float
    r = round f false (l * P + 1) P

    hi-le : T (le r (round f false (2 * l + 1) 2))
    hi-le = round_mono f (l * P + 1) P (2 * l + 1) 2 (pow_pos (prec f - 1)) (lit< tt) (bound P (two-le f))
      where
        bound : (p : ℕ) → 2 ≤ p → (l * p + 1) * 2 ≤ (2 * l + 1) * p
        bound p k = omega arith

    r-positive : T (positive r)
    r-positive =
        between (round f false 1 P) r (round f false (2 * l + 1) 2) (positive_of_value (round f false 1 P) 1 P eps-value (lit< tt)) (positive_of_value (round f false (2 * l + 1) 2) (2 * l + 1) 2 (half-value l h) (omega arith))
        (round_mono f 1 P (l * P + 1) P (pow_pos (prec f - 1)) (pow_pos (prec f - 1)) (bound P))
        hi-le
      where
        bound : (p : ℕ) → 1 * p ≤ (l * p + 1) * p
        bound p = omega arith

    upper : num r * 2 ≤ (2 * l + 1) * den r
    upper = values_of_le r (round f false (2 * l + 1) 2) (num r) (den r) (2 * l + 1) 2 r-positive (positive_of_value (round f false (2 * l + 1) 2) (2 * l + 1) 2 (half-value l h) (omega arith)) (own_value r r-positive) (half-value l h) hi-le

  lower : (l : ℕ) (h : 2 * l + 1 < 2 ^ prec f) → l * den (round f false (l * P + 1) P) ≤ num (round f false (l * P + 1) P)
  lower zero h = le_trans (le_of_eq (zero-mul (den (round f false (0 * P + 1) P)))) zero-le
  lower (suc k) h =
      let l = suc k in
      let v : HasValue (round f false l 1) false l 1 = round_whole f false l (omega (arith, h)) in
      let x = round f false (l * P + 1) P in
      le_trans
      (values_of_le (round f false l 1) x l 1 (num x) (den x) (positive_of_value (round f false l 1) l 1 v (omega arith)) (r-positive l h) v (own_value x (r-positive l h))
      (round_mono f l 1 (l * P + 1) P (lit< tt) (pow_pos (prec f - 1)) (bound l P)))
      (le_of_eq (mul-one (num x)))
    where
      bound : (l p : ℕ) → l * p ≤ (l * p + 1) * 1
      bound l p = omega arith

  -- so a whole number is above it exactly where it is above l
  above : (l : ℕ) → 2 * l + 1 < 2 ^ prec f → (y : Float) (z : ℤ) → Whole y z → lt (round f false (l * P + 1) P) y ≡ lt_z (pos l) z
  above l h y z w =
      let x = round f false (l * P + 1) P in
      lt-from x y w.sign (num x) (den x) w.size (den_pos x) (own_value x (r-positive l h)) w.value
      ∙ go w.sign w.size (num x) (den x) (den_pos x) (upper l h) (lower l h) ∙ ap (lt_z (pos l)) w.is
    where
      go : (t : Bool) (b n d : ℕ) → 0 < d → n * 2 ≤ (2 * l + 1) * d → l * d ≤ n → below false n t (b * d) ≡ lt_z (pos l) (signed t b)
      go true zero n d D u k = sym (le-ltb l 0 zero-le)
      go true (suc b) n d D u k = refl
      go false b n d D u k =
          test-ext (ltb n (b * d)) (ltb l b)
          (λ t. lt→ltb l b (lt_of_mul-lt-mul_right d (lt_of_le_of_lt k (ltb→lt n (b * d) t))))
          (λ t. lt→ltb n (b * d) (strict b n d D u (ltb→lt l b t)))
        where
          strict : (b n d : ℕ) → 0 < d → n * 2 ≤ (2 * l + 1) * d → l < b → n < b * d
          strict b n d D u s = far (l * d) (b * d) n d (le_trans (le_of_eq (sym (next l d))) (mul-le-mul_right d s)) (le_trans u (le_of_eq (twice l d))) D
            where
              next : (l d : ℕ) → suc l * d ≡ l * d + d
              next l d = omega arith

              twice : (l d : ℕ) → (2 * l + 1) * d ≡ 2 * (l * d) + d
              twice l d = omega arith

              far : (ld bd n d : ℕ) → ld + d ≤ bd → n * 2 ≤ 2 * ld + d → 0 < d → n < bd
              far ld bd n d p q r = omega arith

  -- ---- the sum with EPSILON is that rounded number
  scaled : (x : Float) (s : Bool) (n : ℕ) → HasValue x s n 1 → HasValue x s (n * P) P
  scaled nan s n v = absurd v
  scaled (inf r) s n v = absurd v
  scaled (fin r m e) s n v = (v.0, ap (λ (k : ℕ). k * P) (sym (mul-one (m * up e)) ∙ v.1) ∙ mul_right_comm n (down e) P)

  zero-sum : (c : ℕ) → sum f true 0 false 1 c ≡ round f false 1 c
  unfolding sum
  zero-sum c = refl

  plus : (x e : Float) (l : ℕ) → HasValue e false 1 P → Whole x (pos l) → add f x e ≡ round f false (l * P + 1) P
  plus x e l ev w = go w.sign w.size w.value w.is
    where
      go : (s : Bool) (n : ℕ) → HasValue x s n 1 → signed s n ≡ pos l → add f x e ≡ round f false (l * P + 1) P
      go false n v i =
          add-fractions f x e false false (n * P) 1 P (pow_pos (prec f - 1)) (scaled x false n v) ev
          ∙ sum_like f false (n * P) 1 P ∙ ap (λ (k : ℕ). round f false (k * P + 1) P) (ap nat_abs i)
      go true zero v i =
          add-fractions f x e true false (0 * P) 1 P (pow_pos (prec f - 1)) (scaled x true 0 v) ev
          ∙ ap (λ (k : ℕ). sum f true k false 1 P) (zero-mul P)
          ∙ zero-sum P ∙ ap (λ (k : ℕ). round f false (k + 1) P) (sym (zero-mul P)) ∙ ap (λ (k : ℕ). round f false (k * P + 1) P) (ap nat_abs i)
      go true (suc n) v i = absurd (false≢true (ap non_neg i))

pub lt-plus-epsilon : (x y : Float) (l : ℕ) (z : ℤ) → l ≤ 2251799813685248 → Whole x (pos l) → Whole y z
    → lt (add binary64 x epsilon) y ≡ lt_z (pos l) z
lt-plus-epsilon x y l z h v w = ap (λ (k : Float). lt k y) (plus binary64 x epsilon l (refl, refl) v) ∙ above binary64 l (omega arith) y z w

-- ---- the products, from coordinates in range
small : (z : ℤ) {B : ℕ} → nat_abs z ≤ B → B ≤ 2251799813685248 → nat_abs z ≤ 2 ^ prec binary64
small z h k = le_trans h (le_trans k (lit≤ tt))

coordinate : (z : ℤ) → nat_abs z ≤ 16777216 → Whole (of_int binary64 z) z
coordinate z h = whole-int binary64 z (small z h (lit≤ tt))

side : (a b : ℤ) → nat_abs a ≤ 16777216 → nat_abs b ≤ 16777216 → Side (sub binary64 (of_int binary64 a) (of_int binary64 b)) (a -ℤ b)
side a b h k =
    let e : nat_abs (a -ℤ b) ≤ 33554432 = within {ρ = a ∷ b ∷ []} (h ∷ᵉ k ∷ᵉ []ᵉ) (v0 ⊖ v1) in
    record { whole = whole_sub binary64 (coordinate a h) (coordinate b k) (small (a -ℤ b) e (lit≤ tt)); abs = e }

dot : {x y x' y' : Float} {a b a' b' : ℤ} → Side x a → Side y b → Side x' a' → Side y' b'
    → Whole (add binary64 (mul binary64 x x') (mul binary64 y y')) (a *ℤ a' +ℤ b *ℤ b')
dot {a = a} {b = b} {a' = a'} {b' = b'} p q r s =
    let n : Env (a ∷ b ∷ a' ∷ b' ∷ []) (33554432 ∷ 33554432 ∷ 33554432 ∷ 33554432 ∷ []) = p.abs ∷ᵉ q.abs ∷ᵉ r.abs ∷ᵉ s.abs ∷ᵉ []ᵉ in
    whole-add binary64 (whole-mul binary64 p.whole r.whole (small (a *ℤ a') (within n (v0 ⊗ v2)) (lit≤ tt))) (whole-mul binary64 q.whole s.whole (small (b *ℤ b') (within n (v1 ⊗ v3)) (lit≤ tt)))
    (small (a *ℤ a' +ℤ b *ℤ b') (within n (v0 ⊗ v2 ⊕ v1 ⊗ v3)) (lit≤ tt))

module _ (e1 e2 q : Point) (h1 : InRange e1) (h2 : InRange e2) (hq : InRange q) where
  dir-x : Side (sub binary64 (of_int binary64 e2.x) (of_int binary64 e1.x)) (e2.x -ℤ e1.x)
  dir-x = side e2.x e1.x h2.x h1.x

  dir-y : Side (sub binary64 (of_int binary64 e2.y) (of_int binary64 e1.y)) (e2.y -ℤ e1.y)
  dir-y = side e2.y e1.y h2.y h1.y

  factor-f64 : Whole (Factor f64· (to_f64 e1) (to_f64 e2) (to_f64 q)) (factor e1 e2 q)
  unfolding factor
  factor-f64 = dot (side q.x e1.x hq.x h1.x) (side q.y e1.y hq.y h1.y) dir-x dir-y

  -- the squared length, as a natural
  length2-pos : pos (nat_abs (length2 e1 e2)) ≡ length2 e1 e2
  unfolding length2
  length2-pos = pos-nat_abs _ (yes_non_neg (add-0≤ (sq-0≤ (e2.x -ℤ e1.x)) (sq-0≤ (e2.y -ℤ e1.y))))

  length2-small : nat_abs (length2 e1 e2) ≤ 2251799813685248
  unfolding length2
  length2-small = within {ρ = (e2.x -ℤ e1.x) ∷ (e2.y -ℤ e1.y) ∷ []} (dir-x.abs ∷ᵉ dir-y.abs ∷ᵉ []ᵉ) (v0 ⊗ v0 ⊕ v1 ⊗ v1)

  length2-f64 : Whole (Length2 f64· (to_f64 e1) (to_f64 e2)) (length2 e1 e2)
  unfolding length2
  length2-f64 = dot dir-x dir-y dir-x dir-y

  pub rust-is-behind-edge : rust_is_behind_edge e1 e2 q ≡ is_behind_edge e1 e2 q
  rust-is-behind-edge =
      lt-plus-epsilon (Length2 f64· (to_f64 e1) (to_f64 e2)) (Factor f64· (to_f64 e1) (to_f64 e2) (to_f64 q)) (nat_abs (length2 e1 e2)) (factor e1 e2 q) length2-small
      (subst (Whole (Length2 f64· (to_f64 e1) (to_f64 e2))) (sym length2-pos) length2-f64) factor-f64
      ∙ ap (λ (z : ℤ). lt_z z (factor e1 e2 q)) length2-pos
