-- Laws of specs/Exact.antt.
use Rattle.std.specs.Prelude.{◌≡◌, refl, Bool, true, false, not, cond, [], ◌∷◌, ℕ, suc, ◌+◌, ◌-◌, ◌*◌, ◌^◌, ◌≤◌, ◌<◌, T, ltb, Float, ℤ, pos, negsuc, nat_abs, ◌+ℤ◌}
use Rattle.std.proofs.Common.{sym, ap, ap₂, ◌∙◌, subst, le_trans, mul-one, mul_assoc, mul_right_comm, mul-pos, lt_of_lt_of_le, arith, lit<, lit≤, pow-add, pow_pos, pow_mono, shl_lt}
use Rattle.std.specs.Float.{nan, inf, fin, binary32, binary64}
use Rattle.std.specs.Float.Ieee.{unlike, up, down, round, sum, add, mul, div, of_int, fits}
use Rattle.std.specs.Float.Ieee.Back.{round_whole}
use Rattle.std.specs.Float.Ieee.Exact.{HasValue, round_exact}
use Rattle.std.specs.Float.Ieee.Fits.{down_pos, mul-fits}
use Rattle.std.specs.Float.Ieee.Scale.{round_same}
use Rattle.std.proofs.Math.IntN.{+ℤ_idl}
use Rattle.std.specs.Int.Signed.{non_neg}
use Rattle.algebra.proofs.Bound.{[]ᵉ, ◌∷ᵉ◌, within}
use Rattle.algebra.proofs.Fractions.{add-fractions}
use Rattle.algebra.specs.Ring.{◌⊕◌}
use Rattle.algebra.proofs.RingLaws.{v0, v1, v2}
use Rattle.angle.specs.Angle.{zero64, one64, three64}
use Rattle.math.specs.declared.Point.{Point}
use Rattle.mesh.specs.declared.Counts.{Counts}
use Rattle.mesh.proofs.CountsLaws.{vertices-least}
use Rattle.mesh.specs.Good.{Good}
use Rattle.mesh.specs.Mesh.{Links}
use Rattle.sums.proofs.BitLaws.{Tells, lt?}
use Rattle.hull_center.specs.HullCenter.{last_three, SmallSum, third, center_coordinate, center_of, hull_center}
use Rattle.hull_center.specs.Exact.{rust_coordinate}

-- ---- the sums
add_small : (x y z : ℤ) → nat_abs x ≤ 16777216 → nat_abs y ≤ 16777216 → nat_abs z ≤ 16777216 → nat_abs (x +ℤ y +ℤ z) ≤ 50331648
add_small x y z h k l = within {ρ = x ∷ y ∷ z ∷ []} (h ∷ᵉ k ∷ᵉ l ∷ᵉ []ᵉ) (v0 ⊕ v1 ⊕ v2)

module _ {C : Counts} {L : Links} {p : ℕ → Point} (G : Good C L p) where
  pub sum-small : SmallSum (last_three C p)
  unfolding last_three
  sum-small =
      let l = vertices-least G.wf in
      let i = C.vertices - 3 in
      let j = C.vertices - 2 in
      let k = C.vertices - 1 in
      let a = G.range {v = i} (omega arith) in
      let b = G.range {v = j} (omega arith) in
      let c = G.range {v = k} (omega arith) in
      record {
        x = add_small (p i).x (p j).x (p k).x a.x b.x c.x;
        y = add_small (p i).y (p j).y (p k).y a.y b.y c.y;
      }

-- ---- the product with a third
pub third-is : div binary32 one64 three64 ≡ third
unfolding div
third-is = refl

like : (s : Bool) → unlike s false ≡ s
like true = refl
like false = refl

-- of x, which is n with the sign s
times-third : (x : Float) (s : Bool) (n : ℕ) → HasValue x s n 1 → mul binary64 x third ≡ round binary64 s (n * 11184811) (2 ^ 25)
unfolding mul
times-third nan s n v = absurd v
times-third (inf t) s n v = absurd v
times-third (fin t m e) s n v =
    ap (λ (k : Bool). round binary64 k (m * up e * 11184811) (down e * 2 ^ 25)) (like t ∙ v.0)
    ∙ round_same binary64 s (m * up e * 11184811) (down e * 2 ^ 25) (n * 11184811) (2 ^ 25) (mul-pos (down_pos e) (pow_pos 25)) (pow_pos 25)
    (ap (λ (k : ℕ). k * 11184811 * 2 ^ 25) (sym (mul-one (m * up e)) ∙ v.1)
    ∙ ap (λ (k : ℕ). k * 2 ^ 25) (mul_right_comm n (down e) 11184811)
    ∙ mul_assoc (n * 11184811) (down e) (2 ^ 25))

few-digits : (n : ℕ) → n ≤ 50331648 → n * 11184811 < 2 ^ 53
few-digits n h = omega arith

third-exact : (s : Bool) (n : ℕ) → n ≤ 50331648 → HasValue (round binary64 s (n * 11184811) (2 ^ 25)) s (n * 11184811) (2 ^ 25)
third-exact s n h =
    round_exact binary64 s (n * 11184811) (2 ^ 25) (n * 11184811) 1049 (pow_pos 25) (few-digits n h)
    (lt_of_lt_of_le (shl_lt 53 1049 (few-digits n h)) (pow_mono {i = 1102} {j = 2098} (lit≤ tt)))
    (ap (λ (k : ℕ). n * 11184811 * k) (pow-add 2 1049 25) ∙ sym (mul_assoc (n * 11184811) (2 ^ 1049) (2 ^ 25)))

-- a whole number as a float
whole-value : (z : ℤ) → nat_abs z ≤ 2 ^ 53 → HasValue (of_int binary64 z) (not (non_neg z)) (nat_abs z) 1
unfolding of_int
whole-value (pos n) h = round_whole binary64 false n h
whole-value (negsuc n) h = round_whole binary64 true (suc n) h

pub coordinate-exact : (z : ℤ) → nat_abs z ≤ 50331648 → HasValue (center_coordinate z) (not (non_neg z)) (nat_abs z * 11184811) (2 ^ 25)
unfolding center_coordinate
coordinate-exact z h =
    subst (λ (x : Float). HasValue x (not (non_neg z)) (nat_abs z * 11184811) (2 ^ 25))
    (sym (times-third (of_int binary64 z) (not (non_neg z)) (nat_abs z) (whole-value z (le_trans h (lit≤ tt)))))
    (third-exact (not (non_neg z)) (nat_abs z) h)

-- THE CENTRE IS EXACT: the sums of the last three positions, times 11184811 / 2 ^ 25
module _ {C : Counts} {L : Links} {p : ℕ → Point} (G : Good C L p) where
  pub center-exact : HasValue (hull_center C p).x (not (non_neg (last_three C p).x)) (nat_abs (last_three C p).x * 11184811) (2 ^ 25)
      × HasValue (hull_center C p).y (not (non_neg (last_three C p).y)) (nat_abs (last_three C p).y * 11184811) (2 ^ 25)
  unfolding hull_center center_of
  center-exact = (coordinate-exact (last_three C p).x (sum-small G).x, coordinate-exact (last_three C p).y (sum-small G).y)

-- an f64 holds it
pub center-fits : (C : Counts) (p : ℕ → Point) → T (fits binary64 (hull_center C p).x) × T (fits binary64 (hull_center C p).y)
unfolding hull_center center_of center_coordinate
center-fits C p = (mul-fits binary64 (of_int binary64 (last_three C p).x) third, mul-fits binary64 (of_int binary64 (last_three C p).y) third)

-- ---- the Rust's steps. A sum of whole numbers as floats is their sum
sum-whole : (x y : ℤ) → sum binary64 (not (non_neg x)) (nat_abs x) (not (non_neg y)) (nat_abs y) 1 ≡ of_int binary64 (x +ℤ y)
unfolding sum of_int
sum-whole (pos a) (pos b) = refl
sum-whole (negsuc a) (negsuc b) =
    let e : suc a + suc b ≡ suc (suc (a + b)) = omega arith in
    ap (λ (k : ℕ). round binary64 true k 1) e
sum-whole (pos a) (negsuc b) = go (ltb a (suc b)) (lt? a (suc b))
  where
    go : (t : Bool) → Tells t (a < suc b) (suc b ≤ a)
        → cond t (round binary64 true (suc b - a) 1) (round binary64 false (a - suc b) 1)
        ≡ of_int binary64 (cond t (negsuc (suc b - suc a)) (pos (a - suc b)))
    go true h =
        let l = h.0 tt in
        let e : suc b - a ≡ suc (suc b - suc a) = omega arith in
        ap (λ (k : ℕ). round binary64 true k 1) e
    go false h = refl
sum-whole (negsuc a) (pos b) = go (ltb (suc a) b) (ltb b (suc a)) (lt? (suc a) b) (lt? b (suc a))
  where
    go : (t u : Bool) → Tells t (suc a < b) (b ≤ suc a) → Tells u (b < suc a) (suc a ≤ b)
        → cond t (round binary64 false (b - suc a) 1) (round binary64 u (suc a - b) 1)
        ≡ of_int binary64 (cond u (negsuc (suc a - suc b)) (pos (b - suc a)))
    go true true h k = absurd (let l = h.0 tt in let m = k.0 tt in omega arith)
    go true false h k = refl
    go false true h k =
        let l = k.0 tt in
        let e : suc a - b ≡ suc (suc a - suc b) = omega arith in
        ap (λ (n : ℕ). round binary64 true n 1) e
    go false false h k =
        let l = h.1 tt in let m = k.1 tt in
        let e : suc a - b ≡ b - suc a = omega arith in
        ap (λ (n : ℕ). round binary64 false n 1) e

add-whole : (x y : ℤ) → nat_abs x ≤ 2 ^ 53 → nat_abs y ≤ 2 ^ 53 → add binary64 (of_int binary64 x) (of_int binary64 y) ≡ of_int binary64 (x +ℤ y)
add-whole x y h k =
    add-fractions binary64 (of_int binary64 x) (of_int binary64 y) (not (non_neg x)) (not (non_neg y)) (nat_abs x) (nat_abs y) 1 (lit< tt)
    (whole-value x h) (whole-value y k) ∙ sum-whole x y

zero-whole : zero64 ≡ of_int binary64 (pos 0)
unfolding of_int
zero-whole = refl

pub rust-steps : (x y z : ℤ) → nat_abs x ≤ 16777216 → nat_abs y ≤ 16777216 → nat_abs z ≤ 16777216
    → rust_coordinate x y z ≡ center_coordinate (x +ℤ y +ℤ z)
unfolding center_coordinate
rust-steps x y z h k l =
    let two : nat_abs (x +ℤ y) ≤ 33554432 = within {ρ = x ∷ y ∷ []} (h ∷ᵉ k ∷ᵉ []ᵉ) (v0 ⊕ v1) in
    let first : add binary64 zero64 (of_int binary64 x) ≡ of_int binary64 x =
    ap (λ (f : Float). add binary64 f (of_int binary64 x)) zero-whole ∙ add-whole (pos 0) x (lit≤ tt) (le_trans h (lit≤ tt))
    ∙ ap (of_int binary64) (+ℤ_idl x) in
    ap₂ (mul binary64)
    (ap (λ (f : Float). add binary64 (add binary64 f (of_int binary64 y)) (of_int binary64 z)) first
    ∙ ap (λ (f : Float). add binary64 f (of_int binary64 z)) (add-whole x y (le_trans h (lit≤ tt)) (le_trans k (lit≤ tt)))
    ∙ add-whole (x +ℤ y) z (le_trans two (lit≤ tt)) (le_trans l (lit≤ tt)))
    third-is
