-- The laws of angles at binary64: `pseudo_angle` is one; and the comparisons of two are those of their whole numbers. Assumes nothing.
use Rattle.std.specs.Prelude.{◌≡◌, ℕ, ◌/◌, ◌^◌, ◌≤◌, false, cond, T, ltb, leb, eqb, Float}
use Rattle.std.proofs.Common.{sym, ap, ◌∙◌, subst, mul-div_cancel, pow_pos}
use Rattle.std.specs.Float.{nan, inf, fin, binary64}
use Rattle.std.specs.Float.Ieee.{down, add, sub, mul, fits, lt, le, eq}
use Rattle.std.specs.Float.Ieee.Fits.{down_pos, sub-fits}
use Rattle.std.specs.Float.Ieee.Exact.{HasValue}
use Rattle.angle.specs.Angle.{pseudo_angle, of_diff, slope, zero64, one64, three64, quarter, Apart, IsAngle, turns}
use Rattle.angle.proofs.Values.{lt_at, le-at, eq_is}
use Rattle.angle.proofs.PseudoAngle.{Turn, whole-turn}

turns-is : (x : Float) (k : ℕ) → HasValue x false k (2 ^ 53) → turns x ≡ k
unfolding turns
turns-is nan k v = absurd v
turns-is (inf s) k v = absurd v
turns-is (fin s m e) k v = ap (λ (x : ℕ). x / down e) v.1 ∙ mul-div_cancel k (down_pos e)

pub angle-of : (x : Float) → T (fits binary64 x) → Turn binary64 x → IsAngle x
angle-of x f t =
    let e : turns x ≡ t.0 = turns-is x t.0 t.2 in
    record { held = f; value = subst (λ (k : ℕ). HasValue x false k (2 ^ 53)) (sym e) t.2; small = subst (λ (k : ℕ). k ≤ 2 ^ 53) (sym e) t.1 }

-- every pseudo-angle is a whole number of 2 ^ -53 from 0.0 to 1.0
pub pseudo-is-angle : (ax ay cx cy : Float) → T (fits binary64 ax) → T (fits binary64 ay) → T (fits binary64 cx)
    → T (fits binary64 cy) → Apart ax ay cx cy → IsAngle (pseudo_angle ax ay cx cy)
unfolding pseudo_angle of_diff slope
pseudo-is-angle ax ay cx cy fax fay fcx fcy h =
    angle-of (pseudo_angle ax ay cx cy) (sub-fits binary64 one64 (mul binary64 (cond (lt zero64 (sub binary64 ay cy)) (sub binary64 three64 (slope (sub binary64 ax cx) (sub binary64 ay cy))) (add binary64 one64 (slope (sub binary64 ax cx) (sub binary64 ay cy)))) quarter))
    (whole-turn binary64 (lt zero64 (sub binary64 ay cy)) ax ay cx cy fax fay fcx fcy h.bounded-ax h.bounded-ay h.bounded-cx h.bounded-cy h.apart)

-- ---- the comparisons
pub angle-lt : (x y : Float) → IsAngle x → IsAngle y → lt x y ≡ ltb (turns x) (turns y)
angle-lt x y h k = lt_at x y (turns x) (turns y) (2 ^ 53) (pow_pos 53) h.value k.value

pub angle-le : (x y : Float) → IsAngle x → IsAngle y → le x y ≡ leb (turns x) (turns y)
angle-le x y h k = le-at x y (turns x) (turns y) (2 ^ 53) (pow_pos 53) h.value k.value

pub angle-eq : (x y : Float) → IsAngle x → IsAngle y → eq x y ≡ eqb (turns x) (turns y)
angle-eq x y h k = eq_is x y (turns x) (turns y) (2 ^ 53) (pow_pos 53) h.value k.value
