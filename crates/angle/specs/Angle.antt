-- The pseudo-angle of a point about a centre, over the values of `lib.Ieee`, and what it is to be an angle. Definitions only.
use Rattle.std.specs.Prelude.{ℕ, suc, ◌*◌, ◌/◌, ◌^◌, ◌≤◌, Bool, true, false, not, ◌&&◌, ◌||◌, cond, ℤ, pos, negsuc, T, leb, eqb, Float}
use Rattle.std.specs.Float.{nan, inf, fin, binary64}
use Rattle.std.specs.Float.Ieee.{up, down, add, sub, mul, div, lt, eq, fits, of_int}
use Rattle.std.specs.Float.Ieee.Exact.{HasValue}

-- 0.0, 0.25, 1.0 and 3.0
abbrev pub zero64 : Float
zero64 = fin false 0 (pos 0)

abbrev pub quarter : Float
quarter = fin false 1 (negsuc 1)

abbrev pub one64 : Float
one64 = fin false 1 (pos 0)

abbrev pub three64 : Float
three64 = fin false 3 (pos 0)

-- ---- the angle. 01: "The angle is `pseudo_angle` of 000, each float operation rounded once."

-- |x|: the sign is dropped
unfoldable pub absolute_of : Float → Float
absolute_of nan = nan
absolute_of (inf s) = inf false
absolute_of (fin s m e) = fin false m e

-- x / (|x| + |y|)
unfoldable pub slope : Float → Float → Float
slope x y = div binary64 x (add binary64 (absolute_of x) (absolute_of y))

-- 1 - (if y > 0 { 3 - p } else { 1 + p }) * 0.25, of the differences x and y
unfoldable pub of_diff : Float → Float → Float
of_diff x y = sub binary64 one64
    (mul binary64 (cond (lt zero64 y) (sub binary64 three64 (slope x y)) (add binary64 one64 (slope x y))) quarter)

unfoldable pub pseudo_angle : Float → Float → Float → Float → Float
pseudo_angle ax ay cx cy = of_diff (sub binary64 ax cx) (sub binary64 ay cy)

-- the angle of a vertex, whose coordinates are whole numbers
unfoldable pub angle_about : ℤ → ℤ → Float → Float → Float
angle_about x y cx cy = pseudo_angle (of_int binary64 x) (of_int binary64 y) cx cy

-- ---- the centre. 01, row 6: "the centre isn't finite, has a coordinate outside the range of 3, or equals a boundary vertex"

-- a finite number within 2 ^ i of 0
unfoldable pub bounded : ℕ → Float → Bool
bounded i nan = false
bounded i (inf s) = false
bounded i (fin s m e) = leb (m * up e) (2 ^ i * down e)

-- what the first two parts of row 6 let pass: 16,777,216 is 2 ^ 24
unfoldable pub valid_center : Float → Float → Bool
valid_center cx cy = bounded 24 cx && bounded 24 cy

-- the float x is the whole number z; 0.0 and -0.0 are 0
unfoldable pub is_number : ℤ → Float → Bool
is_number z nan = false
is_number z (inf s) = false
is_number (pos n) (fin s m e) = eqb (n * down e) (m * up e) && (not s || eqb n 0)
is_number (negsuc n) (fin s m e) = eqb (suc n * down e) (m * up e) && s

-- the vertex x, y equals the centre
unfoldable pub at_center : ℤ → ℤ → Float → Float → Bool
at_center x y cx cy = is_number x cx && is_number y cy

-- two points within 2 ^ 31 that differ as numbers (0.0 and -0.0 do not): an i32 vertex and a valid centre are such
pub record Apart (ax ay cx cy : Float) : Type 0 where
  pub bounded-ax : T (bounded 31 ax)
  pub bounded-ay : T (bounded 31 ay)
  pub bounded-cx : T (bounded 31 cx)
  pub bounded-cy : T (bounded 31 cy)
  pub apart : T (not (eq ax cx && eq ay cy))

-- ---- an angle as a whole number

-- how many times 2 ^ -53 the size of x is, rounded down
unfoldable pub turns : Float → ℕ
turns nan = 0
turns (inf s) = 0
turns (fin s m e) = m * up e * 2 ^ 53 / down e

-- 01: "every angle is a whole number of 2^-53 from 0.0 to 1.0"; -0.0 is none
pub record IsAngle (x : Float) : Type 0 where
  pub held : T (fits binary64 x)
  pub value : HasValue x false (turns x) (2 ^ 53)
  pub small : turns x ≤ 2 ^ 53

-- what row 8 lets pass: "the angle is NaN, below 0.0 or above 1.0", and "A given -0.0 counts as 0.0"
unfoldable pub valid_angle : Float → Bool
valid_angle nan = false
valid_angle (inf s) = false
valid_angle (fin false m e) = leb (m * up e) (down e)
valid_angle (fin true m e) = eqb m 0
