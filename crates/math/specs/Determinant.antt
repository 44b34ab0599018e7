-- The meanings of this crate's functions, for points with whole coordinates. Definitions only; their laws are in
-- `Plane`, `Circle`, `Side`, `Range` and `Projection`.
-- `orient2d` and `incircle` are the determinants of J. R. Shewchuk, "Adaptive Precision Floating-Point Arithmetic and
-- Fast Robust Geometric Predicates", 1997.
-- 01: "`robust::orient2d` and `robust::incircle` mean the exact sign of Shewchuk's determinants", "Left is strictly positive."
-- A formula is written once, over any numbers R with a sum ⊞, a difference ⊟, a product ⊠ and a one: at ℤ it is what a
-- contract says, and at the expressions `E` what the ring solver computes with.
use Rattle.std.specs.Prelude.{Bool, false, cond, ◌&&◌, ◌≤◌, eqb, leb, ℤ, pos, negsuc, nat_abs, ◌+ℤ◌, ◌-ℤ◌, ◌*ℤ◌}
use Rattle.std.specs.Int.Signed.{lt_z, le_z}
use Rattle.math.specs.declared.Point.{Point}
use Rattle.math.specs.declared.PointProjection.{PointProjection}

pub record Ops (R : Type 0) : Type 0 where
  pub ◌⊞◌ : R → R → R
  pub ◌⊟◌ : R → R → R
  pub ◌⊠◌ : R → R → R
  pub one : R
  infixl 6 ◌⊞◌ ◌⊟◌
  infixl 7 ◌⊠◌

pub record Pt (R : Type 0) : Type 0 where
  pub x : R
  pub y : R

module _ {R : Type 0} (o : Ops R) where
  open o use {◌⊞◌, ◌⊟◌, ◌⊠◌, one}

  -- ---- determinants by rows, expanded along the first row
  abbrev pub det2 : R × R → R × R → R
  det2 a b = a.0 ⊠ b.1 ⊟ a.1 ⊠ b.0

  abbrev pub det3 : R × R × R → R × R × R → R × R × R → R
  det3 a b c =
      a.0 ⊠ det2 (b.1, b.2) (c.1, c.2)
      ⊟ a.1 ⊠ det2 (b.0, b.2) (c.0, c.2)
      ⊞ a.2 ⊠ det2 (b.0, b.1) (c.0, c.1)

  abbrev pub det4 : R × R × R × R → R × R × R × R → R × R × R × R → R × R × R × R → R
  det4 a b c d =
      a.0 ⊠ det3 (b.1, b.2, b.3) (c.1, c.2, c.3) (d.1, d.2, d.3)
      ⊟ a.1 ⊠ det3 (b.0, b.2, b.3) (c.0, c.2, c.3) (d.0, d.2, d.3)
      ⊞ a.2 ⊠ det3 (b.0, b.1, b.3) (c.0, c.1, c.3) (d.0, d.1, d.3)
      ⊟ a.3 ⊠ det3 (b.0, b.1, b.2) (c.0, c.1, c.2) (d.0, d.1, d.2)

  -- the height of a point's image on the paraboloid z = x² + y²
  abbrev pub Lift : Pt R → R
  Lift p = p.x ⊠ p.x ⊞ p.y ⊠ p.y

  -- ---- Shewchuk's determinants
  abbrev pub Orient2d : Pt R → Pt R → Pt R → R
  Orient2d a b c =
      det3
      (a.x, a.y, one)
      (b.x, b.y, one)
      (c.x, c.y, one)

  abbrev pub Incircle : Pt R → Pt R → Pt R → Pt R → R
  Incircle a b c d =
      det4
      (a.x, a.y, Lift a, one)
      (b.x, b.y, Lift b, one)
      (c.x, c.y, Lift c, one)
      (d.x, d.y, Lift d, one)

  -- six times the volume between the triangle a b c and the triangle of its corners' images on the paraboloid
  abbrev pub Height : Pt R → Pt R → Pt R → R
  Height a b c = Orient2d a b c ⊠ (Lift a ⊞ Lift b ⊞ Lift c)

  -- ---- vectors
  abbrev pub Minus : Pt R → Pt R → Pt R
  Minus p q = record { x = p.x ⊟ q.x; y = p.y ⊟ q.y }

  abbrev pub Dot : Pt R → Pt R → R
  Dot p q = p.x ⊠ q.x ⊞ p.y ⊠ q.y

  -- `project_point(p1, p2, query_point)` of math.rs: `query_point.sub(p1).dot(dir)` and `dir.length2()`, where `dir` is `p2.sub(p1)`
  abbrev pub Factor : Pt R → Pt R → Pt R → R
  Factor p1 p2 q = Dot (Minus q p1) (Minus p2 p1)

  abbrev pub Length2 : Pt R → Pt R → R
  Length2 p1 p2 = Dot (Minus p2 p1) (Minus p2 p1)

abbrev pub ℤ· : Ops ℤ
ℤ· = record { ◌⊞◌ = ◌+ℤ◌; ◌⊟◌ = ◌-ℤ◌; ◌⊠◌ = ◌*ℤ◌; one = pos 1 }

abbrev pub pt : Point → Pt ℤ
pt p = record { x = p.x; y = p.y }

-- twice the signed area of the triangle a b c: positive where c lies left of the line from a to b
unfoldable pub orient2d : Point → Point → Point → ℤ
orient2d a b c = Orient2d ℤ· (pt a) (pt b) (pt c)

-- where a b c turns left: positive inside the circle of a, b and c, 0 on it
unfoldable pub incircle : Point → Point → Point → Point → ℤ
incircle a b c d = Incircle ℤ· (pt a) (pt b) (pt c) (pt d)

-- 01: "Each flip lowers the height sum by exactly the circle determinant." The height sum is the sum of this over the triangles
unfoldable pub height : Point → Point → Point → ℤ
height a b c = Height ℤ· (pt a) (pt b) (pt c)

unfoldable pub factor : Point → Point → Point → ℤ
factor p1 p2 q = Factor ℤ· (pt p1) (pt p2) (pt q)

unfoldable pub length2 : Point → Point → ℤ
length2 p1 p2 = Length2 ℤ· (pt p1) (pt p2)

-- ---- answers
-- which of three a doubled area chooses: positive the left one, negative the right one, 0 that on the line
unfoldable pub by_sign : {A : Type 0} → ℤ → A → A → A → A
by_sign area left right line = cond (lt_z (pos 0) area) left (cond (lt_z area (pos 0)) right line)

-- math.rs: `is_ordered_ccw` is `side_query(..).is_on_left_side_or_on_line()`: an area of at least 0
abbrev pub is_ordered_ccw : Point → Point → Point → Bool
is_ordered_ccw p1 p2 q = le_z (pos 0) (orient2d p1 p2 q)

-- 01: "strictly inside the circle"
abbrev pub contained_in_circumference : Point → Point → Point → Point → Bool
contained_in_circumference v1 v2 v3 p = lt_z (pos 0) (incircle v1 v2 v3 p)

-- math.rs: `project_point`, and `is_before_edge` and `is_behind_edge` of the `PointProjection` that it answers
abbrev pub projection_of : Point → Point → Point → PointProjection
projection_of p1 p2 q = record { factor = factor p1 p2 q; length_2 = length2 p1 p2 }

abbrev pub is_before : PointProjection → Bool
is_before p = lt_z p.factor (pos 0)

abbrev pub is_behind : PointProjection → Bool
is_behind p = lt_z p.length_2 p.factor

-- 01: "With these coordinates `is_behind_edge` equals the whole-number comparison factor > length_2."
abbrev pub is_behind_edge : Point → Point → Point → Bool
is_behind_edge e1 e2 q = lt_z (length2 e1 e2) (factor e1 e2 q)

-- ---- equal positions
unfoldable pub is_coordinate : ℤ → ℤ → Bool
is_coordinate (pos a) (pos b) = eqb a b
is_coordinate (pos a) (negsuc b) = false
is_coordinate (negsuc a) (pos b) = false
is_coordinate (negsuc a) (negsuc b) = eqb a b

unfoldable pub is_position : Point → Point → Bool
is_position a b = is_coordinate a.x b.x && is_coordinate a.y b.y

-- ---- 01, refusal 3: "a coordinate is outside -16,777,216..16,777,216"
abbrev pub is_valid_coordinate : ℤ → Bool
is_valid_coordinate z = leb (nat_abs z) 16777216

abbrev pub is_valid_vertex : Point → Bool
is_valid_vertex p = is_valid_coordinate p.x && is_valid_coordinate p.y

pub record InRange (p : Point) : Type 0 where
  pub x : nat_abs p.x ≤ 16777216
  pub y : nat_abs p.y ≤ 16777216
