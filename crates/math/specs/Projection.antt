-- `is_behind_edge` of math.rs in f64, each operation rounded once, is the whole-number comparison: `rust-is-behind-edge`.
-- 01: "With these coordinates `is_behind_edge` equals the whole-number comparison factor > length_2."
-- Assumes nothing.
use Rattle.std.specs.Prelude.{Bool, false, ◌≤◌, ℤ, pos, negsuc, nat_abs, Float}
use Rattle.std.specs.Float.{fin, binary64}
use Rattle.std.specs.Float.Ieee.{add, sub, mul, of_int, lt}
use Rattle.math.specs.declared.Point.{Point}
use Rattle.math.specs.Determinant.{Ops, Pt, Factor, Length2}
use Rattle.math.specs.Whole.{Whole}

-- ---- the Rust's test
abbrev pub f64· : Ops Float
f64· = record { ◌⊞◌ = add binary64; ◌⊟◌ = sub binary64; ◌⊠◌ = mul binary64; one = of_int binary64 (pos 1) }

-- `Point2::to_f64`
abbrev pub to_f64 : Point → Pt Float
to_f64 p = record { x = of_int binary64 p.x; y = of_int binary64 p.y }

-- `f64::EPSILON`, 2 ^ -52
abbrev pub epsilon : Float
epsilon = fin false 1 (negsuc 51)

-- `projection.factor > projection.length_2 + f64::EPSILON`
abbrev pub rust_is_behind_edge : Point → Point → Point → Bool
rust_is_behind_edge e1 e2 q = lt (add binary64 (Length2 f64· (to_f64 e1) (to_f64 e2)) epsilon) (Factor f64· (to_f64 e1) (to_f64 e2) (to_f64 q))

-- a difference of two coordinates, and its bound
pub record Side (x : Float) (a : ℤ) : Type 0 where
  pub whole : Whole x a
  pub abs : nat_abs a ≤ 33554432
