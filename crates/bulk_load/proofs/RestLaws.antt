-- The points that are left, after those that the seed took: a row with its first k places dropped. Assumes nothing.
use Rattle.std.specs.Prelude.{List, ◌≡◌, ℕ, ◌+◌, ◌*◌, ◌≤◌, ℤ, pos, get_or, drop}
use Rattle.std.proofs.Common.{◌∙◌, ap, ap₂, arith, length-drop, get_or-drop}
use Rattle.dcel.specs.Rows.{position_of, row_of}
use Rattle.math.specs.declared.Point.{Point}
use Rattle.mesh_check.specs.Check.{point_count}

pub row-rest : (k : ℕ) (row : List ℕ) (x : ℕ) → row_of (drop k row) x ≡ row_of row (k + x)
unfolding row_of
row-rest k row x = get_or-drop k row x 0

pub position-rest : (k : ℕ) (points : List ℤ) (j : ℕ) → position_of (drop (2 * k) points) j ≡ position_of points (k + j)
unfolding position_of
position-rest k points j =
    let a : 2 * k + 2 * j ≡ 2 * (k + j) = omega arith in
    let b : 2 * k + (2 * j + 1) ≡ 2 * (k + j) + 1 = omega arith in
    ap₂ (λ (x y : ℤ). record { x = x; y = y })
    (get_or-drop (2 * k) points (2 * j) (pos 0) ∙ ap (λ (i : ℕ). get_or points i (pos 0)) a)
    (get_or-drop (2 * k) points (2 * j + 1) (pos 0) ∙ ap (λ (i : ℕ). get_or points i (pos 0)) b)

pub count-rest : (k : ℕ) (points : List ℤ) → k ≤ point_count points → k + point_count (drop (2 * k) points) ≡ point_count points
unfolding point_count
count-rest k points l = let d = length-drop (2 * k) points in omega arith
