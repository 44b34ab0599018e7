-- What the sum over the triangles asks of the rows, which an accepted mesh meets. Definitions only; laws in `SummableLaws`.
use Rattle.std.specs.Prelude.{List, ℕ, suc, ◌≤◌, ℤ}
use Rattle.dcel.specs.Rows.{links_of, position_of}
use Rattle.math.specs.Determinant.{orient2d}
use Rattle.mesh.specs.declared.Counts.{Counts}
use Rattle.mesh.specs.Area.{at_corners}
use Rattle.mesh_check.specs.Readable.{Readable}
use Rattle.sums.specs.Sum.{sum}

-- the corners of every face can be read, and there are no more faces than a mesh of a million vertices has
pub record Summable (C : Counts) (p : List ℤ) (h a : List ℕ) : Type 0 where
  pub readable : Readable C p h a
  pub few : C.faces ≤ 2000000

-- the doubled areas of the inner faces 1 to n
unfoldable pub areas_to : ℕ → List ℤ → List ℕ → List ℕ → List ℕ → ℤ
areas_to n p o h a = sum n (λ f. at_corners orient2d (links_of o h a) (position_of p) ((links_of o h a).adjacent (suc f)))
