-- What the sweep over the inner faces asks of the rows: an accepted mesh's corners can be read. Definitions only;
-- laws in `ReadableLaws`.
use Rattle.std.specs.Prelude.{ℕ, ◌<◌, ◌≤◌, List, ℤ, length}
use Rattle.dcel.specs.Rows.{There, Placed, halves_of, row_of}
use Rattle.mesh.specs.declared.Counts.{Counts}

-- half-edge a, the next one and the one after are in the row, and so are the positions of their origins
pub record Corners (p : List ℤ) (h : List ℕ) (a : ℕ) : Type 0 where
  pub first : There h a
  pub second : There h ((halves_of h).next a)
  pub third : There h ((halves_of h).next ((halves_of h).next a))
  pub one : Placed p ((halves_of h).origin a)
  pub two : Placed p ((halves_of h).origin ((halves_of h).next a))
  pub three : Placed p ((halves_of h).origin ((halves_of h).next ((halves_of h).next a)))

-- every face's corners
pub record Readable (C : Counts) (p : List ℤ) (h a : List ℕ) : Type 0 where
  pub some : 0 < C.faces
  pub faces : C.faces ≤ length a
  pub corners : (f : ℕ) → f < C.faces → Corners p h (row_of a f)
