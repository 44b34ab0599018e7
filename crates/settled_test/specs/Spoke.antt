-- What is carried from spoke to spoke about a vertex, and the test of a spoke's edge. Definitions only.
use Rattle.std.specs.Prelude.{Bool, ◌&&◌, List, ◌≡◌, ℕ, ◌<◌, ltb, ℤ}
use Rattle.dcel.specs.Rows.{halves_of, row_of, position_of}
use Rattle.math.specs.declared.Point.{Point}
use Rattle.math.specs.Determinant.{InRange, contained_in_circumference}
use Rattle.sums.specs.Half.{rev}
use Rattle.settled_test.specs.declared.Spoke.{Spoke}

-- the half-edge starts at v, and the rest is what the rows have of its reverse; the far vertex of that only where it is of an inner face
pub record SpokeOf (q : List ℤ) (h : List ℕ) (v : ℕ) (at : Spoke) : Type 0 where
  pub origin : (halves_of h).origin at.e ≡ v
  pub here : at.here ≡ position_of q ((halves_of h).origin (rev at.e))
  pub face : at.face ≡ (halves_of h).face (rev at.e)
  pub before : 0 < at.face → at.before ≡ position_of q ((halves_of h).origin ((halves_of h).prev (rev at.e)))
  pub range : InRange at.before

-- the out edge of v
pub record FirstSpoke (q : List ℤ) (o h : List ℕ) (v : ℕ) (at : Spoke) : Type 0 where
  pub out : at.e ≡ row_of o v
  pub spoke : SpokeOf q h v at

-- both faces are inner ones, and the end of the spoke before is strictly inside the circle of the spoke's triangle
unfoldable pub broken_at : Point → Spoke → ℕ → Point → Bool
broken_at center at face next =
    ltb 0 face && (ltb 0 at.face && contained_in_circumference center at.here next at.before)
