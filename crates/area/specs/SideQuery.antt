-- The call `side_query`: the doubled area of a triangle. Definitions only; laws in `SideQueryLaws`.
use Rattle.std.specs.Prelude.{cond, ℕ, Ok, Err}
use Rattle.math.specs.declared.Point.{Point}
use Rattle.math.specs.Determinant.{orient2d}
use Rattle.mesh_check.specs.Check.{is_outside}
use Rattle.area.specs.Sided.{Sided}

-- 3, with its place: 0 for p1, 1 for p2, 2 for q
abbrev pub side_refused : ℕ → Sided
side_refused place = Err (record { number = 3; place = place })

-- 02, Change 3: "The side test answers the exact signed doubled area, positive on the left". Refusal 3 has "place = the first such vertex"
unfoldable pub side_query_of : Point → Point → Point → Sided
side_query_of p1 p2 q =
    cond (is_outside p1) (side_refused 0)
    (cond (is_outside p2) (side_refused 1)
    (cond (is_outside q) (side_refused 2)
    (Ok (orient2d p1 p2 q))))
