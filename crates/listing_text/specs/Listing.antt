-- The lines of a listing: 01, "Runs to reproduce". Definitions only; laws in `ListingLaws`.
-- A line is a letter, fields and byte 10; a field is a blank, byte 32, and the digits of a number.
use Rattle.std.specs.Prelude.{List, [], ◌∷◌, ◌++◌, ℕ}
use Rattle.listing_text.specs.Decimal.{decimal, signed_decimal}
use Rattle.listing_text.specs.declared.writing.PointLine.{PointLine}
use Rattle.listing_text.specs.declared.writing.TotalsLine.{TotalsLine}

abbrev pub field : ℕ → List ℕ
field n = 32 ∷ decimal n

-- `p index fate vertex faces flips`; `p` is byte 112
unfoldable pub point_line : PointLine → List ℕ
point_line p =
    112 ∷ field p.index
    ++ field p.fate
    ++ field p.vertex
    ++ field p.faces
    ++ field p.flips
    ++ (10 ∷ [])

-- `t vertices edges innerfaces doubledarea finishfaces convexflips closingflips`; `t` is byte 116
unfoldable pub totals_line : TotalsLine → List ℕ
totals_line t =
    116 ∷ field t.vertices
    ++ field t.edges
    ++ field t.inner_faces
    ++ (32 ∷ []) ++ signed_decimal t.doubled_area
    ++ field t.finish_faces
    ++ field t.convex_flips
    ++ field t.closing_flips
    ++ (10 ∷ [])

-- `r number place`; `r` is byte 114
unfoldable pub refusal_line : ℕ → ℕ → List ℕ
refusal_line number place = 114 ∷ field number ++ field place ++ (10 ∷ [])
