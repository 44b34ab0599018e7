-- How long the lines of a listing are at most, so that a caller knows how much room to lend: with 397 points it is 397 * 107 + 149 bytes.
--     point-length, totals-length, refusal-length
-- Assumes nothing.
use Rattle.std.specs.Prelude.{ℕ, suc, ◌^◌, ◌≤◌, ◌<◌, ℤ, pos, negsuc, nat_abs, length}
use Rattle.std.proofs.Common.{lt_of_lt_of_le, lt_of_le_of_lt, arith, lit<, lit≤, length-append}
use Rattle.listing_text.specs.Decimal.{signed_decimal}
use Rattle.listing_text.specs.DecimalLaws.{decimal-length}
use Rattle.listing_text.specs.Listing.{field, point_line, totals_line, refusal_line}
use Rattle.listing_text.specs.declared.writing.PointLine.{PointLine}
use Rattle.listing_text.specs.declared.writing.TotalsLine.{TotalsLine}

-- ---- one field
pub field-length : (n : ℕ) → n < 2 ^ 64 → length (field n) ≤ 21
field-length n l = let h = decimal-length 19 n (lt_of_lt_of_le l (lit≤ tt)) in omega arith

pub signed-length : (z : ℤ) → nat_abs z ≤ 2 ^ 63 → length (signed_decimal z) ≤ 20
signed-length (pos n) l = let h = decimal-length 18 n (lt_of_le_of_lt l (lit< tt)) in omega arith
signed-length (negsuc n) l = let h = decimal-length 18 (suc n) (lt_of_le_of_lt l (lit< tt)) in omega arith

-- ---- lines
pub point-length : (p : PointLine) → p.index < 2 ^ 64 → p.fate < 2 ^ 64 → p.vertex < 2 ^ 64 → p.faces < 2 ^ 64
    → p.flips < 2 ^ 64
    → length (point_line p) ≤ 107
unfolding point_line
point-length p a b c d e =
    let i = field-length p.index a in let f = field-length p.fate b in
    let v = field-length p.vertex c in let k = field-length p.faces d in
    let n = field-length p.flips e in
    simp length-append (omega arith)

pub totals-length : (t : TotalsLine) → t.vertices < 2 ^ 64 → t.edges < 2 ^ 64 → t.inner_faces < 2 ^ 64
    → nat_abs t.doubled_area ≤ 2 ^ 63 → t.finish_faces < 2 ^ 64
    → t.convex_flips < 2 ^ 64 → t.closing_flips < 2 ^ 64 → length (totals_line t) ≤ 149
unfolding totals_line
totals-length t a b c d e f g =
    let v = field-length t.vertices a in let k = field-length t.edges b in let i = field-length t.inner_faces c in
    let s = signed-length t.doubled_area d in let n = field-length t.finish_faces e in
    let m = field-length t.convex_flips f in let o = field-length t.closing_flips g in
    simp length-append (omega arith)

pub refusal-length : (number place : ℕ) → number < 2 ^ 64 → place < 2 ^ 64 → length (refusal_line number place) ≤ 44
unfolding refusal_line
refusal-length number place a b = let n = field-length number a in let p = field-length place b in simp length-append (omega arith)
