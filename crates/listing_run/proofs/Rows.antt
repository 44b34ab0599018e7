-- The lines of the points one after the other, and the totals behind them. Assumes nothing.
use mathlib.Core.List.{List, ◌++◌}
use mathlib.Core.Path.{◌≡◌, refl, ◌∙◌, ap, subst}
use Prim.Native.Nat.{ℕ, ◌+◌, ◌*◌, ◌≤◌}
use native.Mathlib.Nat.{add-zero}
use native.Mathlib.Numerals.{add-one}
use native.Mathlib.Omega.{arith}
use lib.IntN.{ℤ}
use mir.Syntax.{w64}
use mir.Val.{SFits, to_z, of_z}
use mir.Facts.{to_z-of_z}
use Rattle.listing_text.specs.declared.writing.PointLine.{PointLine}
use Rattle.listing_text.specs.Decimal.{Appended}
use Rattle.listing_text.specs.Listing.{point_line, totals_line}
use Rattle.listing_text.specs.RowLaws.{appended-none, appended_then}
use Rattle.dcel.specs.Rows.{row_of}
use Rattle.finish.specs.declared.Totals.{Totals}
use Rattle.listing_text.specs.declared.writing.TotalsLine.{TotalsLine}
use Rattle.mesh.specs.declared.Counts.{Counts}
use Rattle.sweep.specs.Run.{answer_words}
use Rattle.listing_run.specs.ListingRun.{answer_line, point_lines, totals_of}

-- ---- the points' lines
module _ (answers : List ℕ) where
  pub answer-is : (i : ℕ) → record {
    index = i;
    fate = row_of answers (answer_words * i);
    vertex = row_of answers (answer_words * i + 1);
    faces = row_of answers (answer_words * i + 2);
    flips = row_of answers (answer_words * i + 3);
  } ≡ answer_line answers i
  unfolding answer_line
  answer-is i = rw (add-zero (answer_words * i)) refl

  pub points_none : (row : List ℕ) → Appended row 0 (point_lines answers 0) row 0
  unfolding point_lines
  points_none row = appended-none row 0

  pub points-next : {row row' row'' : List ℕ} {at' at'' : ℕ} (i : ℕ) {line : PointLine} → Appended row 0 (point_lines answers i) row' at'
      → line ≡ answer_line answers i → Appended row' at' (point_line line) row'' at'' → Appended row 0 (point_lines answers (i + 1)) row'' at''
  unfolding point_lines
  points-next i f e g = rw add-one (appended_then f (rw e at g))

  pub points-all : {row row' : List ℕ} {at' i count : ℕ} → i ≤ count → count ≤ i → Appended row 0 (point_lines answers i) row' at'
      → Appended row 0 (point_lines answers count) row' at'
  points-all {i = i} {count = count} l m f = let e : i ≡ count = omega arith in rw e at f

-- ---- and the totals behind them
pub totals-next : {lines row row' row'' : List ℕ} {at' at'' : ℕ} (C : Counts) (t : Totals) {area total : ℤ} {line : TotalsLine} → Appended row 0 lines row' at'
    → SFits w64 area → area ≡ total → line ≡ totals_of C (to_z w64 (of_z w64 area)) t → Appended row' at' (totals_line line) row'' at''
    → Appended row 0 (lines ++ totals_line (totals_of C total t)) row'' at''
totals-next {lines} {row} {row'} {row''} {at'} {at''} C t {area} {total} {line} f ok a e g =
    let z : line ≡ totals_of C total t = e ∙ ap (λ (k : ℤ). totals_of C k t) (to_z-of_z ok ∙ a) in
    appended_then f (rw z at g)

pub appended-as : {row row' xs ys : List ℕ} {at at' : ℕ} → xs ≡ ys → Appended row at xs row' at' → Appended row at ys row' at'
appended-as {row} {row'} {at = at} {at' = at'} e f = subst (λ (zs : List ℕ). Appended row at zs row' at') e f
