-- How long the lines of a listing are, from the ranges of what the code holds. Assumes nothing.
use mathlib.Core.List.{List, ◌++◌}
use mathlib.Core.Path.{◌≡◌, ◌∙◌, ap, subst}
use Prim.Native.Nat.{ℕ, ◌+◌, ◌*◌, ◌^◌, ◌<◌, ◌≤◌}
use native.Mathlib.Numerals.{add-one}
use native.Mathlib.Nat.{le_trans}
use native.Mathlib.Omega.{arith}
use lib.IntN.{ℤ, pos, negsuc, nat_abs}
use lib.ListN.{length, length-append}
use mir.Syntax.{w64}
use mir.Val.{SFits, to_z, of_z}
use mir.Facts.{to_z-of_z}
use Rattle.finish.specs.declared.Totals.{Totals}
use Rattle.listing_text.specs.declared.writing.PointLine.{PointLine}
use Rattle.listing_text.specs.declared.writing.TotalsLine.{TotalsLine}
use Rattle.listing_text.specs.Listing.{point_line, totals_line, refusal_line}
use Rattle.listing_text.specs.ListingLaws.{totals-length, refusal-length}
use Rattle.mesh.specs.declared.Counts.{Counts}
use Rattle.listing_run.specs.ListingRun.{answer_line, point_lines, totals_of}

abs-most : (z : ℤ) → SFits w64 z → nat_abs z ≤ 2 ^ 63
abs-most (pos n) f = let h = f.sfits in omega arith
abs-most (negsuc n) f = let h = f.sfits in omega arith

pub totals-short : (v e i k : ℕ) (z : ℤ) (a b : ℕ) → v < 2 ^ 64 → e < 2 ^ 64 → i < 2 ^ 64 → SFits w64 z → k < 2 ^ 64
    → a < 2 ^ 64 → b < 2 ^ 64
    → length (totals_line (record {
      vertices = v;
      edges = e;
      inner_faces = i;
      doubled_area = to_z w64 (of_z w64 z);
      finish_faces = k;
      convex_flips = a;
      closing_flips = b;
    })) ≤ 149
totals-short v e i k z a b l m n f o p q = rw (to_z-of_z f) (totals-length _ l m n (abs-most z f) o p q)

-- ---- all points
pub points-short : (answers : List ℕ) (i : ℕ) {line : PointLine} → length (point_lines answers i) ≤ 107 * i → line ≡ answer_line answers i → length (point_line line) ≤ 107
    → length (point_lines answers (i + 1)) ≤ 107 * (i + 1)
unfolding point_lines
points-short answers i l e m =
    let n = rw e at m in
    rw (add-one, length-append) (omega arith)

pub points-none-short : (answers : List ℕ) → length (point_lines answers 0) ≤ 107 * 0
unfolding point_lines
points-none-short answers = omega arith

pub points-all-short : (answers : List ℕ) {i count : ℕ} → i ≤ count → count ≤ i → length (point_lines answers i) ≤ 107 * i → length (point_lines answers count) ≤ 107 * count
points-all-short answers {i} {count} l m h = let e : i ≡ count = omega arith in rw e at h

-- ---- and the totals behind them
pub totals-next-short : (lines : List ℕ) (C : Counts) (t : Totals) {area total : ℤ} {line : TotalsLine} (count : ℕ) → SFits w64 area → area ≡ total
    → line ≡ totals_of C (to_z w64 (of_z w64 area)) t → length lines ≤ 107 * count → length (totals_line line) ≤ 149
    → length (lines ++ totals_line (totals_of C total t)) ≤ 107 * count + 149
totals-next-short lines C t {area} {total} {line} count ok a e l m =
    let z : line ≡ totals_of C total t = e ∙ ap (λ (k : ℤ). totals_of C k t) (to_z-of_z ok ∙ a) in
    let n = rw z at m in
    rw length-append (omega arith)

-- a listing that is as long as another
pub short-at : {xs ys : List ℕ} {m : ℕ} → xs ≡ ys → length xs ≤ m → length ys ≤ m
short-at {m = m} e l = subst (λ (zs : List ℕ). length zs ≤ m) e l

pub short-as : {xs ys : List ℕ} {n m : ℕ} → xs ≡ ys → length xs ≤ n → n ≤ m → length ys ≤ m
short-as e l k = short-at e (le_trans l k)

pub refusal-short : (number place : ℕ) {m : ℕ} → number < 2 ^ 32 → place < 2 ^ 32 → 149 ≤ m → length (refusal_line number place) ≤ m
refusal-short number place a b k = let h = refusal-length number place (omega arith) (omega arith) in omega arith

pub few-lines : (v : ℕ) {n count : ℕ} → count ≡ n → v + n ≤ 400 → 107 * count + 149 ≤ 42949
few-lines v e l = omega arith
