-- The total of the faces before f, in halves, as the loop has it. Assumes nothing.
use mathlib.Core.List.{List}
use mathlib.Core.Path.{◌≡◌, refl, ◌∙◌, ap, ap₂}
use Prim.Native.Nat.{ℕ, suc, ◌+◌, ◌-◌, ◌<◌}
use native.Mathlib.Nat.{lt_of_lt_of_le}
use native.Mathlib.Omega.{arith}
use lib.Dec.{lit≤}
use lib.IntN.{ℤ, ◌+ℤ◌}
use mir.Syntax.{w64}
use mir.Val.{SFits, to_z, of_z}
use mir.Facts.{to_z-of_z}
use Rattle.dcel.specs.Rows.{row_of, links_of, position_of}
use Rattle.int128.specs.declared.Int128.{Int128}
use Rattle.int128.specs.Int128.{int128_of, in_halves, Fits128}
use Rattle.int128.proofs.Int128LawsFacts.{fits-abs, halves-mean}
use Rattle.math.specs.Determinant.{orient2d}
use Rattle.mesh.specs.declared.Counts.{Counts}
use Rattle.mesh.specs.Area.{at_corners, over_faces, area_total}
use Rattle.sums.specs.Sum.{sum}
use Rattle.area.specs.Summable.{Summable, areas_to}
use Rattle.area.proofs.SummableLaws.{areas-less}

pub no-area : (p : List ℤ) (o h a : List ℕ) → record { high = 0; low = 0 } ≡ in_halves (areas_to 0 p o h a)
unfolding areas_to sum in_halves
no-area p o h a = refl

-- the area x of face f, read from its stored edge e, after the faces before it
module _ {C : Counts} {p : List ℤ} {h a : List ℕ} (S : Summable C p h a) (o : List ℕ) {total : Int128} {f e : ℕ} {x : ℤ}
    (some : 0 < f) (l : f < C.faces) (t : total ≡ in_halves (areas_to (f - 1) p o h a)) (es : e ≡ row_of a f) (ok : SFits w64 x)
    (xs : x ≡ at_corners orient2d (links_of o h a) (position_of p) e) where
  before : int128_of total ≡ areas_to (f - 1) p o h a
  before =
      ap int128_of t ∙ halves-mean _ (fits-abs _ (lt_of_lt_of_le (areas-less S o (f - 1) (omega arith)) (lit≤ tt)))

  more : int128_of total +ℤ to_z w64 (of_z w64 x) ≡ areas_to (f + 1 - 1) p o h a
  unfolding areas_to sum links_of
  more =
      let n : f ≡ suc (f - 1) = omega arith in
      let next : suc (f - 1) ≡ f + 1 - 1 = omega arith in
      ap₂ ◌+ℤ◌ before (to_z-of_z ok ∙ xs ∙ ap (at_corners orient2d (links_of o h a) (position_of p)) (es ∙ ap (row_of a) n))
      ∙ ap (λ (k : ℕ). areas_to k p o h a) next

  pub more-fits : Fits128 (int128_of total +ℤ to_z w64 (of_z w64 x))
  more-fits = rw more (fits-abs _ (lt_of_lt_of_le (areas-less S o (f + 1 - 1) (omega arith)) (lit≤ tt)))

  pub next-area : {r : Int128} → r ≡ in_halves (int128_of total +ℤ to_z w64 (of_z w64 x)) → r ≡ in_halves (areas_to (f + 1 - 1) p o h a)
  next-area q = q ∙ ap in_halves more

pub all-areas : (C : Counts) (p : List ℤ) (o h a : List ℕ) {f : ℕ} {r : Int128} → f ≡ C.faces → r ≡ in_halves (areas_to (f - 1) p o h a)
    → r ≡ in_halves (area_total C (links_of o h a) (position_of p))
unfolding areas_to over_faces
all-areas C p o h a e q = rw e at q
