-- A row of heights as its functions see it: a store, and the search for a height that is outside. Assumes nothing.
use mathlib.Core.Bool.{Bool, true, false, not, ◌||◌}
use mathlib.Core.List.{List}
use mathlib.Core.Path.{◌≡◌, refl, sym, ◌∙◌, ap}
use Prim.Native.Nat.{ℕ, suc, ◌+◌, ◌<◌}
use native.Mathlib.Omega.{arith}
use lib.IntN.{ℤ, pos}
use lib.ListN.{length, set}
use Rattle.sums.specs.Bounded.{any_below}
use Rattle.sums.specs.Put.{put}
use Rattle.sums.proofs.Store.{get_or-put}
use Rattle.heights.specs.Heights.{height_of, is_valid_height, heights_outside}

pub store-height : (row : List ℤ) (v : ℕ) {w z : ℤ} → v < length row → w ≡ z → height_of (set row v w) ≡ put (height_of row) v z
unfolding height_of
store-height row v {w} {z} l e = get_or-put row (pos 0) v w l ∙ ap (put (height_of row) v) e

-- ---- one height more is looked at
pub outside-none : (row : List ℤ) → heights_outside 0 row ≡ false
unfolding heights_outside any_below
outside-none row = refl

module _ (row : List ℤ) (v : ℕ) where
  outside-more : heights_outside (v + 1) row ≡ (not (is_valid_height (height_of row v)) || heights_outside v row)
  unfolding heights_outside any_below
  outside-more = ap (λ (n : ℕ). any_below n (λ v. not (is_valid_height (height_of row v)))) plus
    where
      plus : v + 1 ≡ suc v
      plus = omega arith

  module _ {z : ℤ} {valid : Bool} (a : z ≡ height_of row v) (b : valid ≡ is_valid_height z) where
    same : not valid ≡ not (is_valid_height (height_of row v))
    same = ap not b ∙ ap (λ (z : ℤ). not (is_valid_height z)) a

    pub outside-seen : not valid ≡ true → heights_outside (v + 1) row ≡ true
    outside-seen t = outside-more ∙ ap (λ (x : Bool). x || heights_outside v row) (sym same ∙ t)

    pub outside-not : not valid ≡ false → heights_outside (v + 1) row ≡ heights_outside v row
    outside-not t = outside-more ∙ ap (λ (x : Bool). x || heights_outside v row) (sym same ∙ t)
