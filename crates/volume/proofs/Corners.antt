-- The heights of a face's corners, as they are read. Assumes nothing.
use mathlib.Core.List.{List}
use mathlib.Core.Path.{◌≡◌, ap₂}
use Prim.Native.Nat.{ℕ, ◌<◌}
use lib.IntN.{ℤ, pos, ◌+ℤ◌, ◌-ℤ◌, ◌*ℤ◌}
use lib.ListN.{length}
use mir.Syntax.{w32}
use mir.Val.{SFits, to_z, of_z}
use mir.Facts.{to_z-of_z}
use Rattle.dcel.specs.Rows.{There, halves_of, links_of}
use Rattle.heights.specs.Heights.{height_of}
use Rattle.volume.specs.Measurable.{CornerHeights}
use Rattle.volume.specs.Volume.{above_level}

module _ {h : List ℕ} {z : List ℤ} {a b : ℕ} (K : CornerHeights z h a) (bs : b ≡ (halves_of h).next a) where
  pub second-there : There h b
  second-there = rw bs K.second

  pub height-one : {u : ℕ} → u ≡ (halves_of h).origin a → u < length z
  height-one us = rw us K.one

  pub height-two : {v : ℕ} → v ≡ (halves_of h).origin b → v < length z
  height-two vs = rw (vs, bs) K.two

  module _ {c : ℕ} (cs : c ≡ (halves_of h).next b) where
    pub third-there : There h c
    third-there = rw (cs, bs) K.third

    pub height-three : {w : ℕ} → w ≡ (halves_of h).origin c → w < length z
    height-three ws = rw (ws, cs, bs) K.three

-- a number of 32 bits as the machine reads it
abbrev rd : ℤ → ℤ
rd z = to_z w32 (of_z w32 z)

pub above-is : (o h s : List ℕ) (Z : List ℤ) {level : ℤ} (a : ℕ) {b c u v w : ℕ} {x y z : ℤ}
    → b ≡ (halves_of h).next a → c ≡ (halves_of h).next b
    → u ≡ (halves_of h).origin a → v ≡ (halves_of h).origin b → w ≡ (halves_of h).origin c
    → SFits w32 x → SFits w32 y → SFits w32 z → SFits w32 level
    → x ≡ height_of Z u → y ≡ height_of Z v → z ≡ height_of Z w
    → rd x +ℤ rd y +ℤ rd z -ℤ pos 3 *ℤ rd level ≡ above_level (links_of o h s) (height_of Z) level a
unfolding links_of above_level
above-is o h s Z a bs cs us vs ws f g k l xs ys zs =
    rw (← bs, ← cs, ← us, ← vs, ← ws, ← xs, ← ys, ← zs)
    (ap₂ (λ (s l : ℤ). s -ℤ pos 3 *ℤ l) (ap₂ ◌+ℤ◌ (ap₂ ◌+ℤ◌ (to_z-of_z f) (to_z-of_z g)) (to_z-of_z k)) (to_z-of_z l))
