-- The corners of a face, as they are read. Assumes nothing.
use mathlib.Core.Path.{◌≡◌}
use mathlib.Core.Bool.{Bool, true, false, not, ◌&&◌}
use mathlib.Core.List.{List}
use Prim.Native.Nat.{ℕ, ◌<◌}
use borrow.Author.Tests.{lt-ltb}
use lib.Dec.{ltb}
use lib.IntN.{ℤ}
use Rattle.dcel.specs.Rows.{There, Placed, halves_of, links_of, position_of}
use Rattle.math.specs.declared.Point.{Point}
use Rattle.math.specs.Determinant.{InRange, orient2d}
use Rattle.mesh.specs.Area.{at_corners}
use Rattle.mesh_check.specs.Readable.{Corners}

module _ {h : List ℕ} {P : List ℤ} {a b : ℕ} (K : Corners P h a) (bs : b ≡ (halves_of h).next a) where
  pub second-there : There h b
  second-there = rw bs K.second

  pub placed_one : {u : ℕ} → u ≡ (halves_of h).origin a → Placed P u
  placed_one us = rw us K.one

  pub placed-two : {v : ℕ} → v ≡ (halves_of h).origin b → Placed P v
  placed-two vs = rw (vs, bs) K.two

  module _ {c : ℕ} (cs : c ≡ (halves_of h).next b) where
    pub third-there : There h c
    third-there = rw (cs, bs) K.third

    pub placed-three : {w : ℕ} → w ≡ (halves_of h).origin c → Placed P w
    placed-three ws = rw (ws, cs, bs) K.three

pub placed-range : {P : List ℤ} {v : ℕ} {p : Point} → Placed P v → p ≡ position_of P v → InRange p
placed-range K e = rw e K.range

pub area-is : (o h s : List ℕ) (P : List ℤ) (a : ℕ) {b c u v w : ℕ} {p q r : Point} → b ≡ (halves_of h).next a → c ≡ (halves_of h).next b
    → u ≡ (halves_of h).origin a → v ≡ (halves_of h).origin b → w ≡ (halves_of h).origin c → p ≡ position_of P u → q ≡ position_of P v → r ≡ position_of P w
    → orient2d p q r ≡ at_corners orient2d (links_of o h s) (position_of P) a
unfolding links_of
area-is o h s P a bs cs us vs ws ps qs rs = rw (← bs, ← cs, ← us, ← vs, ← ws, ← ps, ← qs, ← rs)

-- an inner face's test, from what was read
pub face-left : (f : ℕ) {t u : Bool} → 0 < f → t ≡ u → t ≡ true → (ltb 0 f && not u) ≡ false
face-left f l e k = rw (lt-ltb 0 f l, ← e, k)

pub face-not-left : (f : ℕ) {t u : Bool} → 0 < f → t ≡ u → t ≡ false → (ltb 0 f && not u) ≡ true
face-not-left f l e k = rw (lt-ltb 0 f l, ← e, k)
