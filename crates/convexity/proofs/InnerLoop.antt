-- The invariant of the inner loop of `fix_convexity`: to go on from here is to go on from the start. Assumes nothing.
use mathlib.Core.Bool.{Bool, true, false, not, ◌||◌}
use mathlib.Core.List.{List}
use mathlib.Core.Path.{◌≡◌, sym, ◌∙◌, ap, subst⁻¹}
use Prim.Native.Nat.{ℕ, ◌+◌, ◌-◌, ◌≤◌}
use native.Mathlib.Omega.{arith}
use lib.IntN.{ℤ}
use lib.ListN.{length}
use Rattle.corner.specs.declared.Extension.{Extension}
use Rattle.corner.specs.Corner.{Extended}
use Rattle.corner.specs.CornerLaws.{none, then}
use Rattle.corner.specs.CornerRows.{extended_of, Ready}
use Rattle.corner.specs.RowsLaws.{SameLengths, same_refl, same-trans, ready-again}
use Rattle.dcel.specs.Rows.{links_of, position_of}
use Rattle.mesh.specs.Area.{boundary_length}
use Rattle.sums.proofs.UntilLaws.{Going, going_start, going-turn, going_end}
use Rattle.convexity.proofs.BehindLawsFacts.{closes}
use Rattle.convexity.specs.Walk.{Walk, left_behind, stops, closed_behind, close_behind, close_all_behind}
use Rattle.convexity.specs.WalkLaws.{Walking}
use Rattle.convexity.proofs.WalkLawsFacts.{turns-here, closes-fall}
use Rattle.convexity.specs.ConvexityRows.{walk_of, BehindReady, OnBoundary, CloseBehindReady, WalkReady}
use Rattle.convexity.proofs.Rows.{behind-ready, holds_not, fails-not}

-- ---- the inner loop: to go on from here is to go on from the start
-- the turns that are left, which the loop does not change
abbrev turns_over : List ℕ → List ℕ → List ℕ → Extension → ℕ → ℕ
turns_over o h a g d = boundary_length g.counts (links_of o h a) + 1 - d

pub record ClosingAt (q : List ℤ) (c d₀ : ℕ) (o₀ h₀ a₀ row₀ : List ℕ) (g₀ : Extension) (o h a row : List ℕ) (g : Extension) (d : ℕ) : Type 0 where
  pub ready : Ready q o h a row g
  pub lengths : SameLengths o₀ h₀ a₀ row₀ o h a row
  pub going : Going (stops (position_of q)) (close_behind (length row₀) (position_of q)) (Walking (position_of q)) (λ w. w.depth) (d₀ + 1)
      (walk_of o₀ h₀ a₀ g₀ c d₀ (turns_over o₀ h₀ a₀ g₀ d₀)) (walk_of o h a g c d (turns_over o₀ h₀ a₀ g₀ d₀))

-- a walk in rows that are ready
walking-in : {q : List ℤ} {o h a row : List ℕ} {g : Extension} {c d n : ℕ} → Ready q o h a row g → OnBoundary g.counts (links_of o h a) c
    → d + n ≡ boundary_length g.counts (links_of o h a) + 1 → Walking (position_of q) (walk_of o h a g c d n)
unfolding extended_of
walking-in R b e = record { good = R.rows.good; current = (b.edge, b.outer); count = e }

pub closing-starts : {q : List ℤ} {o h a row : List ℕ} {g : Extension} {c d : ℕ} → WalkReady q o h a row g c d → ClosingAt q c d o h a row g o h a row g d
closing-starts {q} {o} {h} {a} {row} {g} {c} {d} R = record {
  ready = R.ready;
  lengths = same_refl;
  going = going_start (stops (position_of q)) (close_behind (length row) (position_of q)) (closes-fall (length row) (position_of q)) (d + 1) _
      (walking-in R.ready R.current (let l = R.depth in omega arith)) (omega arith);
}

module _ {q : List ℤ} {c d₀ : ℕ} {o₀ h₀ a₀ row₀ : List ℕ} {g₀ : Extension} {o h a row : List ℕ} {g : Extension} {d : ℕ} (I : ClosingAt q c d₀ o₀ h₀ a₀ row₀ g₀ o h a row g d) where
  abbrev w : Walk
  w = walk_of o h a g c d (turns_over o₀ h₀ a₀ g₀ d₀)

  on-boundary : OnBoundary g.counts (links_of o h a) c
  unfolding extended_of
  on-boundary = record { edge = I.going.claim.current.0; outer = I.going.claim.current.1 }

  pub closing-behind : BehindReady q h c
  closing-behind = behind-ready I.ready.rows on-boundary.edge

  -- what the test says
  module _ {r : Bool} (t : (o a : List ℕ) → r ≡ not (g.full || not (left_behind (position_of q) (links_of o h a) c d))) where
    test-is : r ≡ not (stops (position_of q) w)
    unfolding stops extended_of
    test-is = t o a

    goes_on : r ≡ true → stops (position_of q) w ≡ false
    goes_on e = holds_not (stops (position_of q) w) (sym test-is ∙ e)

    comes-to-end : r ≡ false → stops (position_of q) w ≡ true
    comes-to-end e = fails-not (stops (position_of q) w) (sym test-is ∙ e)

    pub closing-ready : r ≡ true → CloseBehindReady q o h a row g c
    unfolding extended_of
    closing-ready e = record { ready = I.ready; current = on-boundary; left = (turns-here (position_of q) w (goes_on e)).left }

    pub closing-two : r ≡ true → 2 ≤ d
    closing-two e = (turns-here (position_of q) w (goes_on e)).two

    pub closing-on : r ≡ true → {o' h' a' row' : List ℕ} {g' : Extension} → extended_of o' h' a' g' ≡ closed_behind (length row) (position_of q) (extended_of o h a g) c
        → SameLengths o h a row o' h' a' row' → ClosingAt q c d₀ o₀ h₀ a₀ row₀ g₀ o' h' a' row' g' (d - 1)
    unfolding close_behind
    closing-on e {o'} {h'} {a'} {row'} {g'} x l =
        let i = I.going.claim in
        let b = goes_on e in
        record {
          ready = ready-again I.ready (then none _ (closes (length row) (position_of q) (extended_of o h a g) i.good i.current.0 i.current.1 (turns-here (position_of q) w b).left)) x l;
          lengths = same-trans I.lengths l;
          going = subst⁻¹ (λ (m : Extended). Going (stops (position_of q)) (close_behind (length row₀) (position_of q)) (Walking (position_of q)) (λ w. w.depth) (d₀ + 1)
              (walk_of o₀ h₀ a₀ g₀ c d₀ (turns_over o₀ h₀ a₀ g₀ d₀)) (record { mesh = m; current = c; depth = d - 1; left = turns_over o₀ h₀ a₀ g₀ d₀ }))
              (x ∙ ap (λ (n : ℕ). closed_behind n (position_of q) (extended_of o h a g) c) I.lengths.pending)
              (going-turn _ _ (closes-fall (length row₀) (position_of q)) I.going b);
        }

    pub closing_end : r ≡ false → (n : ℕ) → d₀ + n ≡ boundary_length g₀.counts (links_of o₀ h₀ a₀) + 1
        → walk_of o h a g c d n ≡ close_all_behind (length row₀) (position_of q) (walk_of o₀ h₀ a₀ g₀ c d₀ n)
    unfolding close_all_behind
    closing_end e n k =
        let z : turns_over o₀ h₀ a₀ g₀ d₀ ≡ n = omega arith in
        rw z at (going_end _ _ (closes-fall (length row₀) (position_of q)) I.going (comes-to-end e))
