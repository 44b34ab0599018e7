-- The invariant of the loop over the passes: to go on from here is to go on from the start. Assumes nothing.
use mathlib.Core.Bool.{Bool, true, false, not, ◌||◌}
use mathlib.Core.List.{List}
use mathlib.Core.Path.{◌≡◌, refl, ◌∙◌, ap, subst⁻¹}
use Prim.Native.Nat.{ℕ, ◌+◌, ◌*◌, ◌<◌}
use native.Mathlib.Omega.{arith}
use lib.Dec.{eqb}
use lib.IntN.{ℤ}
use lib.ListN.{length}
use Rattle.conflicts.proofs.FlipsWithinLaws.{within_none}
use Rattle.corner.specs.declared.Extension.{Extension}
use Rattle.corner.specs.Corner.{Extended}
use Rattle.corner.specs.CornerRows.{extended_of, Ready}
use Rattle.corner.specs.RowsLaws.{SameLengths, same_refl, same-trans, ready-again}
use Rattle.dcel.specs.Rows.{links_of, position_of}
use Rattle.mesh.specs.declared.Counts.{Counts}
use Rattle.sums.proofs.UntilLaws.{Going, going_start, going-turn, going_less, going_end}
use Rattle.convexity.specs.Convexity.{fix_convexity, Passes, pass_again, unpassed, convexity}
use Rattle.convexity.specs.ConvexityLaws.{Passing, passes_left}
use Rattle.convexity.proofs.ConvexityLawsFacts.{passes-fall, passes-start, passes-enough, again-closings}
use Rattle.convexity.specs.ConvexityRows.{StartReady, MeshReady}
use Rattle.convexity.proofs.Rows.{holds_not, fails-not}

-- ---- pass after pass
pub record PassesAt (q : List ℤ) (o₀ h₀ a₀ row₀ : List ℕ) (C : Counts) (o h a row : List ℕ) (g : Extension) (s : Bool) : Type 0 where
  pub ready : Ready q o h a row g
  pub lengths : SameLengths o₀ h₀ a₀ row₀ o h a row
  pub going : Going (λ t. t.still) (pass_again (length row₀) (position_of q)) (Passing (position_of q)) passes_left (2 * C.vertices + 2) (unpassed C (links_of o₀ h₀ a₀))
      (record { mesh = extended_of o h a g; still = s })

pub passes-begin : {q : List ℤ} {o h a row : List ℕ} {C : Counts} → MeshReady q o h a row C
    → PassesAt q o h a row C o h a row (record { counts = C; faces = 0; flips = 0; full = false }) false
unfolding extended_of
passes-begin {q} {o} {h} {a} {row} {C} R = record {
  ready = record { rows = R.rows; sized = R.sized; flips = within_none; faces = omega arith };
  lengths = same_refl;
  going = going_start (λ t. t.still) (pass_again (length row) (position_of q)) (passes-fall (length row) (position_of q)) (2 * C.vertices + 2) (unpassed C (links_of o h a))
      (passes-start (length row) C (position_of q) (links_of o h a) R.rows.good) (passes-enough (length row) C (position_of q) (links_of o h a) R.rows.good);
}

module _ {q : List ℤ} {o₀ h₀ a₀ row₀ : List ℕ} {C : Counts} {o h a row : List ℕ} {g : Extension} {s : Bool} (I : PassesAt q o₀ h₀ a₀ row₀ C o h a row g s) where
  abbrev passed : Passes
  passed = record { mesh = extended_of o h a g; still = s }

  module _ (e : not s ≡ true) where
    pub again-ready : StartReady q o h a row g
    unfolding extended_of
    again-ready = record { ready = I.ready; full = I.going.claim.full (holds_not s e) }

    module _ (o' h' a' : List ℕ) (g' : Extension) {r : Bool} (x : extended_of o' h' a' g' ≡ fix_convexity (length row) (position_of q) (extended_of o h a g))
        (t : r ≡ (g'.full || eqb g'.faces g.faces)) where
      again-is : (n : ℕ) → length row ≡ n → ◌≡◌ {A = Passes} (record { mesh = extended_of o' h' a' g'; still = r }) (pass_again n (position_of q) passed)
      unfolding pass_again extended_of
      again-is n k =
          rw t (ap (λ (m : Extended). record { mesh = m; still = m.full || eqb m.faces g.faces })
          (x ∙ ap (λ (n : ℕ). fix_convexity n (position_of q) (extended_of o h a g)) k))

      pub passes_on : {row' : List ℕ} → SameLengths o h a row o' h' a' row' → PassesAt q o₀ h₀ a₀ row₀ C o' h' a' row' g' r
      passes_on l = record {
        ready = ready-again I.ready (again-closings (length row) (position_of q) passed I.going.claim (holds_not s e)) (ap (λ (s : Passes). s.mesh) (again-is (length row) refl)) l;
        lengths = same-trans I.lengths l;
        going = subst⁻¹ (Going (λ t. t.still) (pass_again (length row₀) (position_of q)) (Passing (position_of q)) passes_left (2 * C.vertices + 2) _) (again-is (length row₀) I.lengths.pending)
            (going-turn _ _ (passes-fall (length row₀) (position_of q)) I.going (holds_not s e));
      }

      pub passes-less : passes_left (record { mesh = extended_of o' h' a' g'; still = r }) < passes_left passed
      passes-less = subst⁻¹ (λ (t : Passes). passes_left t < passes_left passed) (again-is (length row₀) I.lengths.pending)
          (going_less _ _ (passes-fall (length row₀) (position_of q)) I.going (holds_not s e))

  pub passes-end : not s ≡ false → extended_of o h a g ≡ convexity (length row₀) C (position_of q) (links_of o₀ h₀ a₀)
  unfolding convexity
  passes-end e = ap (λ (t : Passes). t.mesh) (going_end _ _ (passes-fall (length row₀) (position_of q)) I.going (fails-not s e))
