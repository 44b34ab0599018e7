-- Where no point was skipped none goes in: how that is found out, and what is left then. Assumes nothing.
use mir.Val.{bool_byte}
use Rattle.std.specs.Prelude.{Bool, true, false, List, ◌≡◌, refl, ℕ, zero, suc, ◌+◌, ◌≤◌, ℤ, length}
use Rattle.std.proofs.Common.{sym, ◌∙◌, subst, le_refl, add-one, arith}
use Rattle.std.proofs.Math.Decide.{ℕ_discrete}
use Rattle.answers.specs.AnswerRows.{skipped_in}
use Rattle.dcel.specs.Rows.{row_of}
use Rattle.mesh.specs.declared.Counts.{Counts}
use Rattle.complete.specs.CompleteRows.{NoneSkipped, FillReady, FillLeaves}
use Rattle.complete.specs.FillLoop.{FillingOn}
use Rattle.complete.proofs.FillLoopLaws.{filling-starts, filling-on, filling-end}
use Rattle.complete.proofs.PointLaws.{not-skipped}

-- a test that adds nothing to a count fails, and none adds more than 1
pub not-counted : (b : Bool) → bool_byte b ≡ zero → b ≡ false
not-counted true e = absurd (omega arith)
not-counted false e = refl

pub counted-most : (b : Bool) → bool_byte b ≤ 1
counted-most true = omega arith
counted-most false = omega arith

-- the next was not skipped either
pub none_more : (w : List ℕ) (i : ℕ) → NoneSkipped w i → {b : Bool} → b ≡ skipped_in (row_of w) i → b ≡ false → NoneSkipped w (i + 1)
none_more w i N e f j l = go (ℕ_discrete j i)
  where
    go : Dec (j ≡ i) → skipped_in (row_of w) j ≡ false
    go (yes x) = rw x (sym e ∙ f)
    go (no x) = N j (omega arith)

-- the whole list leaves the rows alone
module _ {C : Counts} {q : List ℤ} {o h a row w : List ℕ} {points : List ℤ} {n : ℕ}
    (R : FillReady C q o h a row w points n) (N : NoneSkipped w n) where
  filling-none : (i : ℕ) → i ≤ n → FillingOn C q o h a row w points n C q o h a row w i
  filling-none zero l = filling-starts R
  filling-none (suc i) l = subst (FillingOn C q o h a row w points n C q o h a row w) (add-one i)
      (filling-on (filling-none i (omega arith)) (omega arith)
      (not-skipped C q o h a (length row) w points i refl (N i (omega arith))) refl
      (record { positions = refl; outs = refl; halves = refl; faces = refl; pending = refl; answers = refl }))

  pub none_filled : FillLeaves C q o h a (length row) w points n q o h a w (record { counts = C; answered = n; full = false })
  none_filled = filling-end (filling-none n (le_refl n)) (le_refl n)
