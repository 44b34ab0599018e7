-- The closing pass after the skipped points, by whether a flip was refused. Assumes nothing.
use Rattle.std.specs.Prelude.{true, false, List, ◌≡◌, ℕ, ℤ}
use Rattle.std.proofs.Math.Path.{refl}
use Rattle.closing.specs.Closing.{closing_pass}
use Rattle.closing.specs.ClosingRows.{closing_of}
use Rattle.dcel.specs.Rows.{links_of, position_of}
use Rattle.finish.specs.Finish.{close_after}
use Rattle.finish.specs.FinishRows.{finishing_of}
use Rattle.complete.specs.declared.FillEnd.{FillEnd}
use Rattle.complete.specs.declared.Completed.{Completed}
use Rattle.complete.specs.CompleteRows.{filling_of, stopped_at, close_fill}

module _ (q : List ℤ) (o h a : List ℕ) (s : FillEnd) (faces flips : ℕ) where
  pub close-refused : s.full ≡ true → {r : Completed} → r ≡ stopped_at s.counts faces flips s.answered
      → (finishing_of o h a r.ended ≡ close_fill faces flips (filling_of q o h a s)) × (r.place ≡ s.answered)
  unfolding close_fill close_after finishing_of
  close-refused f e = (rw (e, f) refl, rw e refl)

  pub close-made : s.full ≡ false → (o' h' a' : List ℕ) (k : ℕ)
      → closing_of o' h' a' k ≡ closing_pass s.counts (position_of q) (links_of o h a)
      → finishing_of o' h' a'
      (record { counts = s.counts; totals = record { faces = faces; convexflips = flips; closingflips = k }; full = false })
      ≡ close_fill faces flips (filling_of q o h a s)
  unfolding close_fill close_after finishing_of closing_of
  close-made f o' h' a' k d = rw (f, ← d) refl
