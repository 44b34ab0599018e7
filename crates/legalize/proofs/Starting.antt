-- The first entries of the pending list, and the loop from there. Assumes nothing.
use mathlib.Core.Bool.{false, false≢true}
use mathlib.Core.List.{List, []}
use mathlib.Core.Path.{◌≡◌, sym, ◌∙◌, subst}
use Prim.Native.Nat.{ℕ, ◌≤◌}
use native.Mathlib.Omega.{arith}
use lib.IntN.{ℤ}
use lib.ListN.{length}
use Rattle.mesh.specs.declared.Counts.{Counts}
use Rattle.dcel.specs.Rows.{links_of, position_of}
use Rattle.pending.specs.declared.PendingList.{PendingList}
use Rattle.pending.specs.Pending.{pending_of, Holds}
use Rattle.pending.specs.Set.{SetOf}
use Rattle.pending.proofs.PendingLaws.{holds, holds_fits}
use Rattle.legalize.specs.declared.Entry.{Entry}
use Rattle.legalize.specs.declared.Legalized.{Legalized}
use Rattle.legalize.specs.Legalize.{legalize}
use Rattle.legalize.specs.Turns.{EntriesIn}
use Rattle.legalize.specs.LegalizeRows.{LegalizeReady, TurnReady, state_of, Leaves}

pub empty : (row : List ℕ) → Holds row 0 []
unfolding pending_of
empty row = holds row 0 (omega arith)

-- the value of a list without a set
pub listed : {row : List ℕ} {n : ℕ} {l : List ℕ} (w : PendingList) → w.length ≡ n → Holds row n l → Holds row w.length l
listed {row} {n} {l} w e H = subst (λ (m : ℕ). Holds row m l) (sym e) H

pub unmarked : {row : List ℕ} (w : PendingList) {edges : ℕ} → w.set ≡ false → SetOf row w edges
unmarked w e = λ t. absurd (false≢true (sym e ∙ t))

module _ (k : Entry) {C : Counts} {q : List ℤ} {o h a row : List ℕ} {c : ℕ} (M : LegalizeReady C q o h a row c)
    {row' : List ℕ} (w : PendingList) {l : List ℕ} (H : Holds row' w.length l) (S : SetOf row' w C.edges) (same : length row' ≡ length row) (few : length l ≤ 8) (E : EntriesIn C k l) where
  fits : w.length ≤ length row'
  fits = let m = M.room in holds_fits H (omega arith)

  pub start-ready : TurnReady k C q o h a row' w c
  start-ready = record {
    mesh = record { rows = M.rows; few = M.few; bound = M.bound; room = let m = M.room in omega arith };
    fits = fits;
    set = S;
    entries = rw (H.fits fits) E;
  }

  pub start-leaves : {o' h' a' : List ℕ} {r : Legalized} → Leaves o' h' a' r (legalize (length row') k C (position_of q) (state_of o h a row' w.length c))
      → Leaves o' h' a' r (legalize (length row) k C (position_of q) (record { links = links_of o h a; pending = l; flips = c; full = false }))
  start-leaves {o'} {h'} {a'} {r} F =
      subst (λ (m : List ℕ). Leaves o' h' a' r (legalize (length row) k C (position_of q) (record { links = links_of o h a; pending = m; flips = c; full = false }))) (H.fits fits)
      (subst (λ (m : ℕ). Leaves o' h' a' r (legalize m k C (position_of q) (state_of o h a row' w.length c))) same F)
