-- For the callers: what a call of `legalize_edge` or `legalize_edges_after_removal` leaves is a good mesh that is ready
-- for the next. Assumes nothing.
use Rattle.std.specs.Prelude.{false, List, ◌≡◌, ℕ, ℤ, length}
use Rattle.std.proofs.Math.Path.{subst⁻¹}
use Rattle.std.proofs.Common.{arith}
use Rattle.conflicts.specs.FlipsWithin.{FlipsWithin}
use Rattle.mesh.specs.declared.Counts.{Counts}
use Rattle.mesh.specs.Mesh.{Links}
use Rattle.dcel.specs.Rows.{links_of, position_of}
use Rattle.circle_test.specs.GoodRows.{good-again}
use Rattle.legalize.specs.declared.Entry.{Entry}
use Rattle.legalize.specs.declared.Legalized.{Legalized}
use Rattle.legalize.specs.Legalize.{Legalizing, legalize}
use Rattle.legalize.specs.Turns.{EntriesIn}
use Rattle.legalize.specs.LegalizeLaws.{Outcome, legalize-start, legalize-outcome, outcome-good, outcome-bound}
use Rattle.legalize.specs.LegalizeRows.{LegalizeReady, Leaves}

module _ (k : Entry) {C : Counts} {q : List ℤ} {o h a row : List ℕ} {c : ℕ}
    (M : LegalizeReady C q o h a row c) (l : List ℕ) (E : EntriesIn C k l) where
  abbrev s : Legalizing
  s = record { links = links_of o h a; pending = l; flips = c; full = false }

  -- the flips that were made, and how it ended; `outcome-..` in `LegalizeLaws` say the rest
  pub legalized : Outcome (length row) k C (position_of q) s (legalize (length row) k C (position_of q) s)
  legalized = legalize-outcome (length row) k C (position_of q) s (legalize-start M.rows.good E)

  pub ready-again : {o' h' a' row' : List ℕ} {r : Legalized} → Leaves o' h' a' r (legalize (length row) k C (position_of q) s)
      → length o' ≡ length o → length h' ≡ length h → length a' ≡ length a → length row' ≡ length row
      → LegalizeReady C q o' h' a' row' r.flips
  ready-again {o'} {h'} {a'} {row'} {r} F x y z w = record {
    rows = good-again M.rows o' h' a' x y z F.links (outcome-good M.rows.good legalized);
    few = M.few;
    bound = subst⁻¹ (λ (L : Links). FlipsWithin C L (position_of q) r.flips) F.links
        (subst⁻¹ (FlipsWithin C (legalize (length row) k C (position_of q) s).links (position_of q)) F.flips (outcome-bound M.rows.good legalized M.bound));
    room = let m = M.room in omega arith;
  }
