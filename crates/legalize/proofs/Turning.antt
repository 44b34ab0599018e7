-- One turn in the code's terms: what it needs, and its three ways. Over plain rows, so that the needs of the code are single applications. Assumes nothing.
use mathlib.Core.Bool.{Bool, true, false, false≢true, cond}
use mathlib.Core.List.{List, ◌∷◌}
use mathlib.Core.Path.{◌≡◌, refl, sym, ◌∙◌, ap, subst}
use Prim.Native.Nat.{ℕ, ◌+◌, ◌-◌, ◌<◌, ◌≤◌, ◌^◌}
use native.Mathlib.Numerals.{add-one}
use native.Mathlib.Omega.{arith}
use lib.IntN.{ℤ}
use lib.ListN.{length, get_or}
use Rattle.conflicts.proofs.FlipsWithinLaws.{within-room}
use Rattle.mesh.specs.declared.Counts.{Counts}
use Rattle.mesh.specs.Circle.{breaks_circle}
use Rattle.mesh.specs.Operations.{flip_cw}
use Rattle.dcel.specs.Rows.{links_of, position_of}
use Rattle.dcel_operations.specs.Flip.{FlipReady}
use Rattle.dcel_operations.specs.Ready.{flip-ready}
use Rattle.circle_test.specs.GoodRows.{held, circle-ready}
use Rattle.pending.specs.declared.PendingList.{PendingList}
use Rattle.pending.specs.Pending.{pending_of, Holds}
use Rattle.pending.proofs.PendingLaws.{pending-length, pending-last, holds-length, holds_fits}
use Rattle.legalize.specs.declared.Entry.{Entry}
use Rattle.legalize.specs.Legalize.{Legalizing, entry_edge, pushed, legalize_turn}
use Rattle.legalize.specs.Turns.{EntriesIn, turn-kept, turn-flipped, turn-refused}
use Rattle.legalize.specs.LegalizeRows.{PopReady, Popped, Pops, TurnReady, state_of, TurnLeaves}

module _ {k : Entry} {C : Counts} {q : List ℤ} {o h a row : List ℕ} {w : PendingList} {flips : ℕ}
    (R : TurnReady k C q o h a row w flips) (z : 0 < w.length) where
  -- the last entry, and the rest
  abbrev x : ℕ
  x = get_or row (w.length - 1) 0

  abbrev l : List ℕ
  l = pending_of row (w.length - 1)

  abbrev s : Legalizing
  s = state_of o h a row w.length flips

  last : s.pending ≡ x ∷ l
  last = pending-last row w.length z

  in_use : entry_edge k x < C.edges
  in_use = (subst (EntriesIn C k) last R.entries).0

  pub pop-ready : PopReady k q h row w C.edges
  pop-ready = record {
    pending = record { some = z; fits = R.fits; set = R.set };
    circle = circle-ready R.mesh.rows in_use;
  }

  pub count_fits : flips + 1 < 2 ^ 64
  count_fits = within-room R.mesh.bound R.mesh.rows.good.wf R.mesh.few

  module _ {row' : List ℕ} {r : Popped} (P : Pops k q h row w row' r C.edges) (same : length row' ≡ length row) where
    tested : {b : Bool} → r.flip ≡ b → breaks_circle s.links (position_of q) (entry_edge k x) ≡ b
    tested e = sym (P.flip o a) ∙ e

    not-pushed : r.flip ≡ false → Holds row' r.list.length l
    not-pushed e = subst (λ (b : Bool). Holds row' r.list.length (cond b (pushed k s.links x l) l)) e (P.pending o a)

    pushes : r.flip ≡ true → Holds row' r.list.length (pushed k s.links x l)
    pushes e = subst (λ (b : Bool). Holds row' r.list.length (cond b (pushed k s.links x l) l)) e (P.pending o a)

    pub turn-keeps : r.flip ≡ false → TurnLeaves C.edges o h a row' r.list flips false (legalize_turn (length row) k (position_of q) s)
    turn-keeps e =
        let H = not-pushed e in
        let m = pending-length row (w.length - 1) in
        let f = R.fits in
        rw (turn-kept (length row) k (position_of q) s last (tested e))
        (record { links = refl; flips = refl; full = refl; fits = λ _. holds_fits H (omega arith); set = λ _. P.set; pending = λ _. H.fits (holds_fits H (omega arith)) })

    pub turn-refuses : {w' : PendingList} → r.flip ≡ true → length row' < r.list.length → TurnLeaves C.edges o h a row' w' flips true (legalize_turn (length row) k (position_of q) s)
    turn-refuses e f =
        let m = (pushes e).over f in
        rw (turn-refused (length row) k (position_of q) s last (tested e) (rw same at m))
        (record { links = refl; flips = refl; full = refl; fits = λ t. absurd (false≢true (sym t)); set = λ t. absurd (false≢true (sym t)); pending = λ t. absurd (false≢true (sym t)) })

    pub turn-flip-ready : r.flip ≡ true → FlipReady o h a r.edge
    turn-flip-ready e = rw P.edge (flip-ready (held R.mesh.rows) in_use)

    pub turn-flips : r.flip ≡ true → r.list.length ≤ length row' → {o' h' a' : List ℕ} → links_of o' h' a' ≡ flip_cw (links_of o h a) r.edge
        → TurnLeaves C.edges o' h' a' row' r.list (flips + 1) false (legalize_turn (length row) k (position_of q) s)
    turn-flips e f links =
        let H = pushes e in
        let m = holds-length H f in
        rw (turn-flipped (length row) k (position_of q) s last (tested e) (omega arith))
        (record {
          links = links ∙ ap (flip_cw (links_of o h a)) P.edge;
          flips = add-one flips;
          full = refl;
          fits = λ _. f;
          set = λ _. P.set;
          pending = λ _. H.fits f;
        })
