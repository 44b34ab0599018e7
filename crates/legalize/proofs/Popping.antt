-- One entry taken from the pending list, in the code's terms. Assumes nothing.
use mathlib.Core.Bool.{Bool, true, false}
use mathlib.Core.List.{List, []}
use mathlib.Core.Path.{◌≡◌, refl, sym, ◌∙◌, ap}
use Prim.Native.Nat.{ℕ, ◌-◌, ◌/◌}
use lib.IntN.{ℤ}
use lib.ListN.{get_or}
use Rattle.mesh.specs.Circle.{breaks_circle}
use Rattle.dcel.specs.Rows.{links_of, position_of}
use Rattle.circle_test.specs.GoodRows.{CircleReady}
use Rattle.pending.specs.declared.PendingList.{PendingList}
use Rattle.pending.specs.Pending.{pending_of}
use Rattle.pending.proofs.PendingLaws.{pending-last}
use Rattle.pending.specs.Set.{SetOf, LastTaken}
use Rattle.legalize.specs.declared.Entry.{Entry}
use Rattle.legalize.specs.declared.Entry.TheVariants.{HalfEdge, Edge}
use Rattle.legalize.specs.Legalize.{entry_edge}
use Rattle.legalize.specs.LegalizeRows.{PushReady, Pushes, PopReady, Pops}

-- an entry's edge, as the code has it
pub half-edge-is : (e : ℕ) → e / 2 ≡ entry_edge HalfEdge e
unfolding entry_edge
half-edge-is e = refl

pub edge-is : (u : ℕ) → u ≡ entry_edge Edge u
unfolding entry_edge
edge-is u = refl

module _ {k : Entry} {q : List ℤ} {h row row₁ : List ℕ} {s : PendingList} {x : ℕ} {s₁ : PendingList} {u edges : ℕ}
    (R : PopReady k q h row s edges) (P : LastTaken row s row₁ x s₁ edges) (v : u ≡ entry_edge k x) where
  is_last : x ≡ get_or row (s.length - 1) 0
  is_last = let l = pending-last row s.length R.pending.some in let e = P.entry in cc

  pub pop-circle : CircleReady q h u
  pop-circle = rw (v, is_last) R.circle

  pub pop-pushes : PushReady k h x × SetOf row₁ s₁ edges
  pop-pushes = let c = R.circle in (rw is_last (record { small = c.small; there = c.t.here }), P.set)

  module _ {b : Bool} (t : (o a : List ℕ) → b ≡ breaks_circle (links_of o h a) (position_of q) u) where
    abbrev tested : (o a : List ℕ) {c : Bool} → b ≡ c → c ≡ breaks_circle (links_of o h a) (position_of q) (entry_edge k (get_or row (s.length - 1) 0))
    tested o a y = sym y ∙ t o a ∙ ap (breaks_circle (links_of o h a) (position_of q)) (v ∙ ap (entry_edge k) is_last)

    pub pop-flipped : b ≡ true → {row' : List ℕ} {s' : PendingList} → Pushes k h x row₁ s₁ row' s' edges
        → Pops k q h row s row' (record { edge = u; flip = true; list = s' }) edges
    pop-flipped y B = record {
      edge = v ∙ ap (entry_edge k) is_last;
      flip = λ o a. tested o a y;
      pending = λ o a. rw (← is_last) ((B o a).list (pending_of row (s.length - 1)) P.rest);
      set = (B [] []).set;
    }

    pub pop_kept : b ≡ false → Pops k q h row s row₁ (record { edge = u; flip = false; list = s₁ }) edges
    pop_kept y = record {
      edge = v ∙ ap (entry_edge k) is_last;
      flip = λ o a. tested o a y;
      pending = λ o a. P.rest;
      set = P.set;
    }
