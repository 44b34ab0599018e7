-- The pushes of a flip, one after the other, in the code's terms. Assumes nothing.
use mathlib.Core.Bool.{false≢true}
use mathlib.Core.List.{List, ◌∷◌}
use mathlib.Core.Path.{◌≡◌}
use Prim.Native.Nat.{ℕ, ◌+◌, ◌*◌, ◌/◌, ◌<◌, ◌^◌}
use native.Mathlib.Omega.{arith}
use Rattle.dcel.specs.declared.handles.HalfEdgeEntry.{HalfEdgeEntry}
use Rattle.dcel.specs.Rows.{halves_of, links_of, There, EntryOf}
use Rattle.pending.specs.declared.PendingList.{PendingList}
use Rattle.pending.specs.Pending.{push_if_not_contained, Holds}
use Rattle.pending.specs.Set.{SetOf, Becomes}
use Rattle.sums.specs.Half.{rev}
use Rattle.legalize.specs.declared.Entry.TheVariants.{HalfEdge, Edge}
use Rattle.legalize.specs.Legalize.{entry_edge, pushed}
use Rattle.legalize.specs.LegalizeRows.{plain, PushReady, Pushes}

-- no set is wanted where there is none
pub plain-set : {row : List ℕ} {n edges : ℕ} → SetOf row (plain n) edges
plain-set t = absurd (false≢true t)

pub half-edges-pushed : (h : List ℕ) (e t : ℕ) (w : HalfEdgeEntry) {row row₁ row₂ : List ℕ} {n n₁ n₂ : ℕ} → t ≡ rev e → EntryOf (halves_of h) t w
    → ((l : List ℕ) → Holds row n l → Holds row₁ n₁ (w.next ∷ l)) → ((l : List ℕ) → Holds row₁ n₁ l → Holds row₂ n₂ (w.prev ∷ l))
    → (edges : ℕ) → Pushes HalfEdge h e row (plain n) row₂ (plain n₂) edges
unfolding pushed links_of
half-edges-pushed h e t w q E a b edges = λ o f. record {
  list = λ l H. rw (← q, ← E.next, ← E.prev) (b (w.next ∷ l) (a l H));
  set = λ t. absurd (false≢true t);
}

pub edges-pushed : (h : List ℕ) (u : ℕ) (w v : HalfEdgeEntry) {row row₁ row₂ : List ℕ} {s s₁ s₂ : PendingList} {edges : ℕ}
    → EntryOf (halves_of h) (2 * u) w → EntryOf (halves_of h) (2 * u + 1) v
    → Becomes row s row₁ s₁ edges (λ l. push_if_not_contained (w.prev / 2) (push_if_not_contained (w.next / 2) l))
    → Becomes row₁ s₁ row₂ s₂ edges (λ l. push_if_not_contained (v.prev / 2) (push_if_not_contained (v.next / 2) l))
    → Pushes Edge h u row s row₂ s₂ edges
unfolding pushed links_of
edges-pushed h u w v E F a b = λ o f. record {
  list = λ l H. rw (← E.next, ← E.prev, ← F.next, ← F.prev) (b.list _ (a.list l H));
  set = b.set;
}

-- what both ask of the row of half-edges
module _ {h : List ℕ} {x : ℕ} where
  pub half-edges-ready : PushReady HalfEdge h x → There h (rev x)
  unfolding entry_edge rev
  half-edges-ready R = let t = R.there in omega arith

  pub edges-ready : PushReady Edge h x → (2 * x + 1 < 2 ^ 32) × There h (2 * x + 1)
  unfolding entry_edge
  edges-ready R = (R.small, R.there)
