-- One turn of legalizing: its three ways as equations, and what its pushes do to the pending list. Assumes nothing.
use Rattle.std.specs.Prelude.{Bool, ◌||◌, List, [], ◌∷◌, ◌≡◌, ℕ, suc, ◌+◌, ◌*◌, ◌/◌, ◌≤◌, ◌<◌, leb, length}
use Rattle.std.proofs.Math.Bool.{true, false}
use Rattle.std.proofs.lemmas.Bool.{false≢true}
use Rattle.std.proofs.Math.Path.{refl}
use Rattle.std.proofs.Common.{sym}
use native.Mathlib.Omega.{arith}
use borrow.Author.Tests.{le-leb, lt-leb, leb-true, leb-false}
use Rattle.math.specs.declared.Point.{Point}
use Rattle.mesh.specs.declared.Counts.{Counts}
use Rattle.mesh.specs.Mesh.{Links, In}
use Rattle.mesh.specs.Wf.{Wf}
use Rattle.mesh.specs.Operations.{flip_cw}
use Rattle.mesh.specs.Circle.{breaks_circle}
use Rattle.pending.specs.Pending.{contains, push_if_not_contained}
use Rattle.pending.proofs.PendingLaws.{push-length, push-contained, push-missing}
use Rattle.sums.proofs.Cases.{All}
use Rattle.sums.specs.Half.{rev}
use Rattle.sums.proofs.HalfLaws.{rev-below}
use Rattle.legalize.specs.declared.Entry.{Entry}
use Rattle.legalize.specs.declared.Entry.TheVariants.{HalfEdge, Edge}
use Rattle.legalize.specs.Legalize.{Legalizing, entry_edge, pushed, flipped, popped, legalize_turn, is_done, is_empty}

-- ---- the three ways of a turn
module _ (room : ℕ) (k : Entry) (p : ℕ → Point) (s : Legalizing) {x : ℕ} {l : List ℕ} (e : s.pending ≡ x ∷ l) where
  -- the edge keeps the rule: the entry goes
  pub turn-kept : breaks_circle s.links p (entry_edge k x) ≡ false
      → legalize_turn room k p s ≡ record { links = s.links; pending = l; flips = s.flips; full = false }
  unfolding popped
  turn-kept b = rw (e, b) refl

  -- it breaks the rule, and the list has room for the pushes
  pub turn-flipped : breaks_circle s.links p (entry_edge k x) ≡ true → length (pushed k s.links x l) ≤ room
      → legalize_turn room k p s
      ≡ record { links = flip_cw s.links (entry_edge k x); pending = pushed k s.links x l; flips = suc s.flips; full = false }
  unfolding popped flipped
  turn-flipped b m = rw (e, b, le-leb (length (pushed k s.links x l)) room m) refl

  -- it has not: the flip is not made
  pub turn-refused : breaks_circle s.links p (entry_edge k x) ≡ true → room < length (pushed k s.links x l)
      → legalize_turn room k p s ≡ record { links = s.links; pending = l; flips = s.flips; full = true }
  unfolding popped flipped
  turn-refused b m = rw (e, b, lt-leb (length (pushed k s.links x l)) room m) refl

  -- so what holds of the three holds after a turn
  pub turn-cases : (P : Legalizing → Type 0)
      → (breaks_circle s.links p (entry_edge k x) ≡ false → P (record { links = s.links; pending = l; flips = s.flips; full = false }))
      → (breaks_circle s.links p (entry_edge k x) ≡ true → P
      (record { links = flip_cw s.links (entry_edge k x); pending = pushed k s.links x l; flips = suc s.flips; full = false }))
      → (breaks_circle s.links p (entry_edge k x) ≡ true → room < length (pushed k s.links x l) → P
      (record { links = s.links; pending = l; flips = s.flips; full = true }))
      → P (legalize_turn room k p s)
  turn-cases P f g h = go (breaks_circle s.links p (entry_edge k x)) (leb (length (pushed k s.links x l)) room) refl refl
    where
      go : (b m : Bool) → breaks_circle s.links p (entry_edge k x) ≡ b
          → leb (length (pushed k s.links x l)) room ≡ m → P (legalize_turn room k p s)
      go false m b q = rw (turn-kept b) (f b)
      go true true b q = rw (turn-flipped b (leb-true _ _ q)) (g b)
      go true false b q = rw (turn-refused b (leb-false _ _ q)) (h b (leb-false _ _ q))

-- ---- where the loop goes on there is an entry, and where it has ended there is none or a refusal
pub going_on : (s : Legalizing) → is_done s ≡ false → {X : Type 0} → ((x : ℕ) (l : List ℕ) → s.pending ≡ x ∷ l → s.full ≡ false → X) → X
going_on s e {X} f = go s.full s.pending e f
  where
    go : (t : Bool) (m : List ℕ) → (t || is_empty m) ≡ false → ((x : ℕ) (l : List ℕ) → m ≡ x ∷ l → t ≡ false → X) → X
    go true m e f = absurd (false≢true (sym e))
    go false [] e f = absurd (false≢true (sym e))
    go false (x ∷ l) e f = f x l refl refl

pub ended : (s : Legalizing) → is_done s ≡ true → s.full ≡ false → s.pending ≡ []
ended s e q = go s.full s.pending e q
  where
    go : (t : Bool) (m : List ℕ) → (t || is_empty m) ≡ true → t ≡ false → m ≡ []
    go t [] e q = refl
    go true (x ∷ l) e q = absurd (false≢true (sym q))
    go false (x ∷ l) e q = absurd (false≢true e)

-- ---- what is pushed
-- every entry's edge is in use
abbrev pub EntriesIn : Counts → Entry → List ℕ → Type 0
EntriesIn C k l = All (λ x. entry_edge k x < C.edges) l

-- where a call begins
pub half-edge-in : (C : Counts) (e : ℕ) → In C e → EntriesIn C HalfEdge (e ∷ [])
unfolding entry_edge
half-edge-in C e l = (omega arith, tt)

pub edges-in : (C : Counts) (u v : ℕ) → u < C.edges → v < C.edges → EntriesIn C Edge (v ∷ u ∷ [])
unfolding entry_edge
edges-in C u v h k = (k, (h, tt))

module _ {C : Counts} {L : Links} (W : Wf C L) where
  half-below : {d : ℕ} → In C d → d / 2 < C.edges
  half-below l = omega arith

  push-in : (u : ℕ) (l : List ℕ) → u < C.edges → EntriesIn C Edge l → EntriesIn C Edge (push_if_not_contained u l)
  unfolding entry_edge
  push-in u l h a = go (contains u l) refl
    where
      go : (t : Bool) → contains u l ≡ t → EntriesIn C Edge (push_if_not_contained u l)
      go true e = rw (push-contained u l e) a
      go false e = rw (push-missing u l e) (h, a)

  pub pushed-in : (k : Entry) (x : ℕ) (l : List ℕ) → entry_edge k x < C.edges → EntriesIn C k l → EntriesIn C k (pushed k L x l)
  unfolding entry_edge pushed
  pushed-in HalfEdge x l h a =
      let i : In C (rev x) = rev-below C.edges (omega arith) in
      (half-below (W.ranges.prev< i), (half-below (W.ranges.next< i), a))
  pushed-in Edge x l h a =
      let i : In C (2 * x) = omega arith in let j : In C (2 * x + 1) = omega arith in
      push-in _ _ (half-below (W.ranges.prev< j)) (push-in _ _ (half-below (W.ranges.next< j))
      (push-in _ _ (half-below (W.ranges.prev< i)) (push-in _ _ (half-below (W.ranges.next< i)) a)))

-- at most four entries
pub pushed-few : (k : Entry) (L : Links) (x : ℕ) (l : List ℕ) → length (pushed k L x l) ≤ length l + 4
unfolding pushed
pushed-few HalfEdge L x l = omega arith
pushed-few Edge L u l =
    let a = push_if_not_contained (L.next (2 * u) / 2) l in
    let b = push_if_not_contained (L.prev (2 * u) / 2) a in
    let c = push_if_not_contained (L.next (2 * u + 1) / 2) b in
    let q = push-length (L.next (2 * u) / 2) l in let r = push-length (L.prev (2 * u) / 2) a in
    let s = push-length (L.next (2 * u + 1) / 2) b in let t = push-length (L.prev (2 * u + 1) / 2) c in omega arith
