-- `legalize_edge` and `legalize_edges_after_removal` of triangulation_ext.rs: the pending list, the pushing orders and
-- the flips. Definitions only.
-- 01: "Every flip count, in step, convexity or closing pass, is the number of flips in the sequence that these rules
-- and 002's pushing order define."
use Rattle.std.specs.Prelude.{Bool, true, false, ◌||◌, cond, List, [], ◌∷◌, ℕ, suc, ◌+◌, ◌*◌, ◌/◌, leb, nat_abs, length}
use Rattle.math.specs.declared.Point.{Point}
use Rattle.mesh.specs.declared.Counts.{Counts}
use Rattle.mesh.specs.Mesh.{Links}
use Rattle.mesh.specs.Operations.{flip_cw}
use Rattle.mesh.specs.Circle.{breaks_circle}
use Rattle.mesh.specs.Area.{height_sum}
use Rattle.pending.specs.Pending.{push_if_not_contained}
use Rattle.sums.specs.Half.{rev}
use Rattle.sums.specs.Until.{until}
use Rattle.legalize.specs.declared.Entry.{Entry}
use Rattle.legalize.specs.declared.Entry.TheVariants.{HalfEdge, Edge}

-- the links, the pending list with its last entry first, the flips so far, and whether a flip's pushes would have overfilled the list
pub record Legalizing : Type 0 where
  pub links : Links
  pub pending : List ℕ
  pub flips : ℕ
  pub full : Bool

-- the edge that an entry of the pending list has tested
-- `legalize_edge` has a half-edge, and asks whether its far vertex lies inside the circle of the triangle of its
-- reverse: the same determinant from the other side (`edge_test` in `HullCase`)
unfoldable pub entry_edge : Entry → ℕ → ℕ
entry_edge HalfEdge e = e / 2
entry_edge Edge u = u

-- what the flip of an entry's edge pushes, in 002's order. `legalize_edge` has fully_legalize false
-- 01: "`legalize_edges_after_removal` keeps its own pushing order from 002."
unfoldable pub pushed : Entry → Links → ℕ → List ℕ → List ℕ
pushed HalfEdge L e l = L.prev (rev e) ∷ L.next (rev e) ∷ l
pushed Edge L u l =
    push_if_not_contained (L.prev (2 * u + 1) / 2)
    (push_if_not_contained (L.next (2 * u + 1) / 2)
    (push_if_not_contained (L.prev (2 * u) / 2)
    (push_if_not_contained (L.next (2 * u) / 2) l)))

-- 01, refusal 9: "the pushes of a flip would overfill the pending list; that flip isn't made"; exactly `room` entries are allowed
unfoldable pub flipped : ℕ → Entry → Legalizing → ℕ → List ℕ → Legalizing
flipped room k s x l =
    cond (leb (length (pushed k s.links x l)) room)
    (record { links = flip_cw s.links (entry_edge k x); pending = pushed k s.links x l; flips = suc s.flips; full = false })
    (record { links = s.links; pending = l; flips = s.flips; full = true })

-- one entry is taken from the list and tested. An edge of the boundary breaks no circle and is not flipped
-- 01: "If it flips for any reason but the circle test, that flip is left out and recorded." There is no such flip
-- (`no-flip-left-out` in `HullCase`)
unfoldable pub popped : ℕ → Entry → (ℕ → Point) → Legalizing → List ℕ → Legalizing
popped room k p s [] = s
popped room k p s (x ∷ l) =
    cond (breaks_circle s.links p (entry_edge k x))
    (flipped room k s x l)
    (record { links = s.links; pending = l; flips = s.flips; full = false })

abbrev pub legalize_turn : ℕ → Entry → (ℕ → Point) → Legalizing → Legalizing
legalize_turn room k p s = popped room k p s s.pending

abbrev pub is_empty : List ℕ → Bool
is_empty [] = true
is_empty (x ∷ l) = false

-- `while let Some(..) = edges.pop()`
abbrev pub is_done : Legalizing → Bool
is_done s = s.full || is_empty s.pending

-- it falls with each entry that is taken: a flip lowers the height sum and pushes at most four entries
abbrev pub measure : Counts → (ℕ → Point) → Legalizing → ℕ
measure C p s = 4 * nat_abs (height_sum C s.links p) + length s.pending

-- from a pending list to the end, or to the flip that is refused
unfoldable pub legalize : ℕ → Entry → Counts → (ℕ → Point) → Legalizing → Legalizing
legalize room k C p s = until is_done (legalize_turn room k p) (measure C p s + 1) s

-- `legalize_edge` of the half-edge e, with `flips` made before
abbrev pub legalize_edge : ℕ → Counts → (ℕ → Point) → Links → ℕ → ℕ → Legalizing
legalize_edge room C p L flips e = legalize room HalfEdge C p (record { links = L; pending = e ∷ []; flips = flips; full = false })

-- `legalize_edges_after_removal` of two edges, pushed in this order
abbrev pub legalize_edges_after_removal : ℕ → Counts → (ℕ → Point) → Links → ℕ → ℕ → ℕ → Legalizing
legalize_edges_after_removal room C p L flips first second =
    legalize room Edge C p (record { links = L; pending = second ∷ first ∷ []; flips = flips; full = false })
