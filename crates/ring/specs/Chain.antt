-- Which boundary edges a step covers (the chain), and whether the boundary that it would leave has a sound ring, from
-- the boundary as it stands.
-- 01: "The two walks look at boundary edges only, and flips never move those, so 4 can be decided beforehand."
-- Throughout, p gives each vertex its position and α its angle, v is the point to be added and q its angle. Definitions
-- only, and each computes; `ChainLaws` has their laws.
use Rattle.std.specs.Prelude.{ℕ, suc, ◌+◌, ◌-◌, Bool, not, ◌&&◌, ◌||◌, List, ◌∷◌, map, leb, eqb, pos}
use Rattle.std.specs.Int.Signed.{lt_z}
use Rattle.math.specs.declared.Point.{Point}
use Rattle.math.specs.Determinant.{orient2d, is_behind_edge}
use Rattle.mesh.specs.declared.Counts.{Counts}
use Rattle.mesh.specs.Mesh.{Links, to}
use Rattle.mesh.specs.Area.{boundary_length}
use Rattle.segment.specs.Arc.{wide}
use Rattle.sums.specs.Bit.{bit}
use Rattle.sums.specs.Bounded.{first_below}
use Rattle.sums.specs.Iterate.{iter}
use Rattle.sums.specs.Tally.{walk}
use Rattle.ring.specs.declared.Side.{Side}
use Rattle.ring.specs.declared.Side.TheVariants.{Left, Right}
use Rattle.ring.specs.Ring.{full_turn, proper, edge_angle, is_sound}

-- v is strictly left of the edge d
abbrev pub sees_edge : Links → (ℕ → Point) → Point → ℕ → Bool
sees_edge L p v d = lt_z (pos 0) (orient2d (p (L.origin d)) (p (to L d)) v)

-- ---- `single_bulk_insertion_step`, the two loops: the first goes against next, the second along next
abbrev pub beside : Side → Links → ℕ → ℕ
beside Left L e = L.prev e
beside Right L e = L.next e

-- the first covers `prev` if
-- (!is_behind_edge(next_position, prev_to, prev_from) || current_angle == pseudo_angle(prev_to)) &&
-- prev.side_query(next_position).is_on_left_side(); the second covers `next` if
-- (!is_behind_edge(middle_position, next_position, next_to) || current_angle == pseudo_angle(middle_position)) &&
-- next.side_query(next_position).is_on_left_side(), where the middle is next's origin
abbrev pub covered_if : Bool → ℕ → ℕ → Bool → Bool
covered_if behind q near sees = (not behind || eqb q near) && sees

-- is v behind the edge from a to b?
abbrev pub behind : Side → Point → Point → Point → Bool
behind Left a b v = is_behind_edge v b a
behind Right a b v = is_behind_edge a v b

-- the end on the side of the located edge
abbrev pub near_end : Side → Links → ℕ → ℕ
near_end Left L d = to L d
near_end Right L d = L.origin d

abbrev pub covers : Side → Links → (ℕ → Point) → (ℕ → ℕ) → Point → ℕ → ℕ → Bool
covers side L p α v q d =
    covered_if (behind side (p (L.origin d)) (p (to L d)) v) q (α (near_end side L d)) (sees_edge L p v d)

unfoldable pub covers_left : Links → (ℕ → Point) → (ℕ → ℕ) → Point → ℕ → ℕ → Bool
covers_left = covers Left

unfoldable pub covers_right : Links → (ℕ → Point) → (ℕ → ℕ) → Point → ℕ → ℕ → Bool
covers_right = covers Right

-- how many edges a loop covers beside the located edge e: up to the first that is not covered
abbrev pub chain_on : Side → Counts → Links → (ℕ → Point) → (ℕ → ℕ) → Point → ℕ → ℕ → ℕ
chain_on side C L p α v q e = first_below (boundary_length C L) (λ k. not (covers side L p α v q (iter (suc k) (beside side L) e)))

unfoldable pub left_chain : Counts → Links → (ℕ → Point) → (ℕ → ℕ) → Point → ℕ → ℕ → ℕ
left_chain = chain_on Left

unfoldable pub right_chain : Counts → Links → (ℕ → Point) → (ℕ → ℕ) → Point → ℕ → ℕ → ℕ
right_chain = chain_on Right

-- the chain: its first edge, and how many it has, e among them
abbrev pub chain_start : Counts → Links → (ℕ → Point) → (ℕ → ℕ) → Point → ℕ → ℕ → ℕ
chain_start C L p α v q e = iter (left_chain C L p α v q e) L.prev e

abbrev pub chain_length : Counts → Links → (ℕ → Point) → (ℕ → ℕ) → Point → ℕ → ℕ → ℕ
chain_length C L p α v q e = left_chain C L p α v q e + 1 + right_chain C L p α v q e

-- the boundary's angles where the m edges from s on have given way to an edge to the new vertex and one from it
unfoldable pub angles_after : Counts → Links → (ℕ → ℕ) → ℕ → ℕ → ℕ → List ℕ
angles_after C L α q s m = edge_angle L α s ∷ q ∷ map (edge_angle L α) (walk (boundary_length C L - m) L.next (iter m L.next s))

-- 01, fate 4: "the boundary that the step would leave has no sound ring": it has one
unfoldable pub sound_after : Counts → Links → (ℕ → Point) → (ℕ → ℕ) → Point → ℕ → ℕ → Bool
sound_after C L p α v q e = is_sound full_turn (angles_after C L α q (chain_start C L p α v q e) (chain_length C L p α v q e))

-- The same decided from the chain alone (`sound-after`): from the angles at its two ends, the nodes among its edges and
-- those of the whole ring
unfoldable pub is_fit : ℕ → ℕ → ℕ → ℕ → ℕ → ℕ → Bool
is_fit N left q right chain size =
    proper q right && not (wide N left q) && not (wide N q right) && leb (3 + chain) (size + bit (proper left q) + 1)
