-- What an added point does to the mesh (bulk_load.rs, `single_bulk_insertion_step` from its first change on): the new
-- vertex and its first face, `legalize_edge`, and the two loops, each of which tests at every turn the mesh as it then
-- stands. Definitions only, and each computes; `Walks` and `ApplyLaws` have the laws.
-- Throughout, p gives each vertex its position, the new one's too, and α its angle; v is the new vertex's position and q its angle.
use Rattle.std.specs.Prelude.{Bool, not, cond, ◌||◌, ℕ, zero, suc, ◌+◌, ◌*◌, ◌/◌}
use Rattle.corner.specs.Corner.{Extended, close_corner}
use Rattle.legalize.specs.Legalize.{legalize_edge}
use Rattle.math.specs.declared.Point.{Point}
use Rattle.mesh.specs.declared.Counts.{Counts}
use Rattle.mesh.specs.Mesh.{Links}
use Rattle.mesh.specs.Operations.{create_new_face_adjacent_to_edge, with_vertex}
use Rattle.ring.specs.Chain.{beside, covers}
use Rattle.sums.specs.Until.{until}
use Rattle.ring.specs.declared.Side.{Side}
use Rattle.ring.specs.declared.Side.TheVariants.{Left, Right}

-- `create_new_face_adjacent_to_edge` of the outer half-edge e, then `legalize_edge(edge, false)`
unfoldable pub first_face : ℕ → (ℕ → Point) → Counts → Links → ℕ → Extended
first_face room p C L e =
    let g = legalize_edge room (with_vertex C) p (create_new_face_adjacent_to_edge L C e) 0 e in
    record { counts = with_vertex C; links = g.links; faces = 1; flips = g.flips; full = g.full }

-- ---- the two loops: the first goes against next, to the left, the second along next, to the right
-- a loop under way: the mesh, and `current_edge`
pub record Walking : Type 0 where
  pub mesh : Extended
  pub current : ℕ

-- the earlier along next of the two edges that the new face is made between: `prev` and the current edge, the current edge and `next`
unfoldable pub face_edge : Side → ℕ → ℕ → ℕ
face_edge Left current d = d
face_edge Right current d = current

-- the loop ends at an edge that is not to be covered, and where a flip was refused
unfoldable pub walk_ends_of : Side → (ℕ → Point) → (ℕ → ℕ) → Point → ℕ → Walking → Bool
walk_ends_of side p α v q s = s.mesh.full || not (covers side s.mesh.links p α v q (beside side s.mesh.links s.current))

-- a turn: the new face; then `handle`, the current edge, and the edge beside it are pushed in this order and legalized;
-- the new edge is the current one
unfoldable pub walk_turn_of : Side → ℕ → (ℕ → Point) → Walking → Walking
walk_turn_of side room p s =
    let d = beside side s.mesh.links s.current in
    record {
      mesh = close_corner room p s.mesh (face_edge side s.current d) (s.current / 2) (d / 2);
      current = 2 * s.mesh.counts.edges + 1;
    }

-- each turn makes the boundary shorter by one (`walk-fuel`)
unfoldable pub walk : Side → ℕ → (ℕ → Point) → (ℕ → ℕ) → Point → ℕ → Walking → Walking
walk side room p α v q s = until (walk_ends_of side p α v q) (walk_turn_of side room p) (2 * s.mesh.counts.edges + 1) s

-- ---- all of it, from the located edge e
pub record Applied : Type 0 where
  pub mesh : Extended
  -- the boundary edges to the new vertex and from it
  pub left_edge : ℕ
  pub right_edge : ℕ

-- `ccw_walk_start` is the new edge to the new vertex, `cw_walk_start` the one from it
unfoldable pub add_vertex : ℕ → (ℕ → Point) → (ℕ → ℕ) → Counts → Links → Point → ℕ → ℕ → Applied
add_vertex room p α C L v q e =
    let a = walk Left room p α v q (record { mesh = first_face room p C L e; current = 2 * C.edges + 2 + 1 }) in
    let b = walk Right room p α v q (record { mesh = a.mesh; current = 2 * C.edges + 1 }) in
    record { mesh = b.mesh; left_edge = a.current; right_edge = b.current }

-- ---- as many turns as were decided, unless a flip is refused: what the code does. From the first face on, as many as
-- the chain has edges on that side are the loop (`walk-turns` in `Turns`)
unfoldable pub walk_turns : Side → ℕ → (ℕ → Point) → ℕ → Walking → Walking
walk_turns side room p zero s = s
walk_turns side room p (suc n) s = cond s.mesh.full s (walk_turns side room p n (walk_turn_of side room p s))

-- the whole in turns: so many to the left, and so many to the right
unfoldable pub add_turns : ℕ → (ℕ → Point) → Counts → Links → ℕ → ℕ → ℕ → Applied
add_turns room p C L e left right =
    let a = walk_turns Left room p left (record { mesh = first_face room p C L e; current = 2 * C.edges + 2 + 1 }) in
    let b = walk_turns Right room p right (record { mesh = a.mesh; current = 2 * C.edges + 1 }) in
    record { mesh = b.mesh; left_edge = a.current; right_edge = b.current }
