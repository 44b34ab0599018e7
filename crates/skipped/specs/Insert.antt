-- One skipped point goes into the mesh, as `insert_with_hint_option_impl` of triangulation_ext.rs has it: into a
-- triangle, on an edge, outside of the boundary, or on a vertex that is there. Definitions only, and each computes;
-- `LegalizeVertex`, `Outside` and `InsertLaws` have the laws.
-- 02, Change 2: "points of fates 3, 4 and 5 are inserted .. into a triangle (fate 6), on an edge (7), outside (8), or on
-- an existing vertex (9 ..)."
-- Throughout, `room` is the number of pending entries, p gives each vertex its position, and v is the point.
use Rattle.std.specs.Prelude.{Bool, true, false, not, cond, ◌||◌, List, [], ◌∷◌, ℕ, suc, ◌+◌, ◌-◌, ◌*◌}
use Rattle.ring.specs.declared.Side.{Side}
use Rattle.ring.specs.declared.Side.TheVariants.{Left, Right}
use Rattle.apply.specs.Apply.{Walking, first_face, face_edge}
use Rattle.ring.specs.Chain.{beside, sees_edge}
use Rattle.corner.specs.Corner.{Extended}
use Rattle.insertion.specs.Operations.{insert_into_triangle, insert_on_edge, with_inner_vertex, with_edge_vertex}
use Rattle.legalize.specs.Legalize.{legalize_edge}
use Rattle.location.specs.declared.PositionInTriangulation.{PositionInTriangulation}
use Rattle.location.specs.declared.PositionInTriangulation.TheVariants.{OnVertex, OnFace, OnEdge, OutsideOfConvexHull}
use Rattle.location.specs.Search.{is_outer, spokes}
use Rattle.location.specs.Scan.{locate_point}
use Rattle.math.specs.declared.Point.{Point}
use Rattle.mesh.specs.declared.Counts.{Counts}
use Rattle.mesh.specs.Mesh.{Links, turn}
use Rattle.mesh.specs.Operations.{create_single_face_between_edge_and_next, with_face}
use Rattle.sums.specs.Put.{put}
use Rattle.sums.specs.Tally.{walk}
use Rattle.sums.specs.Until.{until}

-- ---- `legalize_edge` of a half-edge, on a mesh to which faces have been added
unfoldable pub legalize_one : ℕ → (ℕ → Point) → Extended → ℕ → Extended
legalize_one room p m e =
    let g = legalize_edge room m.counts p m.links m.flips e in
    record { counts = m.counts; links = g.links; faces = m.faces; flips = g.flips; full = g.full }

-- of each, in order; after a refused flip there is none
unfoldable pub legalize_each : ℕ → (ℕ → Point) → Extended → List ℕ → Extended
legalize_each room p m [] = m
legalize_each room p m (e ∷ l) = let r = legalize_each room p (legalize_one room p m e) l in cond m.full m r

-- ---- `legalize_vertex`
-- `.filter(|e| !e.is_outer_edge()).map(|edge| edge.next().fix())`
unfoldable pub inner_nexts : Links → List ℕ → List ℕ
inner_nexts L [] = []
inner_nexts L (e ∷ l) = cond (is_outer L e) (inner_nexts L l) (L.next e ∷ inner_nexts L l)

-- `out_edges` of the vertex w, in turning order from the stored one; they are collected before the first flip
unfoldable pub star_edges : Counts → Links → ℕ → List ℕ
star_edges C L w = inner_nexts L (walk (spokes C L w) (turn L) (L.out w))

unfoldable pub legalize_vertex : ℕ → (ℕ → Point) → Extended → ℕ → Extended
legalize_vertex room p m w = legalize_each room p m (star_edges m.counts m.links w)

-- a mesh with so many new faces, before its flips
abbrev pub unflipped : Counts → Links → ℕ → Extended
unflipped C L n = record { counts = C; links = L; faces = n; flips = 0; full = false }

-- ---- `insert_into_face`, and `insert_on_edge` with the `legalize_vertex` that follows it
unfoldable pub insert_into_face : ℕ → (ℕ → Point) → Counts → Links → ℕ → Extended
insert_into_face room p C L f =
    legalize_vertex room p (unflipped (with_inner_vertex C) (insert_into_triangle L C f) 2) C.vertices

unfoldable pub insert_in_edge : ℕ → (ℕ → Point) → Counts → Links → ℕ → Extended
insert_in_edge room p C L e =
    let K = with_edge_vertex L C e in
    legalize_vertex room p (unflipped K (insert_on_edge L C e) (K.faces - C.faces)) C.vertices

-- ---- `insert_outside_of_convex_hull`
-- the face between e and the next; then `legalize_edge` of the half-edge d of the two that was not at the new vertex
unfoldable pub cover_edge : ℕ → (ℕ → Point) → Extended → ℕ → ℕ → Extended
cover_edge room p m e d =
    legalize_one room p
    (record {
      counts = with_face m.counts;
      links = create_single_face_between_edge_and_next m.links m.counts e;
      faces = suc m.faces;
      flips = m.flips;
      full = false;
    }) d

-- a loop ends where `side_query(position).is_on_left_side()` fails of the edge beside the current one, and where a flip was refused
unfoldable pub outside_ends : Side → (ℕ → Point) → Point → Walking → Bool
outside_ends side p v s = s.mesh.full || not (sees_edge s.mesh.links p v (beside side s.mesh.links s.current))

-- a turn; the new edge is the current one
unfoldable pub outside_turn : Side → ℕ → (ℕ → Point) → Walking → Walking
outside_turn side room p s =
    let d = beside side s.mesh.links s.current in
    record { mesh = cover_edge room p s.mesh (face_edge side s.current d) d; current = 2 * s.mesh.counts.edges + 1 }

-- each turn makes the boundary shorter by one (`outside-falls` in `Outside`)
unfoldable pub outside_walk : Side → ℕ → (ℕ → Point) → Point → Walking → Walking
outside_walk side room p v s = until (outside_ends side p v) (outside_turn side room p) (2 * s.mesh.counts.edges + 1) s

-- the new vertex with its first face, `legalize_edge`, the loop to the left and the loop to the right.
-- `ccw_walk_start` is the new edge to the new vertex, `cw_walk_start` the one from it
unfoldable pub insert_outside : ℕ → (ℕ → Point) → Counts → Links → Point → ℕ → Extended
insert_outside room p C L v e =
    let a = outside_walk Left room p v (record { mesh = first_face room p C L e; current = 2 * C.edges + 2 + 1 }) in
    (outside_walk Right room p v (record { mesh = a.mesh; current = 2 * C.edges + 1 })).mesh

-- ---- the point, by its place
-- 02: "Fates 6 to 9 give their vertex": the next number, or the vertex that is there
unfoldable pub position_fate : PositionInTriangulation → ℕ
position_fate (OnFace f) = 6
position_fate (OnEdge e) = 7
position_fate (OutsideOfConvexHull e) = 8
position_fate (OnVertex w) = 9

unfoldable pub position_vertex : Counts → PositionInTriangulation → ℕ
position_vertex C (OnFace f) = C.vertices
position_vertex C (OnEdge e) = C.vertices
position_vertex C (OutsideOfConvexHull e) = C.vertices
position_vertex C (OnVertex w) = w

-- whether the point is a new vertex
unfoldable pub is_new : PositionInTriangulation → Bool
is_new (OnFace f) = true
is_new (OnEdge e) = true
is_new (OutsideOfConvexHull e) = true
is_new (OnVertex w) = false

-- the positions with the new vertex's
unfoldable pub places_at : Counts → (ℕ → Point) → Point → PositionInTriangulation → ℕ → Point
places_at C p v x = cond (is_new x) (put p C.vertices v) p

-- 02, of fate 9: "that vertex takes the new height"; links, counts and positions stay, "for fate 9 both are 0"
unfoldable pub mesh_at : ℕ → Counts → Links → (ℕ → Point) → Point → PositionInTriangulation → Extended
mesh_at room C L p v (OnFace f) = insert_into_face room (put p C.vertices v) C L f
mesh_at room C L p v (OnEdge e) = insert_in_edge room (put p C.vertices v) C L e
mesh_at room C L p v (OutsideOfConvexHull e) = insert_outside room (put p C.vertices v) C L v e
mesh_at room C L p v (OnVertex w) = unflipped C L 0

-- what has become of a point and of the mesh: its place, and the mesh with the faces and flips of this insertion
pub record Inserting : Type 0 where
  pub place : PositionInTriangulation
  pub positions : ℕ → Point
  pub mesh : Extended

abbrev pub insert_at : ℕ → Counts → Links → (ℕ → Point) → Point → PositionInTriangulation → Inserting
insert_at room C L p v x = record { place = x; positions = places_at C p v x; mesh = mesh_at room C L p v x }

-- THE INSERTION OF ONE POINT 02: "The search starts at vertex 0 ..; where a loop of it would take more turns than the
-- mesh has half-edges, a scan .. decides by its first hit"
unfoldable pub insert_point : ℕ → Counts → Links → (ℕ → Point) → Point → Inserting
insert_point room C L p v = insert_at room C L p v (locate_point C L p v)
