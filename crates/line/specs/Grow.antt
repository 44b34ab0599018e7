-- One point goes in while there is no triangle: `insert_with_hint_option_impl` of triangulation_ext.rs with no vertex, one,
-- or a line of them. Definitions only, and each computes; `GrowLaws` has the laws.
-- 02, Change 6: "A point placed in this phase has fate 1 with its vertex and the counts as in Change 2, one on an existing
-- vertex Change 2's fate 9"; "it may hold one vertex (its links 0), or none".
use Rattle.std.specs.Prelude.{cond, ℕ, zero, suc, ltb}
use Rattle.corner.specs.Corner.{Extended}
use Rattle.math.specs.declared.Point.{Point}
use Rattle.mesh.specs.declared.Counts.{Counts}
use Rattle.mesh.specs.Mesh.{Links}
use Rattle.skipped.specs.Insert.{unflipped, insert_outside, is_new, position_vertex, insert_point}
use Rattle.sums.specs.Put.{put}
use Rattle.line.specs.Operations.{setup_initial_two_vertices, extend_line, split_edge_when_all_vertices_on_line, with_line_vertex, two_vertices}
use Rattle.line.specs.Order.{is_same_of}
use Rattle.line.specs.declared.PositionWhenAllVerticesOnLine.{PositionWhenAllVerticesOnLine}
use Rattle.line.specs.declared.PositionWhenAllVerticesOnLine.TheVariants.{OnEdge, OnVertex, NotOnLine, ExtendingLine}
use Rattle.line.specs.Locate.{locate_when_all_vertices_on_line}

-- what has become of a point: its fate and its vertex; and of the mesh, with the faces and flips of this insertion
pub record Growing : Type 0 where
  pub fate : ℕ
  pub vertex : ℕ
  pub positions : ℕ → Point
  pub mesh : Extended

-- ---- no vertex yet: `append_unconnected_vertex`
-- C6.4: "One vertex: 1, 0, 1, its out edge 0, face 0's stored edge 0."
abbrev pub one_vertex : Counts
one_vertex = record { vertices = 1; edges = 0; faces = 1 }

unfoldable pub insert_first_vertex : Links → (ℕ → Point) → Point → Growing
insert_first_vertex L p q = record {
  fate = 1;
  vertex = 0;
  positions = put p 0 q;
  mesh = unflipped one_vertex (record {
    next = L.next;
    prev = L.prev;
    face = L.face;
    origin = L.origin;
    out = put L.out 0 0;
    adjacent = put L.adjacent 0 0;
  }) 0;
}

-- ---- one vertex: `insert_second_vertex`
unfoldable pub insert_second_vertex : Links → (ℕ → Point) → Point → Growing
insert_second_vertex L p q = cond (is_same_of (p 0) q)
    (record { fate = 9; vertex = 0; positions = p; mesh = unflipped one_vertex L 0 })
    (record { fate = 1; vertex = 1; positions = put p 1 q; mesh = unflipped two_vertices (setup_initial_two_vertices L 0 1) 0 })

-- ---- a line: `insert_when_all_vertices_on_line`
unfoldable pub insert_at_line_place : ℕ → Counts → Links → (ℕ → Point) → Point → PositionWhenAllVerticesOnLine → Growing
insert_at_line_place room C L p q (OnVertex v) = record { fate = 9; vertex = v; positions = p; mesh = unflipped C L 0 }
insert_at_line_place room C L p q (OnEdge e) = record {
  fate = 1;
  vertex = C.vertices;
  positions = put p C.vertices q;
  mesh = unflipped (with_line_vertex C) (split_edge_when_all_vertices_on_line L C e) 0;
}
insert_at_line_place room C L p q (ExtendingLine v) = record {
  fate = 1;
  vertex = C.vertices;
  positions = put p C.vertices q;
  mesh = unflipped (with_line_vertex C) (extend_line L C v) 0;
}
insert_at_line_place room C L p q (NotOnLine e) = record {
  fate = 1;
  vertex = C.vertices;
  positions = put p C.vertices q;
  mesh = insert_outside room (put p C.vertices q) C L q e;
}

unfoldable pub insert_when_all_vertices_on_line : ℕ → Counts → Links → (ℕ → Point) → Point → Growing
insert_when_all_vertices_on_line room C L p q = insert_at_line_place room C L p q (locate_when_all_vertices_on_line C L p q)

-- ---- `match self.num_vertices()`, where `all_vertices_on_line()`: there is no face but the outer one
unfoldable pub insert_by_count : ℕ → ℕ → Counts → Links → (ℕ → Point) → Point → Growing
insert_by_count zero room C L p q = insert_first_vertex L p q
insert_by_count (suc zero) room C L p q = insert_second_vertex L p q
insert_by_count (suc (suc n)) room C L p q = insert_when_all_vertices_on_line room C L p q

abbrev pub grow_point : ℕ → Growing → Point → Growing
grow_point room g q = insert_by_count g.mesh.counts.vertices room g.mesh.counts g.mesh.links g.positions q

-- ---- with a triangle: Change 2's insertion. C6.1: "fate 1 (also where Change 2 would say 6, 7, 8) or 9"
unfoldable pub grow_in_mesh : ℕ → Growing → Point → Growing
grow_in_mesh room g q =
    let t = insert_point room g.mesh.counts g.mesh.links g.positions q in
    record { fate = cond (is_new t.place) 1 9; vertex = position_vertex g.mesh.counts t.place; positions = t.positions; mesh = t.mesh }

-- ONE POINT OF THE GROWING SEED
unfoldable pub grow_on : ℕ → Growing → Point → Growing
grow_on room g q =
    let a = grow_in_mesh room g q in
    let b = grow_point room g q in
    cond (ltb 1 g.mesh.counts.faces) a b
