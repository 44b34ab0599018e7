-- Each mesh rule can fail by itself: for each a mesh at which its test fails and every other one passes, by
-- computation. (`seed-wf` of `Examples`: all can be met.) "next and prev undo each other, and next keeps the face" and
-- the rule of origins are one test, and each has a mesh; that next keeps the face has none, since it follows from the
-- rules of the faces, and neither has the test that there is an outer face. Assumes nothing.
use Rattle.std.specs.Prelude.{true, false, [], ◌∷◌, ◌≡◌, refl, eqb, get_or}
use Rattle.mesh.specs.declared.Counts.{Counts}
use Rattle.mesh.specs.Examples.{seed, seed_counts}
use Rattle.mesh.specs.Mesh.{Links}
use Rattle.mesh.specs.Operations.{create_single_face_between_edge_and_next, face_between, with_face}
use Rattle.mesh.specs.Rules.{half_edge_in_use, links_in_use, half_edge_linked, inner_face_rule, outer_face_rule, side_rule, vertex_rule, euler_rule, rule_tests, every}
use Rattle.sums.specs.Bounded.{all_below}
use Rattle.sums.specs.Half.{rev}
use Rattle.sums.specs.Iterate.{reaches}
use Rattle.sums.specs.Put.{put}

-- "vertices - edges + faces = 2": a torus of seven vertices with one triangle taken out, 7 - 21 + 14 = 0
unfoldable pub torus : Links
torus = record {
  next = λ x. get_or (2 ∷ 31 ∷ 4 ∷ 15 ∷ 0 ∷ 6 ∷ 8 ∷ 18 ∷ 5 ∷ 40 ∷ 12 ∷ 37 ∷ 14 ∷ 21 ∷ 10 ∷ 16 ∷ 3 ∷ 24 ∷ 20 ∷ 27 ∷ 7 ∷ 22 ∷ 13 ∷ 30 ∷ 26 ∷ 33 ∷ 17 ∷ 28 ∷ 19 ∷ 36 ∷ 32 ∷ 39 ∷ 23 ∷ 34 ∷ 25 ∷ 9 ∷ 38 ∷ 41 ∷ 29 ∷ 1 ∷ 35 ∷ 11 ∷ []) x 0;
  prev = λ x. get_or (4 ∷ 39 ∷ 0 ∷ 16 ∷ 2 ∷ 8 ∷ 5 ∷ 20 ∷ 6 ∷ 35 ∷ 14 ∷ 41 ∷ 10 ∷ 22 ∷ 12 ∷ 3 ∷ 15 ∷ 26 ∷ 7 ∷ 28 ∷ 18 ∷ 13 ∷ 21 ∷ 32 ∷ 17 ∷ 34 ∷ 24 ∷ 19 ∷ 27 ∷ 38 ∷ 23 ∷ 1 ∷ 30 ∷ 25 ∷ 33 ∷ 40 ∷ 29 ∷ 11 ∷ 36 ∷ 31 ∷ 9 ∷ 37 ∷ []) x 0;
  face = λ x. get_or (1 ∷ 12 ∷ 1 ∷ 4 ∷ 1 ∷ 2 ∷ 2 ∷ 5 ∷ 2 ∷ 13 ∷ 3 ∷ 0 ∷ 3 ∷ 6 ∷ 3 ∷ 4 ∷ 4 ∷ 7 ∷ 5 ∷ 8 ∷ 5 ∷ 6 ∷ 6 ∷ 9 ∷ 7 ∷ 10 ∷ 7 ∷ 8 ∷ 8 ∷ 11 ∷ 9 ∷ 12 ∷ 9 ∷ 10 ∷ 10 ∷ 13 ∷ 11 ∷ 0 ∷ 11 ∷ 12 ∷ 13 ∷ 0 ∷ []) x 0;
  origin = λ x. get_or (0 ∷ 1 ∷ 1 ∷ 3 ∷ 3 ∷ 0 ∷ 3 ∷ 2 ∷ 2 ∷ 0 ∷ 1 ∷ 2 ∷ 2 ∷ 4 ∷ 4 ∷ 1 ∷ 4 ∷ 3 ∷ 3 ∷ 5 ∷ 5 ∷ 2 ∷ 5 ∷ 4 ∷ 4 ∷ 6 ∷ 6 ∷ 3 ∷ 6 ∷ 5 ∷ 5 ∷ 0 ∷ 0 ∷ 4 ∷ 0 ∷ 6 ∷ 6 ∷ 1 ∷ 1 ∷ 5 ∷ 2 ∷ 6 ∷ []) x 0;
  out = λ x. get_or (34 ∷ 38 ∷ 40 ∷ 27 ∷ 33 ∷ 39 ∷ 41 ∷ []) x 0;
  adjacent = λ x. get_or (41 ∷ 0 ∷ 5 ∷ 10 ∷ 15 ∷ 7 ∷ 21 ∷ 17 ∷ 27 ∷ 23 ∷ 33 ∷ 29 ∷ 39 ∷ 35 ∷ []) x 0;
}

-- a link that names nothing in use: the triangle of `seed`, with half-edge 6 of 6 as out edge of vertex 0, linked as if it were there
unfoldable pub past_end : Links
past_end = record {
  next = λ x. get_or (2 ∷ 5 ∷ 4 ∷ 1 ∷ 0 ∷ 3 ∷ []) x 0;
  prev = λ x. get_or (4 ∷ 3 ∷ 0 ∷ 5 ∷ 2 ∷ 1 ∷ 4 ∷ []) x 0;
  face = λ x. get_or (1 ∷ 0 ∷ 1 ∷ 0 ∷ 1 ∷ 0 ∷ []) x 0;
  origin = λ x. get_or (0 ∷ 1 ∷ 1 ∷ 2 ∷ 2 ∷ 0 ∷ []) x 0;
  out = λ x. get_or (6 ∷ 2 ∷ 4 ∷ []) x 0;
  adjacent = λ x. get_or (1 ∷ 0 ∷ []) x 0;
}

pub past_end-fails : rule_tests (record { vertices = 3; edges = 3; faces = 2 }) past_end
    ≡ true ∷ true ∷ false ∷ true ∷ true ∷ true ∷ true ∷ true ∷ []
unfolding past_end half_edge_in_use links_in_use half_edge_linked inner_face_rule outer_face_rule side_rule vertex_rule euler_rule all_below reaches rev
past_end-fails = refl

-- "next and prev undo each other": the triangle of `seed`, with prev of half-edge 0 leading to 2
unfoldable pub one_way : Links
one_way = record {
  next = λ x. get_or (2 ∷ 5 ∷ 4 ∷ 1 ∷ 0 ∷ 3 ∷ []) x 0;
  prev = λ x. get_or (2 ∷ 3 ∷ 0 ∷ 5 ∷ 2 ∷ 1 ∷ []) x 0;
  face = λ x. get_or (1 ∷ 0 ∷ 1 ∷ 0 ∷ 1 ∷ 0 ∷ []) x 0;
  origin = λ x. get_or (0 ∷ 1 ∷ 1 ∷ 2 ∷ 2 ∷ 0 ∷ []) x 0;
  out = λ x. get_or (5 ∷ 2 ∷ 4 ∷ []) x 0;
  adjacent = λ x. get_or (1 ∷ 0 ∷ []) x 0;
}

pub one_way-fails : rule_tests (record { vertices = 3; edges = 3; faces = 2 }) one_way
    ≡ true ∷ true ∷ true ∷ false ∷ true ∷ true ∷ true ∷ true ∷ []
unfolding one_way half_edge_in_use links_in_use half_edge_linked inner_face_rule outer_face_rule side_rule vertex_rule euler_rule all_below reaches rev
one_way-fails = refl

-- "The origin of next(e) is the origin of e's reverse": the torus with one half-edge at each of two vertices said to
-- start at a new vertex, 9 - 21 + 14 = 2
unfoldable pub names_split : Links
names_split = record {
  next = λ x. get_or (2 ∷ 27 ∷ 4 ∷ 11 ∷ 0 ∷ 13 ∷ 8 ∷ 33 ∷ 10 ∷ 17 ∷ 6 ∷ 19 ∷ 14 ∷ 38 ∷ 16 ∷ 23 ∷ 12 ∷ 25 ∷ 20 ∷ 3 ∷ 22 ∷ 29 ∷ 18 ∷ 31 ∷ 26 ∷ 9 ∷ 28 ∷ 35 ∷ 24 ∷ 40 ∷ 32 ∷ 15 ∷ 34 ∷ 36 ∷ 30 ∷ 1 ∷ 7 ∷ 41 ∷ 5 ∷ 37 ∷ 21 ∷ 39 ∷ []) x 0;
  prev = λ x. get_or (4 ∷ 35 ∷ 0 ∷ 19 ∷ 2 ∷ 38 ∷ 10 ∷ 36 ∷ 6 ∷ 25 ∷ 8 ∷ 3 ∷ 16 ∷ 5 ∷ 12 ∷ 31 ∷ 14 ∷ 9 ∷ 22 ∷ 11 ∷ 18 ∷ 40 ∷ 20 ∷ 15 ∷ 28 ∷ 17 ∷ 24 ∷ 1 ∷ 26 ∷ 21 ∷ 34 ∷ 23 ∷ 30 ∷ 7 ∷ 32 ∷ 27 ∷ 33 ∷ 39 ∷ 13 ∷ 41 ∷ 29 ∷ 37 ∷ []) x 0;
  face = λ x. get_or (1 ∷ 13 ∷ 1 ∷ 9 ∷ 1 ∷ 8 ∷ 2 ∷ 7 ∷ 2 ∷ 10 ∷ 2 ∷ 9 ∷ 3 ∷ 8 ∷ 3 ∷ 11 ∷ 3 ∷ 10 ∷ 4 ∷ 9 ∷ 4 ∷ 12 ∷ 4 ∷ 11 ∷ 5 ∷ 10 ∷ 5 ∷ 13 ∷ 5 ∷ 12 ∷ 6 ∷ 11 ∷ 6 ∷ 7 ∷ 6 ∷ 13 ∷ 7 ∷ 0 ∷ 8 ∷ 0 ∷ 12 ∷ 0 ∷ []) x 0;
  origin = λ x. get_or (1 ∷ 2 ∷ 2 ∷ 4 ∷ 4 ∷ 1 ∷ 2 ∷ 3 ∷ 3 ∷ 5 ∷ 5 ∷ 2 ∷ 8 ∷ 4 ∷ 4 ∷ 6 ∷ 6 ∷ 3 ∷ 4 ∷ 5 ∷ 5 ∷ 0 ∷ 0 ∷ 4 ∷ 5 ∷ 6 ∷ 6 ∷ 1 ∷ 1 ∷ 5 ∷ 6 ∷ 0 ∷ 0 ∷ 2 ∷ 2 ∷ 6 ∷ 7 ∷ 3 ∷ 3 ∷ 1 ∷ 1 ∷ 0 ∷ []) x 0;
  out = λ x. get_or (41 ∷ 40 ∷ 34 ∷ 38 ∷ 23 ∷ 29 ∷ 35 ∷ 36 ∷ 12 ∷ []) x 0;
  adjacent = λ x. get_or (37 ∷ 0 ∷ 6 ∷ 12 ∷ 18 ∷ 24 ∷ 30 ∷ 36 ∷ 5 ∷ 11 ∷ 17 ∷ 23 ∷ 29 ∷ 35 ∷ []) x 0;
}

pub names_split-fails : rule_tests (record { vertices = 9; edges = 21; faces = 14 }) names_split
    ≡ true ∷ true ∷ true ∷ false ∷ true ∷ true ∷ true ∷ true ∷ []
unfolding names_split half_edge_in_use links_in_use half_edge_linked inner_face_rule outer_face_rule side_rule vertex_rule euler_rule all_below reaches rev
names_split-fails = refl

-- of its test only that part fails
pub names_split-linked : all_below 42 (λ e. every (
    eqb (names_split.prev (names_split.next e)) e
    ∷ eqb (names_split.next (names_split.prev e)) e
    ∷ eqb (names_split.face (names_split.next e)) (names_split.face e)
    ∷ [])) ≡ true
unfolding names_split all_below
names_split-linked = refl

-- "Every edge has an inner face on a side": a triangle with an edge to a fourth vertex in the outer face
unfoldable pub dangling : Links
dangling = record {
  next = λ x. get_or (2 ∷ 5 ∷ 4 ∷ 1 ∷ 0 ∷ 6 ∷ 7 ∷ 3 ∷ []) x 0;
  prev = λ x. get_or (4 ∷ 3 ∷ 0 ∷ 7 ∷ 2 ∷ 1 ∷ 5 ∷ 6 ∷ []) x 0;
  face = λ x. get_or (1 ∷ 0 ∷ 1 ∷ 0 ∷ 1 ∷ 0 ∷ 0 ∷ 0 ∷ []) x 0;
  origin = λ x. get_or (0 ∷ 1 ∷ 1 ∷ 2 ∷ 2 ∷ 0 ∷ 2 ∷ 3 ∷ []) x 0;
  out = λ x. get_or (5 ∷ 2 ∷ 6 ∷ 7 ∷ []) x 0;
  adjacent = λ x. get_or (5 ∷ 0 ∷ []) x 0;
}

-- "An inner face is a cycle of three through its stored edge": one face of four edges
unfoldable pub four : Links
four = record {
  next = λ x. get_or (2 ∷ 7 ∷ 4 ∷ 1 ∷ 6 ∷ 3 ∷ 0 ∷ 5 ∷ []) x 0;
  prev = λ x. get_or (6 ∷ 3 ∷ 0 ∷ 5 ∷ 2 ∷ 7 ∷ 4 ∷ 1 ∷ []) x 0;
  face = λ x. get_or (1 ∷ 0 ∷ 1 ∷ 0 ∷ 1 ∷ 0 ∷ 1 ∷ 0 ∷ []) x 0;
  origin = λ x. get_or (0 ∷ 1 ∷ 1 ∷ 2 ∷ 2 ∷ 3 ∷ 3 ∷ 0 ∷ []) x 0;
  out = λ x. get_or (7 ∷ 2 ∷ 4 ∷ 6 ∷ []) x 0;
  adjacent = λ x. get_or (5 ∷ 0 ∷ []) x 0;
}

-- "Every vertex has an out edge": the triangle of `seed`, with an out edge of vertex 0 that starts at vertex 1
unfoldable pub elsewhere : Links
elsewhere = record {
  next = λ x. get_or (2 ∷ 5 ∷ 4 ∷ 1 ∷ 0 ∷ 3 ∷ []) x 0;
  prev = λ x. get_or (4 ∷ 3 ∷ 0 ∷ 5 ∷ 2 ∷ 1 ∷ []) x 0;
  face = λ x. get_or (1 ∷ 0 ∷ 1 ∷ 0 ∷ 1 ∷ 0 ∷ []) x 0;
  origin = λ x. get_or (0 ∷ 1 ∷ 1 ∷ 2 ∷ 2 ∷ 0 ∷ []) x 0;
  out = λ x. get_or (2 ∷ 2 ∷ 4 ∷ []) x 0;
  adjacent = λ x. get_or (1 ∷ 0 ∷ []) x 0;
}
