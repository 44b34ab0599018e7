-- Meshes by computation: that the rules can be met, that each operation's condition can be met, and why each condition
-- is there. Assumes nothing.
use Rattle.std.specs.Prelude.{ℕ, ◌+◌, ◌*◌, ◌<◌, ◌≡◌, refl, not, ◌≢◌, [], ◌∷◌, T, eqb, get_or}
use Rattle.std.proofs.Common.{T_not, lit<}
use Rattle.mesh.specs.declared.Counts.{Counts}
use Rattle.mesh.specs.Mesh.{Links, In}
use Rattle.mesh.specs.Operations.{flip_between, flip_cw, create_single_face_between_edge_and_next, with_face, face_adjacent, create_new_face_adjacent_to_edge, with_vertex}
use Rattle.mesh.specs.Wf.{Wf}
use Rattle.mesh.specs.Rules.{half_edge_in_use, links_in_use, half_edge_linked, inner_face_rule, outer_face_rule, side_rule, vertex_rule, euler_rule, rules}
use Rattle.mesh.specs.Flip.{Flippable}
use Rattle.sums.proofs.BitLaws.{eq_test}
use Rattle.sums.specs.Bounded.{all_below}
use Rattle.sums.specs.Half.{rev}
use Rattle.sums.specs.Iterate.{reaches}
use Rattle.sums.specs.Put.{put}

-- a triangle: half-edges 0, 2 and 4 from vertex 0 to 1, 1 to 2 and 2 to 0 in face 1, their reverses in face 0
abbrev pub seed_counts : Counts
seed_counts = record { vertices = 3; edges = 3; faces = 2 }

unfoldable pub seed : Links
seed = record {
  next = λ x. get_or (2 ∷ 5 ∷ 4 ∷ 1 ∷ 0 ∷ 3 ∷ []) x 0;
  prev = λ x. get_or (4 ∷ 3 ∷ 0 ∷ 5 ∷ 2 ∷ 1 ∷ []) x 0;
  face = λ x. get_or (1 ∷ 0 ∷ 1 ∷ 0 ∷ 1 ∷ 0 ∷ []) x 0;
  origin = λ x. get_or (0 ∷ 1 ∷ 1 ∷ 2 ∷ 2 ∷ 0 ∷ []) x 0;
  out = λ x. get_or (0 ∷ 2 ∷ 4 ∷ []) x 0;
  adjacent = λ x. get_or (1 ∷ 0 ∷ []) x 0;
}

-- a second triangle on edge 0, with vertex 3: a square with the diagonal 0
unfoldable pub square : Links
square = create_new_face_adjacent_to_edge seed seed_counts 1

abbrev pub square_counts : Counts
square_counts = with_vertex seed_counts

-- A mesh within the rules with an inner edge that has one face on both sides, so the rules alone do not let every inner edge flip: a loop
-- at vertex 0
-- (half-edges 0 and 1) that holds edge 1, to vertex 1, in one face; the loop's other half in a face with vertex 2; a face beside it.
abbrev pub loop_counts : Counts
loop_counts = record { vertices = 4; edges = 6; faces = 4 }

unfoldable pub loop : Links
loop = record {
  next = λ x. get_or (2 ∷ 4 ∷ 3 ∷ 0 ∷ 6 ∷ 11 ∷ 1 ∷ 8 ∷ 10 ∷ 5 ∷ 7 ∷ 9 ∷ []) x 0;
  prev = λ x. get_or (3 ∷ 6 ∷ 0 ∷ 2 ∷ 1 ∷ 9 ∷ 4 ∷ 10 ∷ 7 ∷ 11 ∷ 8 ∷ 5 ∷ []) x 0;
  face = λ x. get_or (1 ∷ 2 ∷ 1 ∷ 1 ∷ 2 ∷ 0 ∷ 2 ∷ 3 ∷ 3 ∷ 0 ∷ 3 ∷ 0 ∷ []) x 0;
  origin = λ x. get_or (0 ∷ 0 ∷ 0 ∷ 1 ∷ 0 ∷ 2 ∷ 2 ∷ 0 ∷ 2 ∷ 3 ∷ 3 ∷ 0 ∷ []) x 0;
  out = λ x. get_or (0 ∷ 3 ∷ 6 ∷ 10 ∷ []) x 0;
  adjacent = λ x. get_or (5 ∷ 0 ∷ 1 ∷ 7 ∷ []) x 0;
}
