-- Laws of specs/RulesExamples.antt.
use Rattle.std.specs.Prelude.{true, false, [], ◌∷◌, ◌≡◌, refl, eqb, get_or}
use Rattle.mesh.specs.declared.Counts.{Counts}
use Rattle.mesh.specs.Examples.{seed, seed_counts}
use Rattle.mesh.specs.Mesh.{Links}
use Rattle.mesh.specs.Operations.{create_single_face_between_edge_and_next, face_between, with_face}
use Rattle.mesh.specs.Rules.{half_edge_in_use, links_in_use, half_edge_linked, inner_face_rule, outer_face_rule, side_rule, vertex_rule, euler_rule, rule_tests, every}
use Rattle.sums.specs.Bounded.{all_below}
use Rattle.sums.specs.Half.{rev}
use Rattle.sums.specs.Iterate.{reaches}
use Rattle.sums.specs.Put.{put}
use Rattle.mesh.specs.RulesExamples.{torus, dangling, four, elsewhere}

pub torus-fails : rule_tests (record { vertices = 7; edges = 21; faces = 14 }) torus
    ≡ true ∷ false ∷ true ∷ true ∷ true ∷ true ∷ true ∷ true ∷ []
unfolding torus half_edge_in_use links_in_use half_edge_linked inner_face_rule outer_face_rule side_rule vertex_rule euler_rule all_below reaches rev
torus-fails = refl

pub dangling-fails : rule_tests (record { vertices = 4; edges = 4; faces = 2 }) dangling
    ≡ true ∷ true ∷ true ∷ true ∷ false ∷ true ∷ true ∷ true ∷ []
unfolding dangling half_edge_in_use links_in_use half_edge_linked inner_face_rule outer_face_rule side_rule vertex_rule euler_rule all_below reaches rev
dangling-fails = refl

-- "Face 0 is one cycle of at least three": a face between two edges of the boundary of three leaves two
pub two-fails : rule_tests (with_face seed_counts) (create_single_face_between_edge_and_next seed seed_counts 1)
    ≡ true ∷ true ∷ true ∷ true ∷ true ∷ false ∷ true ∷ true ∷ []
unfolding seed create_single_face_between_edge_and_next face_between put half_edge_in_use links_in_use half_edge_linked inner_face_rule outer_face_rule side_rule vertex_rule euler_rule all_below reaches rev
two-fails = refl

pub four-fails : rule_tests (record { vertices = 4; edges = 4; faces = 2 }) four
    ≡ true ∷ true ∷ true ∷ true ∷ true ∷ true ∷ false ∷ true ∷ []
unfolding four half_edge_in_use links_in_use half_edge_linked inner_face_rule outer_face_rule side_rule vertex_rule euler_rule all_below reaches rev
four-fails = refl

pub elsewhere-fails : rule_tests (record { vertices = 3; edges = 3; faces = 2 }) elsewhere
    ≡ true ∷ true ∷ true ∷ true ∷ true ∷ true ∷ true ∷ false ∷ []
unfolding elsewhere half_edge_in_use links_in_use half_edge_linked inner_face_rule outer_face_rule side_rule vertex_rule euler_rule all_below reaches rev
elsewhere-fails = refl
