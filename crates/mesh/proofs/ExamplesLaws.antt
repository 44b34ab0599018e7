-- Laws of specs/Examples.antt.
use Rattle.std.specs.Prelude.{ℕ, ◌+◌, ◌*◌, ◌<◌, ◌≡◌, refl, not, ◌≢◌, [], ◌∷◌, T, eqb, get_or}
use Rattle.std.proofs.Common.{T_not, lit<}
use Rattle.mesh.specs.declared.Counts.{Counts}
use Rattle.mesh.specs.Mesh.{Links, In}
use Rattle.mesh.specs.Operations.{flip_between, flip_cw, create_single_face_between_edge_and_next, with_face, face_adjacent, create_new_face_adjacent_to_edge, with_vertex}
use Rattle.mesh.specs.Wf.{Wf}
use Rattle.mesh.specs.Rules.{half_edge_in_use, links_in_use, half_edge_linked, inner_face_rule, outer_face_rule, side_rule, vertex_rule, euler_rule, rules}
use Rattle.mesh.proofs.RulesWf.{rules-wf}
use Rattle.mesh.specs.Flip.{Flippable}
use Rattle.mesh.proofs.FlipLaws.{flip-keeps}
use Rattle.mesh.proofs.SingleFaceLaws.{single-face-keeps}
use Rattle.mesh.proofs.NewFaceLaws.{new-face-keeps}
use Rattle.sums.proofs.BitLaws.{eq_test}
use Rattle.sums.specs.Bounded.{all_below}
use Rattle.sums.specs.Half.{rev}
use Rattle.sums.specs.Iterate.{reaches}
use Rattle.sums.specs.Put.{put}
use Rattle.mesh.specs.Examples.{seed_counts, seed, square, square_counts, loop_counts, loop}

unequal : (a b : ℕ) → T (not (eqb a b)) → a ≢ b
unequal a b h p = T_not (eqb a b) h (eq_test p)

pub seed-wf : Wf seed_counts seed
unfolding seed rules half_edge_in_use links_in_use half_edge_linked inner_face_rule outer_face_rule side_rule vertex_rule euler_rule all_below reaches rev
seed-wf = rules-wf seed_counts seed tt

pub square-wf : Wf square_counts square
unfolding seed square
square-wf = new-face-keeps seed-wf (lit< tt) refl

-- the diagonal may be flipped
pub square-flips : Flippable square_counts square 0
unfolding seed square create_new_face_adjacent_to_edge face_adjacent put
square-flips = record { edge = lit< tt; inner-left = lit< tt; inner-right = lit< tt; differ = unequal _ _ tt }

pub flipped-wf : Wf square_counts (flip_cw square 0)
flipped-wf = flip-keeps square-wf 0 square-flips

-- a face between half-edge 3 of the square's boundary and the next: its boundary of four becomes one of three. (`two-fails` of
-- `RulesExamples`: on a boundary of
-- three it would leave two, against the rules.)
pub closed-wf : Wf (with_face square_counts) (create_single_face_between_edge_and_next square square_counts 3)
unfolding seed square create_new_face_adjacent_to_edge face_adjacent put
closed-wf = single-face-keeps square-wf {e = 3} (lit< tt) refl (unequal _ _ tt)

pub loop_wf : Wf loop_counts loop
unfolding loop rules half_edge_in_use links_in_use half_edge_linked inner_face_rule outer_face_rule side_rule vertex_rule euler_rule all_below reaches rev
loop_wf = rules-wf loop_counts loop tt

pub loop-one-face : (0 < loop.face 2) × (loop.face 2 ≡ loop.face 3)
unfolding loop
loop-one-face = (lit< tt, refl)

-- and the flip of that edge leaves the rules
pub loop-flip : T (not (rules loop_counts (flip_cw loop 1)))
unfolding loop flip_cw flip_between put rules half_edge_in_use links_in_use half_edge_linked inner_face_rule outer_face_rule side_rule vertex_rule euler_rule all_below reaches rev
loop-flip = tt
