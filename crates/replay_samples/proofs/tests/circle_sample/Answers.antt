-- `replay_samples::tests::circle_sample` meets its contract: the four points are in range. Assumes nothing.
use Rattle.math.proofs.Range.{in-range}
use mathlib.Core.Path.{sym, ◌∙◌}
use Rattle.replay_samples.proofs.tests.circle_sample.Goals as goal

pub contained_in_circumference-requires : goal.contained_in_circumference-requires
contained_in_circumference-requires c = (in-range (sym c.validate_vertex.ensures ∙ c.if-validate_vertex.true), in-range (sym c.validate_vertex-then-validate_vertex.ensures ∙ c.if-validate_vertex-2.true), in-range (sym c.validate_vertex-then-validate_vertex-2.ensures ∙ c.if-validate_vertex-3.true), in-range (sym c.validate_vertex-then-validate_vertex-3.ensures ∙ c.if-validate_vertex-4.true))
