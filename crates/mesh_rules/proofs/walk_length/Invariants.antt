-- The loop of `mesh_rules::walk_length`: e is k steps from a, and the walk has not come back before, whatever function the step computes.
use Rattle.std.proofs.Common.{ℕ, ◌-◌}
use Rattle.sums.specs.Iterate.{Inverse}
use Rattle.mesh_rules.specs.Holds.{Computes}
use Rattle.mesh_rules.proofs.Walk.{Walked}
use Rattle.mesh_rules.proofs.walk_length.Given as goal

abbrev pub invariant-loop-e : goal.invariant-loop-e
invariant-loop-e g l = (f h : ℕ → ℕ) → Inverse l.ends f h → Computes (λ x r. goal.F-post g l.step x r) l.ends f → Walked l.ends f l.a l.e l.k

abbrev pub decreases-loop-e : goal.decreases-loop-e
decreases-loop-e g l = l.ends - l.k
