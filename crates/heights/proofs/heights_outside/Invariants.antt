-- The loop of `heights::heights_outside`.
use mathlib.Core.Path.{◌≡◌}
use Rattle.heights.specs.Heights.{heights_outside}
use Rattle.heights.proofs.heights_outside.Given as goal

abbrev pub invariant-loop-v : goal.invariant-loop-v
invariant-loop-v l = l.outside ≡ heights_outside l.v l.row
