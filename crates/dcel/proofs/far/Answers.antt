-- `dcel::far` meets its contract. Assumes nothing.
use native.Mathlib.Omega.{arith}
use mathlib.Core.Path.{sym, ap, ◌∙◌}
use Rattle.dcel.specs.declared.handles.Far.{Far}
use Rattle.dcel.specs.Views.{far-outer, far-inner}
use Rattle.dcel.proofs.far.Goals as goal

pub returns-then-face-eq0 : goal.returns-then-face-eq0
returns-then-face-eq0 c = sym (far-outer _ _ (omega arith))

pub returns-else-face-eq0 : goal.returns-else-face-eq0
returns-else-face-eq0 c = ap Far.Vertex (cc) ∙ sym (far-inner _ _ (omega arith))
