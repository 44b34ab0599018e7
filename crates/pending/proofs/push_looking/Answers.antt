-- `pending::push_looking` meets its contract. Assumes nothing.
use Rattle.pending.proofs.SetLaws.{pushed-by}
use mathlib.Core.Path.{refl}
use Rattle.pending.proofs.push_looking.Goals as goal

pub returns : goal.returns
returns c = λ edges. pushed-by c.push_missing.ensures refl refl
