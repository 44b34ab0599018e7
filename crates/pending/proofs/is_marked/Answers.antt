-- `pending::is_marked` meets its contract. Assumes nothing.
use mathlib.Core.Path.{refl}
use Rattle.pending.specs.Set.{bit_of, is_marked}
use Rattle.pending.proofs.is_marked.Goals as goal

pub returns : goal.returns
unfolding is_marked bit_of
returns c = rw c.word_at.ensures refl
