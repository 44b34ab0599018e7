-- `int128::Int128::zero` meets its contract. Assumes nothing.
use Rattle.std.proofs.Common.{refl}
use Rattle.int128.specs.Int128.{of_halves}
use Rattle.int128.proofs.Int128.zero.Goals as goal

pub returns : goal.returns
unfolding of_halves
returns c = refl
