-- `volume::whole` meets its contract. Assumes nothing.
use mathlib.Core.Path.{◌∙◌}
use Rattle.volume.proofs.Sums.{first_fits, whole-fits, whole-made}
use Rattle.volume.proofs.whole.Goals as goal

pub add-requires : goal.add-requires
add-requires c = first_fits c.requires c.from_i64.ensures c.mul.ensures

pub add-requires-2 : goal.add-requires-2
add-requires-2 c =
    whole-fits c.requires c.from_i64.ensures c.mul.ensures
    c.add.ensures c.mul-2.ensures

pub returns : goal.returns
returns c =
    c.add-2.ensures
    ∙ whole-made c.requires c.from_i64.ensures c.mul.ensures
    c.add.ensures c.mul-2.ensures
