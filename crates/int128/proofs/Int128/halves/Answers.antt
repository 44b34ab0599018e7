-- `int128::Int128::halves` meets its contract. Assumes nothing.
use Rattle.std.specs.Int.{w128}
use Rattle.std.proofs.Common.{◌∙◌, ap, of_z}
use Rattle.std.proofs.lemmas.Int.{to_z-of_z}
use Rattle.int128.specs.Int128.{in_halves}
use Rattle.int128.proofs.Int128LawsFacts.{halves-mean}
use Rattle.int128.proofs.Int128.halves.Goals as goal

pub returns : goal.returns
unfolding in_halves
returns c =
    let bits = c.cast_unsigned-bits.ensures ∙ ap (of_z w128) (to_z-of_z w128 c.args.n c.ranges.n) in
    rw bits (halves-mean c.args.n c.ranges.n)
