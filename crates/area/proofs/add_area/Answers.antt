-- `area::add_area` meets its contract. Assumes nothing.
use mathlib.Core.Path.{◌∙◌, ap}
use native.Mathlib.Omega.{arith}
use lib.IntN.{ℤ, ◌+ℤ◌}
use mir.Facts.{to_z-of_z}
use Rattle.int128.specs.Int128.{int128_of}
use Rattle.int128.proofs.Int128LawsFacts.{halves_are}
use Rattle.area.proofs.add_area.Goals as goal

pub add-requires : goal.add-requires
add-requires c = rw (c.from_i64.ensures, to_z-of_z c.ranges.area) c.requires

pub returns : goal.returns
returns c =
    let e = c.from_i64.ensures ∙ to_z-of_z c.ranges.area in
    halves_are c.add.result (omega arith) (omega arith)
    (c.add.ensures ∙ ap (λ (z : ℤ). int128_of c.args.total +ℤ z) e)
