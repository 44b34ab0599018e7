-- `volume::measure` meets its contract. Assumes nothing.
use mathlib.Core.List.{[]}
use native.Mathlib.Omega.{arith}
use borrow.Author.Rules.{sfits_of}
use mir.Facts.{to_z-of_z}
use Rattle.volume.proofs.Call.{sums-small, six-less, volumes-found}
use Rattle.volume.proofs.measure.Goals as goal

pub whole-six-requires : goal.whole-six-requires
whole-six-requires c =
    sums-small c.requires [] (rw (to_z-of_z c.ranges.level) at (c.add_faces-sums.ensures []))

pub cubic_metres-requires : goal.cubic_metres-requires
cubic_metres-requires c =
    let e = rw (to_z-of_z c.ranges.level) at (c.add_faces-sums.ensures []) in
    six-less c.requires [] e c.whole-six.result c.whole-six.ensures

pub returns : goal.returns
returns c = λ o.
    let e = rw (to_z-of_z c.ranges.level) at (c.add_faces-sums.ensures o) in
    let n = c.whole-six in
    volumes-found c.requires o e n.result n.ensures (omega arith) (omega arith) (sfits_of c.cubic_metres.type_inv)
    c.cubic_metres.ensures
