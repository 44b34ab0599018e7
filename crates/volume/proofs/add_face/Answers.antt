-- `volume::add_face` meets its contract. Assumes nothing.
use mathlib.Core.List.{[]}
use borrow.Author.Rules.{sfits_of}
use mir.Facts.{to_z-of_z}
use Rattle.volume.proofs.Sums.{triangle-read, plus-read}
use Rattle.volume.proofs.add_face.Goals as goal

pub add_triangle-requires : goal.add_triangle-requires
add_triangle-requires c =
    let x = c.doubled_area_at-area in
    let y = c.above_level-above in
    let e = rw (to_z-of_z c.ranges.level) at (y.ensures [] []) in
    (c.requires.0, triangle-read (sfits_of x.type_inv) (sfits_of y.type_inv) (x.ensures [] []) e (c.requires.1.small [] []))

pub returns : goal.returns
returns c = λ o s.
    let x = c.doubled_area_at-area in
    let y = c.above_level-above in
    let e = rw (to_z-of_z c.ranges.level) at (y.ensures o s) in
    plus-read (sfits_of x.type_inv) (sfits_of y.type_inv) (x.ensures o s) e c.args.sums c.add_triangle.ensures
