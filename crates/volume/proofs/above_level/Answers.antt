-- `volume::above_level` meets its contract. Assumes nothing.
use mathlib.Core.Path.{◌∙◌}
use borrow.Author.Rules.{sfits_of}
use mir.Facts.{to_z-of_z}
use Rattle.volume.proofs.Corners.{second-there, third-there, height-one, height-two, height-three, above-is}
use mir.Syntax.{w64}
use Rattle.volume.proofs.above_level.Goals as goal

pub next-b-requires : goal.next-b-requires
next-b-requires c = c.requires.first

pub next-c-requires : goal.next-c-requires
next-c-requires c = second-there c.requires c.next-b.ensures

pub origin-u-requires : goal.origin-u-requires
origin-u-requires c = c.requires.first

pub origin-v-requires : goal.origin-v-requires
origin-v-requires c = second-there c.requires c.next-b.ensures

pub origin-w-requires : goal.origin-w-requires
origin-w-requires c =
    third-there c.requires c.next-b.ensures c.next-c.ensures

pub height-x-requires : goal.height-x-requires
height-x-requires c =
    height-one c.requires c.next-b.ensures c.origin-u.ensures

pub height-y-requires : goal.height-y-requires
height-y-requires c =
    height-two c.requires c.next-b.ensures c.origin-v.ensures

pub height-z-requires : goal.height-z-requires
height-z-requires c =
    height-three c.requires c.next-b.ensures c.next-c.ensures c.origin-w.ensures

pub returns : goal.returns
returns c = λ o s.
    to_z-of_z {w = w64} (sfits_of c.less_level.type_inv) ∙ c.less_level.ensures
    ∙ above-is o _ s _ _ c.next-b.ensures c.next-c.ensures
    c.origin-u.ensures c.origin-v.ensures c.origin-w.ensures
    (sfits_of c.height-x.type_inv) (sfits_of c.height-y.type_inv) (sfits_of c.height-z.type_inv)
    c.ranges.level
    c.height-x.ensures c.height-y.ensures c.height-z.ensures
