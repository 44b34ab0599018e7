-- `fithmoul::fithmoul_ask` meets its contract. Assumes nothing.
use mathlib.Core.Path.{◌∙◌}
use mir.Facts.{to_z-of_z}
use Rattle.ask.proofs.AskLaws.{ask-none, ask-made}
use Rattle.fithmoul.specs.Exported.{ask-exported}
use borrow.Author.Rules.{rules}
use Rattle.fithmoul.proofs.fithmoul_ask.Goals as goal

pub returns-in-Err : goal.returns-in-Err
returns-in-Err c =
    let f = c.ranges in
    let e = rw (to_z-of_z f.x, to_z-of_z f.y, to_z-of_z f.z) at c.ask-asked.ensures in
    ask-exported (ask-none _ _ _ _ _ _ _ e c.in-Err.is) c.from.ensures

pub returns : goal.returns
returns c =
    let f = c.ranges in
    let e = rw (to_z-of_z f.x, to_z-of_z f.y, to_z-of_z f.z) at c.ask-asked.ensures in
    ask-exported (ask-made _ _ _ _ _ _ _ e c.in_default.is c.clear_ring.ensures) c.from-2.ensures
