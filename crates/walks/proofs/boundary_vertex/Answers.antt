-- `walks::boundary_vertex` meets its contract. Assumes nothing.
use borrow.Author.Rules.{rules}
use mathlib.Core.Path.{refl}
use mir.Facts.{to_z-of_z}
use mir.Syntax.{w32}
use Rattle.walks.proofs.Tests.{apart-read, angle-read}
use Rattle.walks.proofs.boundary_vertex.Goals as goal

pub angle_about-requires : goal.angle_about-requires
angle_about-requires c =
    let P = c.requires in
    let p = c.args.position in
    (P.valid, apart-read _ _ _ (to_z-of_z {w = w32} {z = p.x} (search rules)) (to_z-of_z {w = w32} {z = p.y} (search rules)) P.apart)

pub returns : goal.returns
returns c =
    let p = c.args.position in
    record {
      position = refl;
      is-angle = c.angle_about.ensures.angle;
      turns-are = angle-read _ _ _ (to_z-of_z {w = w32} {z = p.x} (search rules)) (to_z-of_z {w = w32} {z = p.y} (search rules)) c.angle_about.ensures.is;
    }
