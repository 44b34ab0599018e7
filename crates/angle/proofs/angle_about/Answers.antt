-- A vertex that is not at a valid centre is what `pseudo_angle` asks for (`about-apart`).
use Rattle.std.proofs.Common.{to_z-of_z}
use Rattle.angle.specs.Angle.{angle_about}
use Rattle.angle.proofs.Center.{about-apart}
use Rattle.angle.proofs.angle_about.Goals as goal

pub pseudo_angle-requires : goal.pseudo_angle-requires
pseudo_angle-requires c =
    let o = c.args.center in
    simp (c.to_f64.ensures.0, c.to_f64.ensures.1, to_z-of_z c.ranges.x, to_z-of_z c.ranges.y)
    (about-apart c.args.x c.args.y o.x o.y c.ranges.x.sfits c.ranges.y.sfits c.requires.0 c.requires.1)

pub returns-clause-is : goal.returns-clause-is
unfolding angle_about
returns-clause-is c = cc (to_z-of_z c.ranges.x, to_z-of_z c.ranges.y)
