-- `==` on the floats says whether the numbers are equal (`center-is`).
use Rattle.std.proofs.Common.{to_z-of_z}
use Rattle.angle.proofs.Center.{center-is}
use Rattle.angle.proofs.is_at_center.Goals as goal

pub returns : goal.returns
returns c =
    let o = c.args.center in
    cc (center-is c.args.x c.args.y o.x o.y c.ranges.x.sfits c.ranges.y.sfits, to_z-of_z c.ranges.x, to_z-of_z c.ranges.y)
