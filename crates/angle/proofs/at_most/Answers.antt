-- `angle::at_most` meets its contract, by the law `angle-le`. Assumes nothing.
use Rattle.angle.proofs.Laws.{angle-le}
use Rattle.angle.proofs.at_most.Goals as goal

pub returns : goal.returns
returns c = angle-le c.args.a c.args.b c.requires.0 c.requires.1
