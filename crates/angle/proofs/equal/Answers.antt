-- `angle::equal` meets its contract, by the law `angle-eq`. Assumes nothing.
use Rattle.angle.proofs.Laws.{angle-eq}
use Rattle.angle.proofs.equal.Goals as goal

pub returns : goal.returns
returns c = angle-eq c.args.a c.args.b c.requires.0 c.requires.1
