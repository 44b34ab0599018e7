-- `angle::less` meets its contract, by the law `angle-lt`. Assumes nothing.
use Rattle.angle.proofs.Laws.{angle-lt}
use Rattle.angle.proofs.less.Goals as goal

pub returns : goal.returns
returns c = angle-lt c.args.a c.args.b c.requires.0 c.requires.1
