-- `pending::contains` meets its contract: a slice's test is that of the list. Assumes nothing.
use Rattle.std.proofs.Common.{◌∙◌}
use Rattle.pending.proofs.PendingLaws.{contains-test}
use Rattle.pending.proofs.contains.Goals as goal

pub returns : goal.returns
returns c = c.contains.ensures.value ∙ contains-test c.args.x c.args.n c.args.pending.now c.requires
