-- `finish::check_seed` meets its contract: no points are given. Assumes nothing.
use borrow.Author.Rules.{rules}
use Rattle.finish.specs.Finish.{seed_checked}
use Rattle.finish.proofs.check_seed.Goals as goal

pub returns : goal.returns
unfolding seed_checked
returns c = rw (← c.is_short.ensures) c.check_with.ensures
