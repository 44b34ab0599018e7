-- `settled_test::is_broken` meets its contract. Assumes nothing.
use Rattle.std.proofs.Common.{rules}
use Rattle.settled_test.specs.Spoke.{broken_at}
use Rattle.settled_test.proofs.is_broken.Goals as goal

pub returns-then-at-ne0 : goal.returns-then-at-ne0
unfolding broken_at
returns-then-at-ne0 c = search rules

pub returns-else-at-ne0 : goal.returns-else-at-ne0
unfolding broken_at
returns-else-at-ne0 c = search rules
