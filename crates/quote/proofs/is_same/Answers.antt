-- `quote::is_same` meets its contract. Assumes nothing.
use Rattle.quote.proofs.Same.{same-eq}
use Rattle.quote.proofs.is_same.Goals as goal

pub returns : goal.returns
returns c = same-eq _ _ c.eq.ensures
