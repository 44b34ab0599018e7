-- `mesh_rules::faces_whole` meets its contract. Assumes nothing.
use Rattle.mesh_rules.proofs.Tests.{whole_is}
use Rattle.mesh_rules.proofs.faces_whole.Goals as goal

pub returns : goal.returns
returns c = λ o. whole_is _ o _ _ c.adjacent.ensures (c.cycle_length-boundary.ensures o _)
