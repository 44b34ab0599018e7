-- `line_operations::setup_initial_two_vertices` meets its contract. Assumes nothing.
use Rattle.line_operations.proofs.Stored.{initial}
use Rattle.line_operations.proofs.setup_initial_two_vertices.Goals as goal

pub returns : goal.returns
returns c =
    initial _ _ _ _ _ _ _ _ _ c.set_edge.ensures c.store.ensures c.store-2.ensures c.store-3.ensures
