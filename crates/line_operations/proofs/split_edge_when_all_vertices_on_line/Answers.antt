-- `line_operations::split_edge_when_all_vertices_on_line` meets its contract. Assumes nothing.
use mathlib.Core.Path.{refl}
use Rattle.line_operations.proofs.Stored.{split}
use Rattle.line_operations.proofs.split_edge_when_all_vertices_on_line.Goals as goal

pub returns : goal.returns
returns c =
    record { links = λ a. split _ _ _ a _ _ _ _ _ c.split_halves-to.ensures c.store.ensures c.store-2.ensures; result = refl }
