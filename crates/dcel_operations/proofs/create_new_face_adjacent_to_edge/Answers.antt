-- `dcel_operations::create_new_face_adjacent_to_edge` meets its contract. Assumes nothing.
use native.Mathlib.Omega.{arith}
use mathlib.Core.Path.{refl}
use Rattle.dcel_operations.proofs.Stored.{new-face}
use Rattle.dcel_operations.proofs.create_new_face_adjacent_to_edge.Goals as goal

pub store-requires-2 : goal.store-requires-2
store-requires-2 c = omega (arith, c.requires)

pub store-requires-3 : goal.store-requires-3
store-requires-3 c = omega (arith, c.store-2.auto.row, c.half_edge-entry.ensures, c.requires)

pub returns : goal.returns
returns c =
    record {
      links = new-face _ _ _ _ _ _ _ _ _ _ c.half_edge-entry.ensures c.to-to.ensures c.new_edges.ensures c.new_links.ensures c.store.ensures c.store-2.ensures c.store-3.ensures;
      result = refl;
    }
