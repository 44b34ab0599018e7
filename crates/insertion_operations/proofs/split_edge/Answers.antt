-- `insertion_operations::split_edge` meets its contract. Assumes nothing.
use mathlib.Core.Path.{refl}
use Rattle.insertion_operations.proofs.Stored.{prev-there, face-there, names_at, edge-split}
use Rattle.insertion_operations.proofs.split_edge.Goals as goal

pub origin-v2-requires : goal.origin-v2-requires
origin-v2-requires c = prev-there (names_at _ c.rev-t.ensures c.requires.right) c.half_edge-y.ensures

pub store-requires : goal.store-requires
store-requires c = c.requires.based

pub store-requires-3 : goal.store-requires-3
store-requires-3 c = face-there c.requires.left c.half_edge-x.ensures

pub returns : goal.returns
returns c = record {
  links = edge-split _ _ _ _ _ _ _ _ _ _ _ _ _ _ _ _ _ c.rev-t.ensures c.half_edge-x.ensures c.half_edge-y.ensures c.origin-v2.ensures c.origin-v4.ensures
      c.edge_first.ensures c.edge_second.ensures c.edge_links.ensures c.store.ensures c.store-2.ensures
      c.store-3.ensures c.store-4.ensures c.store-5.ensures c.store-6.ensures;
  result = refl;
}
