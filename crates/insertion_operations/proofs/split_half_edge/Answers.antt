-- `insertion_operations::split_half_edge` meets its contract. Assumes nothing.
use mathlib.Core.Path.{refl}
use Rattle.insertion_operations.proofs.Stored.{half-edge-split}
use Rattle.insertion_operations.proofs.split_half_edge.Goals as goal

pub store-requires : goal.store-requires
store-requires c = c.requires.based

pub store-requires-3 : goal.store-requires-3
store-requires-3 c = c.requires.stored

pub returns : goal.returns
returns c = record {
  links = half-edge-split _ _ _ _ _ _ _ _ _ _ _ _ _ c.rev-t.ensures c.half_edge-x.ensures c.half_edge-y.ensures c.origin-c.ensures
      c.half_edges.ensures c.half_links.ensures c.store.ensures c.store-2.ensures c.store-3.ensures c.store-4.ensures;
  result = refl;
}
