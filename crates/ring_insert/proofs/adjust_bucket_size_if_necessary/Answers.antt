-- `ring_insert::adjust_bucket_size_if_necessary` meets its contract. Assumes nothing.
use Rattle.dcel.specs.Rows.{row_of}
use Rattle.ring_insert.proofs.Freeing.{to-refill, adjusted}
use Rattle.ring_insert.proofs.adjust_bucket_size_if_necessary.Goals as goal

pub initialize_buckets-requires : goal.initialize_buckets-requires
unfolding row_of
initialize_buckets-requires c = to-refill _ c.size-size.ensures c.adjusted_buckets-count.ensures c.requires

pub returns : goal.returns
unfolding row_of
returns c = adjusted _ c.size-size.ensures c.adjusted_buckets-count.ensures c.initialize_buckets.ensures
