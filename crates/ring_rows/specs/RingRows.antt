-- The ring's rows in one record, as the calls' definitions take them. Definitions only.
use Rattle.std.specs.Prelude.{ℕ, List, length, replicate}
use Rattle.ring_rows.specs.declared.Node.{Node}
use Rattle.ring_rows.specs.Rows.{zero_node}

pub record RingRows : Type 0 where
  pub nodes : List Node
  pub freed : List ℕ
  pub buckets : List ℕ

abbrev pub ring_rows : List Node → List ℕ → List ℕ → RingRows
ring_rows nodes freed buckets = record { nodes = nodes; freed = freed; buckets = buckets }

-- 01: "After 9 and after every accepted call the ring, freed, bucket .. rows hold zeros"
unfoldable pub ring_zeros : RingRows → RingRows
ring_zeros r = record {
  nodes = replicate (length r.nodes) zero_node;
  freed = replicate (length r.freed) 0;
  buckets = replicate (length r.buckets) 0;
}
