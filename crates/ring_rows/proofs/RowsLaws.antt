-- Laws of specs/Rows.antt.
use Rattle.std.specs.Prelude.{ℕ}
use Rattle.ring.specs.Node.{NodeTable}
use Rattle.ring_rows.specs.declared.Node.{Node}
use Rattle.ring_rows.specs.Rows.{angle_of, edge_of, left_of, right_node_of}

-- as the ring's theory has them
abbrev pub table_of : (ℕ → Node) → NodeTable
table_of t = record { left = left_of t; right = right_node_of t; angle = angle_of t; edge = edge_of t }
