-- Freed nodes lose their edges: what `retire` asks and leaves. Definitions only.
use Rattle.std.specs.Prelude.{ℕ, ◌<◌, ◌≤◌, ◌≡◌, ◌≢◌, ◌⊎◌, List, length}
use Rattle.dcel.specs.Rows.{row_of}
use Rattle.ring_rows.specs.declared.Node.{Node}
use Rattle.ring_rows.specs.Rows.{edge_of, with_edge}
use Rattle.ring_rows.specs.Find.{no_edge}

-- the nodes on the stack from `from` up to `to` are in the row
pub record ToRetire (nodes : List Node) (freed : List ℕ) (from to : ℕ) : Type 0 where
  pub order : from ≤ to
  pub room : to ≤ length freed
  pub there : (k : ℕ) → from ≤ k → k < to → row_of freed k < length nodes

-- those have no edge, and all others are as they were
pub record Retired (t t' : ℕ → Node) (freed : ℕ → ℕ) (from to : ℕ) : Type 0 where
  pub each : (i : ℕ) → (t' i ≡ t i) ⊎ (t' i ≡ with_edge (t i) no_edge)
  pub gone : (k : ℕ) → from ≤ k → k < to → edge_of t' (freed k) ≡ no_edge
  pub others : (i : ℕ) → ((k : ℕ) → from ≤ k → k < to → freed k ≢ i) → t' i ≡ t i
