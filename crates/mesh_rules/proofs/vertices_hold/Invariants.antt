-- The loop of `mesh_rules::vertices_hold`: the vertices passed hold, and the total is that of their orbits, each below 2 ^ 32.
use Rattle.std.proofs.Common.{◌≡◌, ◌*◌, ◌≤◌, List, ℕ, T}
use Rattle.dcel.specs.Rows.{links_of}
use Rattle.mesh.specs.Mesh.{turn}
use Rattle.mesh_rules.specs.Holds.{vertex_holds}
use Rattle.sums.specs.Bounded.{all_below}
use Rattle.sums.specs.Orbits.{orbit_total}
use Rattle.mesh_rules.proofs.vertices_hold.Given as goal

abbrev pub invariant-loop-v : goal.invariant-loop-v
invariant-loop-v l = (l.total ≤ 4294967296 * l.v) × ((a : List ℕ) → T (all_below l.v (vertex_holds l.counts (links_of l.outs l.halves a))) × (l.total ≡ orbit_total (2 * l.counts.edges) (turn (links_of l.outs l.halves a)) (links_of l.outs l.halves a).out l.v))
