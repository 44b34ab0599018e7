-- `hull::from_triangulation` meets its contract. Assumes nothing.
use native.Mathlib.Omega.{arith}
use mathlib.Core.Path.{refl}
use Rattle.hull.proofs.Build.{size-three, to_fill}
use Rattle.hull.proofs.from_triangulation.Goals as goal

pub build_nodes-requires : goal.build_nodes-requires
build_nodes-requires c = let P = c.requires in (P.boundary, P.node-room, (let s = size-three P in omega arith))

pub initialize_buckets-requires : goal.initialize_buckets-requires
initialize_buckets-requires c = to_fill c.requires c.build_nodes.auto.nodes refl c.build_nodes.ensures
