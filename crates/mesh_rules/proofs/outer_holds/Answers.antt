-- `mesh_rules::outer_holds` meets its contract. Assumes nothing.
use Rattle.std.proofs.Common.{arith}
use Rattle.mesh_rules.proofs.Passed.{swept-next}
use Rattle.mesh_rules.proofs.outer_holds.Goals as goal

pub next-requires : goal.next-requires
next-requires c = let l = swept-next c.requires.0 c.if-a-counts.false in let q = c.half_edge-w.ensures.next in omega arith
