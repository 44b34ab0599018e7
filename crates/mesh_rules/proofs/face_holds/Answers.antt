-- `mesh_rules::face_holds` meets its contract. Assumes nothing.
use Rattle.std.proofs.Common.{arith}
use Rattle.mesh_rules.proofs.Passed.{swept-next}
use Rattle.mesh_rules.proofs.face_holds.Goals as goal

pub next-requires : goal.next-requires
next-requires c = let l = swept-next c.requires.0 c.if-a-counts.false in let q = c.half_edge-w.ensures.next in omega arith

pub next-requires-then-w-a : goal.next-requires-then-w-a
next-requires-then-w-a c = let l = swept-next c.requires.0 c.if-a-counts.false in let q = c.half_edge-w.ensures.next in let m = swept-next c.requires.0 {e = c.half_edge-w.result.next} (omega arith) in let r = c.next.ensures in omega arith
