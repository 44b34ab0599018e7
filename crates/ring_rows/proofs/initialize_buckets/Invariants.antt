-- The loop of `ring_rows::initialize_buckets`.
use Rattle.ring_rows.proofs.Filling.{Going}
use Rattle.ring_rows.proofs.initialize_buckets.Given as goal

abbrev pub invariant-loop : goal.invariant-loop
invariant-loop l = Going l.nodes l.initial.buckets l.buckets l.count l.start l.size l.i l.counter
