-- The loop of `pending::mark_entries`.
use Rattle.pending.specs.Set.{MarkedTo}
use Rattle.pending.proofs.mark_entries.Given as goal

abbrev pub invariant-loop-i : goal.invariant-loop-i
invariant-loop-i l = MarkedTo l.initial.pending l.pending l.i l.n l.edges
