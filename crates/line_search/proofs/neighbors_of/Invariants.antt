-- The loop of `line_search::neighbors_of`.
use Rattle.line_search.specs.Narrowing.{Narrowed}
use Rattle.line_search.proofs.neighbors_of.Given as goal

abbrev pub invariant-loop-v : goal.invariant-loop-v
invariant-loop-v l = Narrowed l.positions l.point l.v-end l.before l.after l.low l.high l.v
