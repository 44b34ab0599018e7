-- The loop of `search::search_from`.
use Rattle.search.specs.Searching.{Searching}
use Rattle.search.proofs.search_from.Given as goal

abbrev pub invariant-loop : goal.invariant-loop
invariant-loop l = Searching l.positions l.halves l.point l.initial.current l.end l.current l.counter
