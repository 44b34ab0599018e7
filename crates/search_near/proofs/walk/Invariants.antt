-- The loop of `search_near::walk`.
use Rattle.search_near.specs.NearRows.{FacingReady}
use Rattle.search_near.proofs.walk.Given as goal

abbrev pub invariant-loop : goal.invariant-loop
invariant-loop l = FacingReady l.counts l.positions l.outs l.halves l.faces l.point l.at
