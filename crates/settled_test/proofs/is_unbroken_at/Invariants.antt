-- The loop of `settled_test::is_unbroken_at`.
use Rattle.settled_test.specs.Spoke.{SpokeOf}
use Rattle.settled_test.specs.StarLaws.{Passed}
use Rattle.settled_test.proofs.is_unbroken_at.Given as goal

abbrev pub invariant-loop : goal.invariant-loop
invariant-loop l =
    Passed l.positions l.outs l.halves l.faces l.start l.at.e × SpokeOf l.positions l.halves l.v l.at
