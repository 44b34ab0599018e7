-- The loop of `circle_scan::read_fars`.
use Rattle.circle_scan.specs.ScanLaws.{Reading}
use Rattle.circle_scan.proofs.read_fars.Given as goal

abbrev pub invariant-loop-k : goal.invariant-loop-k
invariant-loop-k l = Reading l.halves l.e l.n l.initial.fars l.fars l.k
