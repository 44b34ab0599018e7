-- `ring_rows::walk_left` meets its contract. Assumes nothing.
use mathlib.Core.Path.{subst}
use Rattle.std.proofs.lemmas.Option.{same_Some}
use Rattle.ring_rows.specs.Find.{NodeAt}
use Rattle.ring_rows.proofs.Finding.{in-use-on}
use Rattle.ring_rows.proofs.WalkLeft.{again, there, asks-equal, met}
use Rattle.ring_rows.proofs.walk_left.Goals as goal

pub load-node-requires : goal.load-node-requires
load-node-requires c =
    let P = c.requires in
    there P.to-find (c.loop.invariant _ _ P.to-find (in-use-on P.to-find c.if-not-is_in_ring.ensures)) P.is-angle

pub equal-requires : goal.equal-requires
equal-requires c =
    let P = c.requires in
    asks-equal P.to-find (c.loop.invariant _ _ P.to-find (in-use-on P.to-find c.if-not-is_in_ring.ensures)) P.is-angle c.load-node.ensures

pub returns-then-equal : goal.returns-then-equal
returns-then-equal c b F i z =
    let P = c.requires in
    subst (NodeAt _ _ _ _) (same_Some _ _ z)
    (met F (c.loop.invariant _ _ F (in-use-on F c.if-not-is_in_ring.ensures)) P.is-angle c.load-node.ensures c.equal.ensures c.if-equal.true)

pub loop-preserved : goal.loop-preserved
loop-preserved c = again c.loop.invariant c.load-node.ensures
