-- `mesh_rules::half_edge_holds` meets its contract. Assumes nothing.
use Rattle.std.proofs.Common.{sym, ◌∙◌, arith}
use Rattle.sums.proofs.HalfLaws.{rev-below}
use Rattle.mesh_rules.proofs.Tests.{half-unused, half-unlinked, half-linked}
use Rattle.mesh_rules.proofs.half_edge_holds.Goals as goal

pub returns-then-not-in_use : goal.returns-then-not-in_use
returns-then-not-in_use c = λ o a. half-unused _ o _ a c.half_edge-w.ensures (sym c.in_use.ensures ∙ c.if-not-in_use.true)

pub half_edge-other-requires : goal.half_edge-other-requires
half_edge-other-requires c = let r = rev-below c.args.counts.edges c.requires.1 in let q = c.rev.ensures in omega arith

pub returns-then-is_linked : goal.returns-then-is_linked
returns-then-is_linked c = λ o a.
    c.has_side.ensures
    ∙ half-linked _ o _ a c.half_edge-w.ensures (sym c.in_use.ensures ∙ c.if-not-in_use.false) c.half_edge-after.ensures c.next-back.ensures
    c.rev.ensures c.half_edge-other.ensures (sym c.is_linked.ensures ∙ c.if-is_linked.true)

pub returns-else-is_linked : goal.returns-else-is_linked
returns-else-is_linked c = λ o a.
    c.if-is_linked.false
    ∙ half-unlinked _ o _ a c.half_edge-w.ensures (sym c.in_use.ensures ∙ c.if-not-in_use.false) c.half_edge-after.ensures c.next-back.ensures
    c.rev.ensures c.half_edge-other.ensures (sym c.is_linked.ensures ∙ c.if-is_linked.false)
