-- The loop of `legalize::legalize_entries`.
use Rattle.dcel.specs.Rows.{position_of}
use Rattle.legalize.specs.Legalize.{measure}
use Rattle.legalize.specs.LegalizeRows.{state_of}
use Rattle.legalize.proofs.Looping.{LoopAt}
use Rattle.legalize.proofs.legalize_entries.Given as goal

abbrev pub invariant-loop-counts : goal.invariant-loop-counts
invariant-loop-counts g l =
    let L = g.L.Entries in
    LoopAt L.kind l.counts l.positions l.initial.outs l.initial.halves l.initial.faces l.initial.pending (L.value l.initial.left) l.initial.made
    l.outs l.halves l.faces l.pending (L.value l.left) l.made

abbrev pub decreases-loop-counts : goal.decreases-loop-counts
decreases-loop-counts g l =
    measure l.counts (position_of l.positions) (state_of l.outs l.halves l.faces l.pending (g.L.Entries.value l.left).length l.made)
