-- `pending::mark_entries` meets its contract: entry after entry. Assumes nothing.
use mathlib.Core.Path.{sym, ◌∙◌}
use Rattle.pending.proofs.SetLaws.{marked_next}
use Rattle.pending.proofs.mark_entries.Goals as goal

pub loop-i-preserved : goal.loop-i-preserved
loop-i-preserved c = marked_next c.loop-i.invariant c.loop-i-test.true c.if-x-edges.false (sym c.is_marked.ensures ∙ c.if-is_marked.false) c.mark.ensures
