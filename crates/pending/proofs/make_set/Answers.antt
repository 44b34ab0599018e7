-- `pending::make_set` meets its contract. Assumes nothing.
use Rattle.pending.proofs.SetLaws.{marks-start, pushed-by, holds_kept, set-made}
use borrow.Author.Tests.{not-false}
use mathlib.Core.Path.{◌∙◌}
use native.Mathlib.Omega.{arith}
use borrow.Author.Rules.{rules}
use Rattle.pending.proofs.make_set.Goals as goal

pub returns-then-words-pending : goal.returns-then-words-pending
returns-then-words-pending c = let z = c.list_of-none in pushed-by (λ l H. H) z.ensures.0 z.ensures.1

pub returns-then-n-from : goal.returns-then-n-from
returns-then-n-from c = let z = c.list_of-none in pushed-by (λ l H. H) z.ensures.0 z.ensures.1

pub mark_entries-requires : goal.mark_entries-requires
mark_entries-requires c = (marks-start {edges = c.args.edges} c.clear_words.ensures (search rules) (omega arith)).0

pub returns-then-not-mark_entries : goal.returns-then-not-mark_entries
returns-then-not-mark_entries c = let k = marks-start {edges = c.args.edges} c.clear_words.ensures (search rules) (omega arith) in
    let z = c.list_of-none in
    pushed-by (holds_kept (omega arith) (omega arith) (c.mark_entries.ensures.0 ∙ k.1)) z.ensures.0 z.ensures.1

pub returns : goal.returns
returns c = let k = marks-start {edges = c.args.edges} c.clear_words.ensures (search rules) (omega arith) in
    set-made (omega arith) (c.mark_entries.ensures.0 ∙ k.1) (c.mark_entries.ensures.1 (not-false _ c.if-not-mark_entries.false-raw))
