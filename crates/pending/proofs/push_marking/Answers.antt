-- `pending::push_marking` meets its contract. Assumes nothing.
use Rattle.pending.proofs.SetLaws.{bit_in, pushed-by, set_room, set_there, set-given-up, push-bit}
use mathlib.Core.Path.{sym, ◌∙◌}
use Rattle.pending.proofs.push_marking.Goals as goal

pub returns-then-x-edges : goal.returns-then-x-edges
returns-then-x-edges c = c.push_looking.ensures _

pub is_marked-requires : goal.is_marked-requires
is_marked-requires c = bit_in c.requires c.if-x-edges.false

pub returns-then-is_marked : goal.returns-then-is_marked
returns-then-is_marked c = set_there c.args.list c.requires _ c.if-x-edges.false (sym c.is_marked.ensures ∙ c.if-is_marked.true)

pub overflow_sub-pending : goal.overflow_sub-pending
overflow_sub-pending c = set_room c.args.list c.requires

pub returns-then-pending-n : goal.returns-then-pending-n
returns-then-pending-n c = set-given-up c.args.list c.requires _ c.if-x-edges.false (sym c.is_marked.ensures ∙ c.if-is_marked.false)
    (pushed-by c.push.ensures c.list_of.ensures.0 c.list_of.ensures.1)

pub mark-requires : goal.mark-requires
mark-requires c = (bit_in c.requires c.if-x-edges.false, (sym c.is_marked.ensures ∙ c.if-is_marked.false))

pub returns : goal.returns
returns c = push-bit c.args.list c.requires _ c.if-x-edges.false (sym c.is_marked.ensures ∙ c.if-is_marked.false) (rw c.set_words.ensures at c.if-pending-n.false) c.mark.ensures
