-- `pending::push_if_not_contained` meets its contract. Assumes nothing.
use Rattle.pending.proofs.push_if_not_contained.Goals as goal

pub push_marking-requires : goal.push_marking-requires
push_marking-requires c = c.requires c.if-list.true

pub returns-then-list : goal.returns-then-list
returns-then-list c = c.push_marking.ensures

pub returns : goal.returns
returns c = c.push_looking.ensures _
