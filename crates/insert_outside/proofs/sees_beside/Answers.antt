-- `insert_outside::sees_beside` meets its contract. Assumes nothing.
use borrow.Author.Rules.{rules}
use Rattle.insert_outside.proofs.Sight.{sight-refused, sight-told}
use Rattle.insert_outside.proofs.sees_beside.Goals as goal

pub returns-then-walked : goal.returns-then-walked
returns-then-walked c = sight-refused _ _ _ _ _ c.if-walked.true

pub sees_edge-requires : goal.sees_edge-requires
sees_edge-requires c = rw c.beside-d.ensures c.requires.sight

pub returns : goal.returns
returns c = sight-told _ _ _ _ _ c.if-walked.false c.beside-d.ensures c.sees_edge.ensures
