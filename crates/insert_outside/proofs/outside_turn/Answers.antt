-- `insert_outside::outside_turn` meets its contract. Assumes nothing.
use borrow.Author.Rules.{rules}
use Rattle.insert_outside.proofs.TurnRows.{cover-ready, turned-row}
use Rattle.insert_outside.proofs.outside_turn.Goals as goal

pub cover_edge-after-requires : goal.cover_edge-after-requires
cover_edge-after-requires c =
    cover-ready c.requires c.beside-d.ensures
    c.face_edge-at.ensures

pub returns : goal.returns
returns c =
    turned-row c.requires c.beside-d.ensures
    c.face_edge-at.ensures
    _ _ _ _ c.cover_edge-after.ensures
