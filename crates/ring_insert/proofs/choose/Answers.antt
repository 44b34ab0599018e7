-- `ring_insert::choose` meets its contract. Assumes nothing.
use native.Mathlib.Omega.{arith}
use Rattle.ring_insert.proofs.Freeing.{taken-le}
use Rattle.ring_insert.proofs.Inserting.{top-less, chosen-goes}
use Rattle.ring_insert.proofs.choose.Goals as goal

pub bounds-freed-vacant : goal.bounds-freed-vacant
bounds-freed-vacant c = let P = c.requires in let l = top-less P.release c.release-gone.ensures in let k = c.release-gone.auto.freed in let m = P.release.freed-room in let n = taken-le c.get_next_index-vacant.ensures in omega arith

pub overflow_add-result : goal.overflow_add-result
overflow_add-result c = let P = c.requires in let l = top-less P.release c.release-gone.ensures in let m = P.release.small in let n = taken-le c.get_next_index-vacant.ensures in record { fits = omega arith }

pub returns : goal.returns
returns c =
    let P = c.requires in
    let a = top-less P.release c.release-gone.ensures in let k = c.release-gone.auto.freed in let m = P.release.freed-room in let n = taken-le c.get_next_index-vacant.ensures in
    chosen-goes c.release-gone.ensures c.get_next_index-vacant.ensures c.if-not-goes.false (omega arith) c.load.ensures
