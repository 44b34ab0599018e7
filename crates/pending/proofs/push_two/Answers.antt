-- `pending::push_two` meets its contract. Assumes nothing.
use Rattle.pending.proofs.push_two.Goals as goal

pub returns : goal.returns
returns c = let p = c.prepare-l0.ensures in let q = c.push_if_not_contained-l1.ensures in let r = c.push_if_not_contained.ensures in
    record { list = λ l H. r.list _ (q.list _ (p.list l H)); set = r.set }
