-- `ring_insert::get_next_index` meets its contract. Assumes nothing.
use native.Mathlib.Omega.{arith}
use Rattle.ring_insert.proofs.Freeing.{take_next, take-top}
use Rattle.ring_insert.proofs.get_next_index.Goals as goal

pub returns-in-Some : goal.returns-in-Some
returns-in-Some c = take-top _ c.in-Some.ensures

pub returns-in-None : goal.returns-in-None
returns-in-None c = take_next (let h = c.in-None.ensures in omega arith)
