-- `line_operations::extend_line` meets its contract. Assumes nothing.
use native.Mathlib.Omega.{arith}
use mathlib.Core.Path.{refl}
use Rattle.line_operations.proofs.Stored.{in-edge-there, extended}
use Rattle.line_operations.proofs.extend_line.Goals as goal

pub set_next-requires : goal.set_next-requires
set_next-requires c =
    let R = c.requires in
    omega (arith, c.set_prev.auto.halves, in-edge-there R c.out-o.ensures c.rev-i.ensures)

pub returns : goal.returns
returns c =
    record {
      links = λ a. extended _ _ _ _ _ a _ _ _ _ _ _ c.out-o.ensures c.rev-i.ensures c.face-f.ensures c.set_prev.ensures
          c.set_next.ensures c.set_edge.ensures c.store.ensures;
      result = refl;
    }
