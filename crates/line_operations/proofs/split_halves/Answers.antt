-- `line_operations::split_halves` meets its contract. Assumes nothing.
use native.Mathlib.Omega.{arith}
use Rattle.line_operations.proofs.Stored.{next-there, prev-there, halves-split}
use Rattle.line_operations.proofs.split_halves.Goals as goal

pub new_edge-requires : goal.new_edge-requires
new_edge-requires c =
    let R = c.requires in
    let k₁ = c.set_next.auto.halves in
    let k₂ = c.set_prev.auto.halves in
    let k₃ = c.set_origin.auto.halves in
    let a = next-there R c.half_edge-x.ensures in
    let b = prev-there R c.rev-t.ensures c.half_edge-y.ensures in
    (R.edges, omega (arith, R.added, k₁, k₂, k₃), omega (arith, a, k₁, k₂, k₃), omega (arith, b, k₁, k₂, k₃))

pub returns : goal.returns
returns c =
    halves-split _ _ _ _ _ _ _ _ _ c.rev-t.ensures c.half_edge-x.ensures c.half_edge-y.ensures
    c.set_next.ensures c.set_prev.ensures c.set_origin.ensures c.new_edge.ensures
