-- `walks::extend` meets its contract. Assumes nothing.
use mathlib.Core.Bool.{not}
use mathlib.Core.Path.{refl, ap}
use Prim.Native.Nat.{ℕ, ◌+◌}
use native.Mathlib.Omega.{arith}
use Rattle.sums.proofs.BitLaws.{bit_le}
use Rattle.walks.proofs.Tests.{counted}
use Rattle.walks.proofs.extend.Goals as goal

pub overflow_add-result-2 : goal.overflow_add-result-2
overflow_add-result-2 c =
    let P = c.requires in let f = P.few in let g = P.fits in let e = c.from.ensures in let m = bit_le (not c.equal-has_node.result) in
    record { fits = omega arith }

pub returns : goal.returns
returns c =
    record {
      count = refl;
      nodes = counted _ _ _ c.equal-has_node.ensures (ap (λ (k : ℕ). c.args.end.nodes + k) c.from.ensures);
      vertex = c.boundary_vertex-vertex.ensures;
    }
