-- NODES: a list of nodes, linked by `right`, stands for a round of boundary edges, linked by `next`: one node for each
-- proper edge, in the same order. A node's segment goes from its angle to its right node's. The nodes' counts are then
-- the edges' counts, so the one ring is sound where the other is. Assumes nothing.
use Rattle.std.specs.Prelude.{◌≡◌, ◌≢◌, Bool, []}
use Rattle.std.proofs.Math.Path.{refl, sym, ap, ap₂, subst}
use Rattle.std.proofs.Common.{◌∙◌, suc-add, zero-add}
use Rattle.std.proofs.Math.Bool.{true, false}
use Prim.Native.Nat.{ℕ, zero, suc, ◌+◌, ◌<◌, ◌≤◌}
use native.Mathlib.Omega.{arith}
use Rattle.std.proofs.Math.Dec.{T}
use Rattle.ring.specs.Ring.{at_ends, proper}
use Rattle.sums.specs.Bit.{bit}
use Rattle.sums.proofs.BitLaws.{Tells}
use Rattle.sums.specs.Iterate.{iter}
use Rattle.sums.proofs.IterateLaws.{iter-add, iter-ext}
use Rattle.sums.specs.Tally.{tally, walk}
use Rattle.sums.proofs.TallyLaws.{tally-before, tally-ext, walk-ext}

-- the nodes' fields, each by the number of a node
pub record NodeTable : Type 0 where
  pub left : ℕ → ℕ
  pub right : ℕ → ℕ
  pub angle : ℕ → ℕ
  pub edge : ℕ → ℕ

-- how many nodes h edges from e on have
abbrev pub nodes : (ℕ → ℕ) → (ℕ → ℕ) → ℕ → ℕ → ℕ
nodes next α h e = tally (at_ends proper next α) (walk h next e)

-- the nodes from s on stand for the h edges from e on
unfoldable pub Match : (ℕ → ℕ) → (ℕ → ℕ) → NodeTable → ℕ → ℕ → ℕ → Type 0
Match next α τ zero e s = Unit {0}
Match next α τ (suc h) e s = (T (at_ends proper next α e) → (τ.edge s ≡ e) × (τ.angle s ≡ α e))
    × Match next α τ h (next e) (iter (bit (at_ends proper next α e)) τ.right s)

-- n edges from r on, and the nodes from t on that stand for them, are in the tables after as they were before
pub record Kept (next α : ℕ → ℕ) (τ : NodeTable) (next' α' : ℕ → ℕ) (τ' : NodeTable) (n r t : ℕ) : Type 0 where
  pub from : (k : ℕ) → k < n → α' (iter k next r) ≡ α (iter k next r)
  pub to : (k : ℕ) → k < n → α' (next' (iter k next r)) ≡ α (next (iter k next r))
  pub step : (k : ℕ) → suc k < n → next' (iter k next r) ≡ next (iter k next r)
  pub edge_same : (j : ℕ) → j < nodes next α n r → τ'.edge (iter j τ.right t) ≡ τ.edge (iter j τ.right t)
  pub angle-same : (j : ℕ) → j < nodes next α n r → τ'.angle (iter j τ.right t) ≡ τ.angle (iter j τ.right t)
  pub right-same : (j : ℕ) → suc j < nodes next α n r → τ'.right (iter j τ.right t) ≡ τ.right (iter j τ.right t)
