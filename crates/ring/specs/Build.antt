-- BUILD: nodes numbered from 0 in the order of the boundary's proper edges stand for it; and buckets filled node by
-- node have, in the end, each the node that holds its point. Assumes nothing.
use Rattle.std.specs.Prelude.{◌≡◌, Bool, true, false, cond}
use Rattle.std.proofs.Math.Path.{refl, sym, ap, subst}
use Rattle.std.proofs.Common.{◌∙◌, arith}
use Prim.Native.Nat.{ℕ, zero, suc, ◌*◌, ◌%◌, ◌<◌, ◌≤◌}
use Rattle.std.proofs.Math.Decide.{ℕ_discrete, dec_lt}
use Rattle.std.proofs.Math.Dec.{T}
use Rattle.segment.specs.Arc.{holds, wide}
use Rattle.ring.specs.Ring.{at_ends, proper}
use Rattle.ring.specs.Sound.{Sound}
use Rattle.ring.specs.Buckets.{ceiling, within, Sized, NarrowSegment}
use Rattle.ring.specs.Node.{NodeTable, nodes}
use Rattle.ring.specs.Insert.{Ring, Bucketed}
use Rattle.sums.specs.Iterate.{iter}
use Rattle.sums.proofs.IterateLaws.{iter-last}
use Rattle.sums.specs.Tally.{tally, walk}
use Rattle.sums.proofs.TallyLaws.{counts, tally-before}

-- m nodes, for h edges from e on
pub record Built (next α : ℕ → ℕ) (τ : NodeTable) (e h m : ℕ) : Type 0 where
  pub size : nodes next α h e ≡ m
  pub at : (k : ℕ) → k < h → T (at_ends proper next α (iter k next e))
      → (τ.edge (nodes next α k e) ≡ iter k next e) × (τ.angle (nodes next α k e) ≡ α (iter k next e))
  pub step : (i : ℕ) → suc i < m → τ.right i ≡ suc i
  pub turn : (i : ℕ) → suc i ≡ m → τ.right i ≡ 0

-- ---- buckets from nothing: d nodes are done
unfoldable pub Filling : (ℕ → ℕ) → (ℕ → ℕ) → (ℕ → ℕ) → ℕ → ℕ → ℕ → ℕ → Type 0
Filling right angle bucket B w s d =
    (i : ℕ) → i < B → (k : ℕ) → k < d
    → T (within i (ceiling w (angle (iter k right s)) % B) (ceiling w (angle (right (iter k right s))) % B))
    → bucket i ≡ iter k right s
