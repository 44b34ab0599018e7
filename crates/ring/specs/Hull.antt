-- The whole of what a run carries: the nodes stand for the boundary, their links to the left, and the buckets. It does
-- not depend on the node that one starts from, an insert keeps it.
-- Assumes nothing.
use Rattle.std.specs.Prelude.{◌≡◌, refl, ◌≢◌, Bool, true, false, ℕ, zero, suc, ◌+◌, ◌-◌, ◌*◌, ◌/◌, ◌%◌, ◌<◌, ◌≤◌, T}
use Rattle.std.proofs.Common.{sym, ◌∙◌, subst, div-lt_iff_lt-mul, arith}
use Rattle.std.proofs.Math.Path.{ap}
use Rattle.std.proofs.Math.Decide.{ℕ_discrete, dec_lt}
use Rattle.segment.specs.Arc.{holds}
use Rattle.ring.specs.Ring.{at_ends, between, proper}
use Rattle.ring.specs.Sound.{Sound}
use Rattle.ring.specs.Splice.{FitSplice}
use Rattle.ring.specs.Buckets.{ceiling, Sized}
use Rattle.ring.specs.Node.{NodeTable, nodes}
use Rattle.ring.specs.Insert.{Ring, On, Bucketed}
use Rattle.ring.specs.Insert.{Insertion, Named, Stay}
use Rattle.ring.specs.Inserted.{Inserted, Rebucketed}
use Rattle.ring.specs.Locate.{angle_in}
use Rattle.ring.specs.Stores.{Linked, Before}
use Rattle.sums.specs.Bit.{bit}
use Rattle.sums.proofs.BitLaws.{bit-yes}
use Rattle.sums.specs.Iterate.{iter}
use Rattle.sums.proofs.IterateLaws.{iter-add, iter-ext, iter-last}
use Rattle.sums.specs.Tally.{First, tally, walk}
use Rattle.sums.proofs.TallyLaws.{tally-at, tally-turn}

-- ---- all together, from the edge e and its node s on: h edges, B buckets of the width w
pub record HullFrom (N : ℕ) (next α : ℕ → ℕ) (τ : NodeTable) (bucket : ℕ → ℕ) (e h s B w : ℕ) : Type 0 where
  pub ring : Ring N next α τ e h s
  pub links : Linked τ s (nodes next α h e)
  pub low : (k : ℕ) → k < h → α (iter k next e) ≤ N
  pub sized : Sized N B w
  pub buckets : Bucketed τ.right τ.angle bucket B w s (nodes next α h e)
