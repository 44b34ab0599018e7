-- INSERT: after the local change of the boundary, and a few stores, the nodes stand for the boundary again, and each
-- bucket that the code's two loops leave has the node that holds its point. Assumes nothing.
use Rattle.std.specs.Prelude.{◌≡◌, refl, ◌≢◌, Bool, true, false, ℕ, zero, suc, ◌+◌, ◌-◌, ◌*◌, ◌%◌, ◌<◌, ◌≤◌}
use Rattle.std.proofs.Math.Path.{sym, ap}
use Rattle.std.proofs.Common.{◌∙◌, ap₂, subst}
use Rattle.std.proofs.Math.Decide.{ℕ_discrete, dec_lt}
use native.Mathlib.Omega.{arith}
use Rattle.std.proofs.Math.Dec.{T}
use Rattle.segment.specs.Arc.{holds, wide}
use Rattle.ring.specs.Ring.{at_ends, proper}
use Rattle.ring.specs.Splice.{Spliced, FitSplice}
use Rattle.ring.specs.Buckets.{ceiling, within, Sized}
use Rattle.ring.specs.Node.{NodeTable, nodes, Match, Kept}
use Rattle.ring.specs.Insert.{Ring, On, Bucketed, Insertion, rest_node}
use Rattle.sums.specs.Bit.{bit}
use Rattle.sums.proofs.BitLaws.{bit-0, bit-1, bit-yes}
use Rattle.sums.specs.Iterate.{iter}
use Rattle.sums.proofs.IterateLaws.{iter-add, iter-ext, iter-last}
use Rattle.sums.specs.Tally.{tally, walk}

-- The tables before and after. The k nodes of the rest stay; the new node has the edge p and the angle q; before it
-- stands the start, which has the edge l where the left angle `al` is not q, and is the new node itself where it is.
pub record Inserted (τ τ' : NodeTable) (x : Insertion) (k l p q al : ℕ) : Type 0 where
  pub edge-rest : (j : ℕ) → j < k → τ'.edge (rest_node τ x j) ≡ τ.edge (rest_node τ x j)
  pub angle-rest : (j : ℕ) → j < k → τ'.angle (rest_node τ x j) ≡ τ.angle (rest_node τ x j)
  pub right-rest : (j : ℕ) → suc j < k → τ'.right (rest_node τ x j) ≡ τ.right (rest_node τ x j)
  pub right-last : (j : ℕ) → suc j ≡ k → τ'.right (rest_node τ x j) ≡ x.start
  pub new-edge : τ'.edge x.new ≡ p
  pub new-angle : τ'.angle x.new ≡ q
  pub new-right : τ'.right x.new ≡ x.right
  pub start-goes : al ≡ q → x.start ≡ x.new
  pub start-edge : al ≢ q → τ'.edge x.start ≡ l
  pub start-angle : al ≢ q → τ'.angle x.start ≡ al
  pub start_right : al ≢ q → τ'.right x.start ≡ x.new

-- what two loops over buckets store: a from L to Q, then v from Q to R
pub record Rebucketed (bucket bucket' : ℕ → ℕ) (B L Q R a v : ℕ) : Type 0 where
  pub new : (i : ℕ) → i < B → T (within i Q R) → bucket' i ≡ v
  pub left : (i : ℕ) → i < B → bit (within i Q R) ≡ 0 → T (within i L Q) → bucket' i ≡ a
  pub old : (i : ℕ) → i < B → bit (within i Q R) ≡ 0 → bit (within i L Q) ≡ 0 → bucket' i ≡ bucket i
