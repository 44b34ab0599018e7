-- THE WHOLE INSERT, from what its parts store to what a run carries: the hull, and the stack of freed nodes. Assumes nothing.
use Rattle.std.specs.Prelude.{◌≡◌, refl, ◌≢◌, ◌⊎◌, Bool, true, false, cond, ℕ, suc, ◌+◌, ◌-◌, ◌%◌, ◌<◌, ◌≤◌, T}
use Rattle.std.proofs.Common.{sym, ◌∙◌, ap, subst, inl, inr, arith}
use Rattle.std.proofs.Math.Decide.{ℕ_discrete}
use Rattle.ring.specs.Ring.{proper}
use Rattle.ring.specs.Splice.{FitSplice}
use Rattle.ring.specs.Buckets.{ceiling, within}
use Rattle.ring.specs.Node.{NodeTable, nodes}
use Rattle.ring.specs.Insert.{On, Insertion, Named, Stay}
use Rattle.ring.specs.Inserted.{Rebucketed}
use Rattle.ring.specs.Stores.{Before}
use Rattle.ring.specs.Free.{Free, free-same, Pushed, pushed, Taken}
use Rattle.ring.specs.Hull.{HullFrom}
use Rattle.sums.specs.Bit.{bit}
use Rattle.sums.specs.Iterate.{iter}

-- ---- what the parts do before the stores
-- the nodes have their names, and the left one is on the stack if it goes: the stack has n entries before and n' after
pub record Names (τ : NodeTable) (x : Insertion) (freed freed' : ℕ → ℕ) (al q n n' : ℕ) : Type 0 where
  pub named : Named τ x al q
  pub stack : (j : ℕ) → j < n → freed' j ≡ freed j
  pub more : al ≡ q → (n' ≡ suc n) × (freed' n ≡ x.left)
  pub same : al ≢ q → n' ≡ n

-- a stack of freed nodes: its entries, how many there are, and how many nodes were ever in use
pub record Stack : Type 0 where
  pub entry : ℕ → ℕ
  pub count : ℕ
  pub used : ℕ

-- In a ring of `all` nodes, `chain` of which stand for the edges that give way: those strictly between the left node and
-- the right one are pushed, and a node is taken for the new one
pub record InsertParts (τ : NodeTable) (x : Insertion) (S S' : Stack) (chain all al q : ℕ) : Type 0 where
  pub right_is : iter chain τ.right x.left ≡ x.right
  pub free : Free (On τ.right all x.left) S.entry S.count S.used
  pub between : ℕ → ℕ
  pub pushed-between : Pushed τ.right S.entry between x.left chain S.count
  pub left_over : ℕ
  pub taken-new : Taken between (S.count + (chain - 1)) S.used x.new left_over S'.used
  pub names : Names τ x between S'.entry al q left_over S'.count
