-- The stores of an insert as one definition, `stored`. They make the tables that `Inserted` asks for, and keep the links
-- to the left. Assumes nothing.
use Rattle.std.specs.Prelude.{◌≡◌, refl, ◌≢◌, Bool, cond, ℕ, zero, suc, ◌+◌, ◌-◌, ◌<◌, eqb}
use Rattle.std.proofs.Common.{sym, ◌∙◌, ap, subst, inl, inr, arith, eq-eqb, ne_eqb}
use Rattle.std.proofs.Math.Decide.{ℕ_discrete, dec_lt}
use Rattle.ring.specs.Node.{NodeTable}
use Rattle.ring.specs.Insert.{Insertion, Named, Stay, rest_node}
use Rattle.ring.specs.Inserted.{Inserted}
use Rattle.sums.specs.Iterate.{iter}
use Rattle.sums.proofs.IterateLaws.{iter-add, iter-ext, iter-last}
use Rattle.sums.specs.Put.{put}
use Rattle.sums.proofs.PutLaws.{put_same, put_other}

-- each of the n nodes from s on is what its right node has on its left
abbrev pub Linked : NodeTable → ℕ → ℕ → Type 0
Linked τ s n = (i : ℕ) → i < n → τ.left (τ.right (iter i τ.right s)) ≡ iter i τ.right s

-- Before the stores: c nodes on from the left one is the right one, and k nodes on from there the left one again; the
-- new node is none of those that stay
pub record Before (τ : NodeTable) (x : Insertion) (c k al q : ℕ) : Type 0 where
  pub some : 0 < c
  pub more : 0 < k
  pub right_is : iter c τ.right x.left ≡ x.right
  pub round : rest_node τ x k ≡ x.left
  pub apart : (i j : ℕ) → i < c + k → j < c + k → iter i τ.right x.left ≡ iter j τ.right x.left → i ≡ j
  pub links : Linked τ x.left (c + k)
  pub fresh : (y : ℕ) → Stay τ x k y → y ≢ x.new
  pub named : Named τ x al q
