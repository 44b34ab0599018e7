-- RINGS OF NODES, and what is known before an insert: the linked nodes stand for a sound boundary, so that angles name
-- nodes, and the nodes at the two ends of the chain that gives way are found by their angles. Assumes nothing.
use Rattle.std.specs.Prelude.{◌≡◌, refl, ◌≢◌, ◌⊎◌, Bool, [], ℕ, zero, suc, ◌+◌, ◌*◌, ◌<◌, ◌≤◌, T}
use Rattle.std.proofs.Common.{sym, ◌∙◌, ap, subst, arith}
use Rattle.segment.specs.Arc.{holds, wide}
use Rattle.ring.specs.Ring.{at_ends, proper, wraps}
use Rattle.ring.specs.Sound.{Sound}
use Rattle.ring.specs.Splice.{FitSplice}
use Rattle.ring.specs.Node.{NodeTable, nodes, Match}
use Rattle.sums.specs.Bit.{bit}
use Rattle.sums.proofs.BitLaws.{bit-1, bit_le}
use Rattle.sums.specs.Iterate.{iter}
use Rattle.sums.proofs.IterateLaws.{iter-add}
use Rattle.sums.specs.Tally.{tally, walk}
use Rattle.sums.proofs.TallyLaws.{counts, tally-add, tally-most, tally-turn}

-- a sound boundary of h edges from e on, and the nodes from s on that stand for it
pub record Ring (N : ℕ) (next α : ℕ → ℕ) (τ : NodeTable) (e h s : ℕ) : Type 0 where
  pub sound : Sound N next α e h
  pub match : Match next α τ h e s
  pub back : iter (nodes next α h e) τ.right s ≡ s

-- ---- buckets
-- x is one of the m nodes from s on
abbrev pub On : (ℕ → ℕ) → ℕ → ℕ → ℕ → Type 0
On right m s x = (k : ℕ) × (k < m) × (iter k right s ≡ x)

-- each of the B buckets has a node of the ring that holds its point
abbrev pub Bucketed : (ℕ → ℕ) → (ℕ → ℕ) → (ℕ → ℕ) → ℕ → ℕ → ℕ → ℕ → Type 0
Bucketed right angle bucket B w s m =
    (i : ℕ) → i < B → On right m s (bucket i) × T (at_ends (holds (i * w)) right angle (bucket i))

-- ---- the nodes of an insert
-- The left node and the right one, at the two ends of the chain; the new one; the one before it; and the one that starts
-- the new ring: the left node, or the new one where it takes the left one's place.
pub record Insertion : Type 0 where
  pub left : ℕ
  pub right : ℕ
  pub new : ℕ
  pub before : ℕ
  pub start : ℕ

-- the left node goes where its angle `al` is the new one, q
pub record Named (τ : NodeTable) (x : Insertion) (al q : ℕ) : Type 0 where
  pub before-stays : al ≢ q → x.before ≡ x.left
  pub before-goes : al ≡ q → x.before ≡ τ.left x.left
  pub start-stays : al ≢ q → x.start ≡ x.left
  pub start-goes : al ≡ q → x.start ≡ x.new

-- the rest: the nodes from the right one on, up to the left one
abbrev pub rest_node : NodeTable → Insertion → ℕ → ℕ
rest_node τ x j = iter j τ.right x.right

-- the nodes that are not between the left and the right one: the left one and the k of the rest
abbrev pub Stay : NodeTable → Insertion → ℕ → ℕ → Type 0
Stay τ x k y = (y ≡ x.left) ⊎ On τ.right k x.right y
