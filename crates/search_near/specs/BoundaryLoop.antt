-- The loop along the boundary: the tests of its first corners, and how often a direction of the upper half-plane was followed by one of
-- the lower. Assumes nothing.
use Rattle.std.specs.Prelude.{List, ◌≡◌, ℕ, ◌<◌, ◌≤◌, ℤ}
use Rattle.std.proofs.Math.Dec.{T}
use Rattle.dcel.specs.Rows.{links_of, position_of}
use Rattle.math.specs.declared.Vector.{Vector}
use Rattle.mesh.specs.Area.{hull_edge}
use Rattle.nearby.specs.Test.{turns_right}
use Rattle.outline.specs.Outline.{falls_next}
use Rattle.sums.specs.Bounded.{count}
use Rattle.search_near.specs.NearRows.{DirectionIs}

-- the corners before e, the k-th half-edge, whose direction is `from`
pub record Along (q : List ℤ) (o h a : List ℕ) (size e : ℕ) (from : Vector) (circles k : ℕ) : Type 0 where
  pub at : e ≡ hull_edge (links_of o h a) k
  pub is : DirectionIs q h e from
  pub turns : (j : ℕ) → j < k → T (turns_right (links_of o h a) (position_of q) (hull_edge (links_of o h a) j))
  pub falls : circles ≡ count k (λ j. falls_next (links_of o h a) (position_of q) (hull_edge (links_of o h a) j))
  pub most : k ≤ size
