-- While a step goes on, the boundary edges that are not covered yet keep their two ends, so that the tests of the
-- step's loops, made on the mesh as it stands, are those of the chain's definition, made on the mesh before. Assumes
-- nothing.
use Rattle.std.specs.Prelude.{◌≡◌, Bool, not, ◌&&◌, ◌||◌, ℕ, suc, ◌-◌, ◌<◌, eqb, pos}
use Rattle.std.proofs.Common.{sym, ◌∙◌, ap, ap₂, arith}
use Rattle.std.specs.Int.Signed.{lt_z}
use Rattle.math.specs.declared.Point.{Point}
use Rattle.math.specs.Determinant.{orient2d, is_behind_edge}
use Rattle.mesh.specs.declared.Counts.{Counts}
use Rattle.mesh.specs.Mesh.{Links, In, to}
use Rattle.mesh.specs.Wf.{Wf}
use Rattle.mesh.specs.Area.{boundary_length}
use Rattle.mesh.specs.Triangle.{rev-in}
use Rattle.mesh.specs.Frame.{SameBoundary}
use Rattle.mesh.specs.Operations.{create_single_face_between_edge_and_next, create_new_face_adjacent_to_edge}
use Rattle.mesh.proofs.NewFaceLaws.{new-face-frame}
use Rattle.mesh.proofs.SingleFaceLaws.{single-face-frame}
use Rattle.sums.specs.Iterate.{iter}
use Rattle.sums.proofs.IterateLaws.{iter-last, iter-keeps}
use Rattle.ring.specs.declared.Side.{Side}
use Rattle.ring.specs.declared.Side.TheVariants.{Left, Right}
use Rattle.ring.specs.Chain.{covers, covers_left, covers_right}
use Rattle.ring.specs.Covered.{Covered}

-- the half-edge d has in L the ends that it has in L₀
pub record SameEnds (L₀ L : Links) (d : ℕ) : Type 0 where
  pub origin : L.origin d ≡ L₀.origin d
  pub end : to L d ≡ to L₀ d

-- the n edges from r on, which are not covered, keep their ends
pub record RestEnds (L₀ L : Links) (n r : ℕ) : Type 0 where
  pub at : (k : ℕ) → k < n → SameEnds L₀ L (iter k L₀.next r)
