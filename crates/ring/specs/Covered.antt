-- The boundary while a step goes on: of the boundary before, m edges from s on (the chain) are covered by the new
-- vertex, and the edges l to it and p from it stand for them.
-- The first face, each further one to the left or the right, and flips keep this relation to the boundary before. Assumes nothing.
use Rattle.std.specs.Prelude.{◌≡◌, refl, ◌≢◌, [], ℕ, suc, ◌+◌, ◌-◌, ◌*◌, ◌<◌, ◌≤◌}
use Rattle.std.proofs.Common.{sym, ◌∙◌, ap, subst, arith}
use Rattle.mesh.specs.declared.Counts.{Counts}
use Rattle.mesh.specs.Mesh.{Links, In}
use Rattle.mesh.specs.Wf.{Wf}
use Rattle.mesh.specs.Area.{boundary_length}
use Rattle.mesh.proofs.BoundaryLaws.{boundary-least}
use Rattle.mesh.proofs.CountsLaws.{count-halves, faces-least}
use Rattle.mesh.specs.Frame.{SameBoundary}
use Rattle.mesh.specs.Operations.{create_single_face_between_edge_and_next, with_face, create_new_face_adjacent_to_edge, with_vertex}
use Rattle.mesh.proofs.NewFaceLaws.{new-face-keeps, new-face-frame}
use Rattle.mesh.proofs.SingleFaceLaws.{single-face-keeps, single-face-frame}
use Rattle.sums.specs.Iterate.{iter}
use Rattle.sums.proofs.IterateLaws.{iter-last, iter-ext}
use Rattle.ring.specs.Ring.{edge_angle}
use Rattle.ring.specs.Splice.{Spliced}

-- f and α are next and the angle of the boundary's edges before; C, L and α'' are the mesh after and its vertices'
-- angles; r is the first edge after the chain, q the new vertex's angle
pub record Covered (f α : ℕ → ℕ) (C : Counts) (L : Links) (α'' : ℕ → ℕ) (s m n l p q r : ℕ) : Type 0 where
  pub spliced : Spliced f α L.next (edge_angle L α'') s m n l p q r
  pub in_use : In C l
  pub outer : L.face l ≡ 0
  pub length : boundary_length C L ≡ suc (suc n)
