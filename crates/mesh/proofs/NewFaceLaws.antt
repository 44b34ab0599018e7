-- Laws of specs/NewFace.antt.
use Rattle.std.specs.Prelude.{ℕ, ◌+◌, ◌*◌, ◌<◌, ◌≡◌, refl, ◌≢◌, ◌⊎◌, List, [], ◌∷◌}
use Rattle.std.proofs.Common.{arith, sym, ◌∙◌, ⊎_elim, inl, inr}
use Rattle.mesh.specs.declared.Counts.{Counts}
use Rattle.mesh.specs.Mesh.{Links, In, to, turn}
use Rattle.mesh.specs.Operations.{create_new_face_adjacent_to_edge, with_vertex}
use Rattle.mesh.specs.Wf.{Wf, Ranges, Linked, Vertices}
use Rattle.mesh.specs.LinkRules.{LinkRules, FaceCycles, Wide, Sided}
use Rattle.mesh.specs.LinkRulesWf.{link-rules, wide_of, sided-of}
use Rattle.mesh.proofs.LinkRulesWfLaws.{wf-of-links}
use Rattle.mesh.specs.Cases.{over}
use Rattle.mesh.specs.Frame.{Keeps, SameFace, Corners, kept-face, link-still-round}
use Rattle.mesh.specs.Triangle.{Outer, link-p-e, link-e-n, rev-in}
use Rattle.mesh.proofs.TriangleLaws.{link-outer}
use Rattle.mesh.specs.FaceAdjacent.{FaceAdjacent}
use Rattle.mesh.proofs.FaceAdjacentLaws.{face-adjacent}
use Rattle.sums.proofs.Cases.{All, None, each}
use Rattle.sums.specs.Half.{rev}
use Rattle.sums.proofs.HalfLaws.{rev-rev}
use Rattle.sums.specs.Put.{put}
use Rattle.sums.proofs.PutLaws.{put_same, put_other}
use Rattle.sums.proofs.IterateLaws.{Reach, reach-at, reach-one, reach-two, reach-trans, reach-by}
use Rattle.mesh.specs.NewFace.{NewFaceFrame, adjacent-keeps, adjacent-wide, adjacent-sided, adjacent-frame}

module _ {C : Counts} {L : Links} (W : LinkRules C L) {e : ℕ} (h : In C e) (z : L.face e ≡ 0) where
  pub new-face-is : FaceAdjacent C (with_vertex C) L (create_new_face_adjacent_to_edge L C e) (L.prev e) e (L.next e)
      (2 * C.edges) (2 * C.edges + 1) (2 * C.edges + 2) (2 * C.edges + 2 + 1)
  unfolding create_new_face_adjacent_to_edge
  new-face-is = face-adjacent W (link-outer W h z)

module _ {C : Counts} {L : Links} (W : Wf C L) {e : ℕ} (h : In C e) (z : L.face e ≡ 0) where
  pub new-face-keeps : Wf (with_vertex C) (create_new_face_adjacent_to_edge L C e)
  new-face-keeps = let R = link-rules W in let A = link-outer R h z in let F = new-face-is R h z in
      wf-of-links (adjacent-keeps R A F) (adjacent-wide R A F (wide_of W)) (adjacent-sided R A F (sided-of W))

  pub new-face-frame : NewFaceFrame C (with_vertex C) L (create_new_face_adjacent_to_edge L C e) (L.prev e) e (L.next e)
      (2 * C.edges) (2 * C.edges + 1) (2 * C.edges + 2) (2 * C.edges + 2 + 1)
  new-face-frame = let R = link-rules W in adjacent-frame R (link-outer R h z) (new-face-is R h z)
