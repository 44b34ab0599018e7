-- Laws of specs/SingleFace.antt.
use Rattle.std.specs.Prelude.{ℕ, ◌+◌, ◌*◌, ◌<◌, ◌≡◌, refl, ◌≢◌, ◌⊎◌, List, [], ◌∷◌}
use Rattle.std.proofs.Common.{arith, sym, ◌∙◌, ⊎_elim, inl, inr}
use Rattle.mesh.specs.declared.Counts.{Counts}
use Rattle.mesh.specs.Mesh.{Links, In, to, turn}
use Rattle.mesh.specs.Operations.{create_single_face_between_edge_and_next, with_face}
use Rattle.mesh.specs.Wf.{Wf, Ranges, Linked, Vertices}
use Rattle.mesh.specs.LinkRules.{LinkRules, FaceCycles, Wide, Sided}
use Rattle.mesh.specs.LinkRulesWf.{link-rules, wide_of, sided-of}
use Rattle.mesh.proofs.LinkRulesWfLaws.{wf-of-links}
use Rattle.mesh.specs.Cases.{over}
use Rattle.mesh.specs.Frame.{Keeps, SameFace, Corners, kept-face, link-still-round}
use Rattle.mesh.specs.Triangle.{Outer, link-p-e, link-e-n, link-n-q, rev-in}
use Rattle.mesh.proofs.TriangleLaws.{link-outer, p-n, e-q}
use Rattle.mesh.specs.FaceBetween.{FaceBetween}
use Rattle.mesh.proofs.FaceBetweenLaws.{face-between}
use Rattle.sums.proofs.Cases.{All, None, each}
use Rattle.sums.specs.Half.{rev}
use Rattle.sums.proofs.HalfLaws.{rev-rev}
use Rattle.sums.specs.Put.{put}
use Rattle.sums.proofs.PutLaws.{put_same, put_other}
use Rattle.sums.proofs.IterateLaws.{Reach, reach-at, reach-one, reach-two, reach-trans, reach-by}
use Rattle.mesh.specs.SingleFace.{SingleFaceFrame, between-keeps, between-wide, between-sided, between-frame}

module _ {C : Counts} {L : Links} (W : LinkRules C L) {e : ℕ} (h : In C e) (z : L.face e ≡ 0) (pn : L.prev e ≢ L.next e)
    (eq : e ≢ L.next (L.next e)) (four : L.prev e ≢ L.next (L.next e)) where
  pub single-face-is : FaceBetween C (with_face C) L (create_single_face_between_edge_and_next L C e) (L.prev e) e
      (L.next e) (L.next (L.next e)) (2 * C.edges) (2 * C.edges + 1)
  unfolding create_single_face_between_edge_and_next
  single-face-is = face-between W (link-outer W h z) pn eq four

module _ {C : Counts} {L : Links} (W : Wf C L) {e : ℕ} (h : In C e) (z : L.face e ≡ 0) (four : L.prev e ≢ L.next (L.next e)) where
  pub single-face-keeps : Wf (with_face C) (create_single_face_between_edge_and_next L C e)
  single-face-keeps =
      let R = link-rules W in let A = link-outer R h z in let pn = p-n W A in let eq = e-q W A in
      let F = single-face-is R h z pn eq four in
      wf-of-links (between-keeps R A F pn eq four) (between-wide R A F pn eq four (wide_of W)) (between-sided R A F pn eq four (sided-of W))

  pub single-face-frame : SingleFaceFrame C (with_face C) L (create_single_face_between_edge_and_next L C e) (L.prev e) e
      (L.next e) (L.next (L.next e)) (2 * C.edges) (2 * C.edges + 1)
  single-face-frame =
      let R = link-rules W in let A = link-outer R h z in let pn = p-n W A in let eq = e-q W A in
      between-frame R A (single-face-is R h z pn eq four) pn eq four
