-- Laws of specs/Flip.antt.
use Rattle.std.specs.Prelude.{ℕ, ◌+◌, ◌*◌, ◌<◌, ◌≡◌, refl, ◌≢◌, ◌⊎◌, List, [], ◌∷◌}
use Rattle.std.proofs.Common.{arith, sym, ◌∙◌, ⊎_elim, inl, inr}
use Rattle.mesh.specs.declared.Counts.{Counts}
use Rattle.mesh.specs.Mesh.{Links, In, to, turn}
use Rattle.mesh.specs.Operations.{flip_between, flip_cw}
use Rattle.mesh.specs.Wf.{Wf, Ranges, Linked, Faces, Vertices}
use Rattle.mesh.specs.Cases.{given}
use Rattle.mesh.specs.Frame.{Keeps, SameFace, SameBoundary, Corners}
use Rattle.mesh.specs.Triangle.{Triangle, triangle, same-face, rev-in}
use Rattle.mesh.specs.Flipped.{Flipped}
use Rattle.mesh.proofs.FlippedLaws.{flipped}
use Rattle.sums.proofs.Cases.{All, None, each}
use Rattle.sums.specs.Half.{rev}
use Rattle.sums.proofs.HalfLaws.{rev-rev, rev-even, rev-odd}
use Rattle.sums.specs.Put.{put}
use Rattle.sums.proofs.PutLaws.{put_same, put_other}
use Rattle.sums.proofs.IterateLaws.{Reach, reach-at, reach-one, reach-two, reach-trans, reach-by}
use Rattle.mesh.specs.Flip.{Flippable, FlipFrame, flipped-keeps, flipped-frame}

-- the two triangles at an inner edge
pub sides : {C : Counts} {L : Links} → Wf C L → (u : ℕ) → Flippable C L u
    → Triangle C L (2 * u) (L.next (2 * u)) (L.prev (2 * u)) × Triangle C L (2 * u + 1) (L.next (2 * u + 1)) (L.prev (2 * u + 1))
sides W u h = let k = h.edge in (triangle W (omega arith) h.inner-left, triangle W (omega arith) h.inner-right)

pub flip_is : {C : Counts} {L : Links} → Wf C L → (u : ℕ) → Flippable C L u
    → Flipped L (flip_cw L u) (2 * u) (L.next (2 * u)) (L.prev (2 * u)) (2 * u + 1) (L.next (2 * u + 1)) (L.prev (2 * u + 1))
unfolding flip_cw
flip_is W u h = let s = sides W u h in flipped W s.0 s.1 h.differ (rev-even u) (rev-odd u)

pub flip-keeps : {C : Counts} {L : Links} → Wf C L → (u : ℕ) → Flippable C L u → Wf C (flip_cw L u)
flip-keeps W u h = let s = sides W u h in flipped-keeps W s.0 s.1 (flip_is W u h) h.inner-left h.inner-right h.differ

pub flip-frame : {C : Counts} {L : Links} → Wf C L → (u : ℕ) → Flippable C L u
    → FlipFrame C L (flip_cw L u) (2 * u) (2 * u + 1) (L.origin (2 * u)) (L.origin (2 * u + 1))
    (L.origin (L.prev (2 * u))) (L.origin (L.prev (2 * u + 1)))
flip-frame W u h = let s = sides W u h in flipped-frame W s.0 s.1 (flip_is W u h) h.inner-left h.inner-right h.differ
