-- One turn of legalizing, in a mesh that is settled but for the edges at a vertex and those of the pending list: an edge that keeps the rule
-- goes from the list, and a flip brings its edge to the vertex and pushes the two edges behind it. Assumes nothing.
use Rattle.std.specs.Prelude.{true, false, List, [], ◌∷◌, ◌≢◌, ◌≡◌, refl, ℕ, ◌+◌, ◌*◌, ◌/◌, ◌<◌, ℤ, pos, ◌<ℤ◌, ◌≤ℤ◌}
use Rattle.std.proofs.lemmas.Bool.{false≢true}
use Rattle.std.proofs.Common.{sym, ◌∙◌, ap, subst, arith}
use Rattle.std.proofs.Math.Decide.{ℕ_discrete}
use Rattle.std.proofs.Math.Dec.{not_T}
use Rattle.std.specs.Int.Signed.{lt_z, lt_z_yes, lt_z_no, clash_ℤ}
use Rattle.math.specs.declared.Point.{Point}
use Rattle.math.specs.Determinant.{incircle}
use Rattle.mesh.specs.declared.Counts.{Counts}
use Rattle.mesh.specs.Mesh.{Links, In, to}
use Rattle.mesh.specs.Area.{circle_at}
use Rattle.mesh.specs.Circle.{breaks_circle}
use Rattle.mesh.specs.CircleLaws.{Breaks}
use Rattle.mesh.proofs.CircleLawsFacts.{breaks, breaks-test, breaks-flippable, breaks-good}
use Rattle.mesh.specs.Flip.{Flippable}
use Rattle.mesh.proofs.FlipLaws.{flip_is, sides}
use Rattle.mesh.specs.Flipped.{Flipped, Beside}
use Rattle.mesh.specs.Good.{Good}
use Rattle.mesh.proofs.HeightLawsFacts.{circle-rev, even-half, circle-half}
use Rattle.mesh.proofs.LeftLaws.{sides-differ, faces-differ}
use Rattle.mesh.specs.Operations.{flip_cw}
use Rattle.mesh.specs.Triangle.{Triangle, triangle, rev-in}
use Rattle.mesh.specs.Wf.{Wf}
use Rattle.sums.proofs.Cases.{All, None, Distinct, all_map}
use Rattle.sums.specs.Half.{rev}
use Rattle.sums.proofs.HalfLaws.{rev-rev, rev-even, rev-odd, rev-edge}
use Rattle.skipped_settled.specs.SettledBut.{KeepsCircle, Across, SettledBut}

-- ---- half-edges that a change leaves alone
-- e has the same origin as before, and where it is of a triangle it was so before, with the same far vertex
pub record SameSide (L L' : Links) (e : ℕ) : Type 0 where
  pub inner : 0 < L'.face e → 0 < L.face e
  pub origin : L'.origin e ≡ L.origin e
  pub far : 0 < L'.face e → L'.origin (L'.prev e) ≡ L.origin (L.prev e)

-- ---- a flip, seen from either half-edge e of its edge
-- what it stores of prev, face and origin, where the triangles e, en, ep and t, tn, tp become e, tp, en and t, ep, tn
pub record FlippedAt (L L' : Links) (e en ep t tn tp : ℕ) : Type 0 where
  pub t-e : rev e ≡ t
  pub e-t : rev t ≡ e
  pub next-e : L'.next e ≡ tp
  pub prev-tp : L'.prev tp ≡ e
  pub prev-tn : L'.prev tn ≡ ep
  pub face-e : L'.face e ≡ L.face e
  pub origin-e : L'.origin e ≡ L.origin ep
  pub prev-rest : {x : ℕ} → Beside e en ep t tn tp x → L'.prev x ≡ L.prev x
  pub face-rest : {x : ℕ} → Beside e en ep t tn tp x → L'.face x ≡ L.face x
  pub origin-rest : {x : ℕ} → x ≢ e → x ≢ t → L'.origin x ≡ L.origin x
