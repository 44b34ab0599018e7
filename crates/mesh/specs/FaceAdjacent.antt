-- What `create_new_face_adjacent_to_edge` stores, as a relation between the mesh before and after: an equation for each
-- half-edge and field that is touched, and that the rest stays. `face_adjacent` is such. Assumes nothing.
use Rattle.std.specs.Prelude.{ℕ, ◌+◌, ◌*◌, ◌<◌, ◌≡◌, refl, ◌≢◌, [], ◌∷◌}
use Rattle.std.proofs.Common.{arith, sym, ◌∙◌}
use Rattle.std.proofs.Math.Path.{ap}
use Rattle.mesh.specs.declared.Counts.{Counts}
use Rattle.mesh.specs.Mesh.{Links, In, to}
use Rattle.mesh.specs.Operations.{face_adjacent, with_vertex}
use Rattle.mesh.specs.LinkRules.{LinkRules}
use Rattle.mesh.specs.Cases.{Differ}
use Rattle.mesh.specs.Triangle.{Outer, link-p-e, link-e-n}
use Rattle.sums.proofs.Cases.{None}
use Rattle.sums.specs.Half.{rev}
use Rattle.sums.proofs.PutLaws.{put_same, stores}

-- L' is L with the new face of e, a and b, whose third corner is the new vertex; the reverses b' and a' take the place of e on the boundary
pub record FaceAdjacent (C C' : Counts) (L L' : Links) (p e n a a' b b' : ℕ) : Type 0 where
  pub a-is : a ≡ 2 * C.edges
  pub a'-is : a' ≡ 2 * C.edges + 1
  pub b-is : b ≡ 2 * C.edges + 2
  pub b'-is : b' ≡ 2 * C.edges + 3
  pub rev-a : rev a ≡ a'
  pub rev-a' : rev a' ≡ a
  pub rev-b : rev b ≡ b'
  pub rev-b' : rev b' ≡ b
  pub edges : C'.edges ≡ C.edges + 2
  pub faces : C'.faces ≡ C.faces + 1
  pub vertices : C'.vertices ≡ C.vertices + 1
  pub next-e : L'.next e ≡ a
  pub next-a : L'.next a ≡ b
  pub next-b : L'.next b ≡ e
  pub next-p : L'.next p ≡ b'
  pub next-b' : L'.next b' ≡ a'
  pub next-a' : L'.next a' ≡ n
  pub prev-e : L'.prev e ≡ b
  pub prev-a : L'.prev a ≡ e
  pub prev-b : L'.prev b ≡ a
  pub prev-b' : L'.prev b' ≡ p
  pub prev-a' : L'.prev a' ≡ b'
  pub prev-n : L'.prev n ≡ a'
  pub face-e : L'.face e ≡ C.faces
  pub face-a : L'.face a ≡ C.faces
  pub face-b : L'.face b ≡ C.faces
  pub face-a' : L'.face a' ≡ 0
  pub face-b' : L'.face b' ≡ 0
  pub origin-a : L'.origin a ≡ to L e
  pub origin-a' : L'.origin a' ≡ C.vertices
  pub origin-b : L'.origin b ≡ C.vertices
  pub origin-b' : L'.origin b' ≡ L.origin e
  pub out-new : L'.out C.vertices ≡ b
  pub adjacent-outer : L'.adjacent 0 ≡ b'
  pub adjacent-new : L'.adjacent C.faces ≡ e
  pub next-rest : {x : ℕ} → None x (a ∷ a' ∷ b ∷ b' ∷ p ∷ e ∷ []) → L'.next x ≡ L.next x
  pub prev-rest : {x : ℕ} → None x (a ∷ a' ∷ b ∷ b' ∷ e ∷ n ∷ []) → L'.prev x ≡ L.prev x
  pub face-rest : {x : ℕ} → None x (a ∷ a' ∷ b ∷ b' ∷ e ∷ []) → L'.face x ≡ L.face x
  pub origin-rest : {x : ℕ} → None x (a ∷ a' ∷ b ∷ b' ∷ []) → L'.origin x ≡ L.origin x
  pub out-rest : {v : ℕ} → v ≢ C.vertices → L'.out v ≡ L.out v
  pub adjacent-rest : {f : ℕ} → f ≢ 0 → f ≢ C.faces → L'.adjacent f ≡ L.adjacent f

-- the numbers at which the operation stores
pub record Apart (p e n a a' b b' : ℕ) : Type 0 where
  pub pe : Differ p e
  pub en : Differ e n
  pub ap' : Differ a p
  pub ae : Differ a e
  pub an : Differ a n
  pub a'p : Differ a' p
  pub a'e : Differ a' e
  pub a'n : Differ a' n
  pub bp : Differ b p
  pub be : Differ b e
  pub bn : Differ b n
  pub b'p : Differ b' p
  pub b'e : Differ b' e
  pub b'n : Differ b' n
  pub aa' : Differ a a'
  pub ab : Differ a b
  pub ab' : Differ a b'
  pub a'b : Differ a' b
  pub a'b' : Differ a' b'
  pub bb' : Differ b b'
