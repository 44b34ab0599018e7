-- What `create_single_face_between_edge_and_next` stores, as a relation between the mesh before and after: an equation
-- for each half-edge and field that is touched, and that the rest stays. `face_between` is such. Assumes nothing.
use Rattle.std.specs.Prelude.{ℕ, ◌+◌, ◌*◌, ◌<◌, ◌≡◌, refl, ◌≢◌, [], ◌∷◌}
use Rattle.std.proofs.Common.{arith, sym}
use Rattle.mesh.specs.declared.Counts.{Counts}
use Rattle.mesh.specs.Mesh.{Links, In, to}
use Rattle.mesh.specs.Operations.{face_between, with_face}
use Rattle.mesh.specs.LinkRules.{LinkRules}
use Rattle.mesh.specs.Cases.{Differ}
use Rattle.mesh.specs.Triangle.{Outer, link-p-e, link-e-n, link-n-q}
use Rattle.sums.proofs.Cases.{None}
use Rattle.sums.specs.Half.{rev}
use Rattle.sums.proofs.HalfLaws.{rev-even, rev-odd}
use Rattle.sums.proofs.PutLaws.{stores}

-- L' is L with the new face of e, n and the new half-edge i; its reverse o takes the place of e and n on the boundary
pub record FaceBetween (C C' : Counts) (L L' : Links) (p e n q i o : ℕ) : Type 0 where
  pub i-is : i ≡ 2 * C.edges
  pub o_is : o ≡ 2 * C.edges + 1
  pub i-o : rev i ≡ o
  pub o-i : rev o ≡ i
  pub edges : C'.edges ≡ C.edges + 1
  pub faces : C'.faces ≡ C.faces + 1
  pub vertices : C'.vertices ≡ C.vertices
  pub next-p : L'.next p ≡ o
  pub next-o : L'.next o ≡ q
  pub next-n : L'.next n ≡ i
  pub next-i : L'.next i ≡ e
  pub prev-q : L'.prev q ≡ o
  pub prev-o : L'.prev o ≡ p
  pub prev-e : L'.prev e ≡ i
  pub prev-i : L'.prev i ≡ n
  pub face-i : L'.face i ≡ C.faces
  pub face-e : L'.face e ≡ C.faces
  pub face-n : L'.face n ≡ C.faces
  pub face-o : L'.face o ≡ 0
  pub origin-i : L'.origin i ≡ to L n
  pub origin-o : L'.origin o ≡ L.origin e
  pub adjacent-o : L'.adjacent 0 ≡ o
  pub adjacent-i : L'.adjacent C.faces ≡ i
  pub next-rest : {x : ℕ} → None x (i ∷ o ∷ p ∷ n ∷ []) → L'.next x ≡ L.next x
  pub prev-rest : {x : ℕ} → None x (i ∷ o ∷ e ∷ q ∷ []) → L'.prev x ≡ L.prev x
  pub face-rest : {x : ℕ} → None x (i ∷ o ∷ e ∷ n ∷ []) → L'.face x ≡ L.face x
  pub origin-rest : {x : ℕ} → None x (i ∷ o ∷ []) → L'.origin x ≡ L.origin x
  pub out-rest : (v : ℕ) → L'.out v ≡ L.out v
  pub adjacent-rest : {f : ℕ} → f ≢ 0 → f ≢ C.faces → L'.adjacent f ≡ L.adjacent f

-- the numbers at which the operation stores
pub record Apart (p e n q i o g : ℕ) : Type 0 where
  pub pe : Differ p e
  pub pn : Differ p n
  pub pq : Differ p q
  pub en : Differ e n
  pub eq : Differ e q
  pub nq : Differ n q
  pub ip : Differ i p
  pub ie : Differ i e
  pub in' : Differ i n
  pub iq : Differ i q
  pub io : Differ i o
  pub op : Differ o p
  pub oe : Differ o e
  pub on : Differ o n
  pub oq : Differ o q
  pub og : Differ 0 g
