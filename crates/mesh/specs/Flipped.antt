-- What a flip stores, as a relation between the links before and after: an equation for each half-edge and field that
-- is touched, and that the rest stays.
-- `flip_between` is such a flip, where the six half-edges differ. Assumes nothing.
use Rattle.std.specs.Prelude.{ℕ, ◌<◌, ◌≡◌, ◌≢◌, [], ◌∷◌}
use Rattle.std.proofs.Common.{sym}
use Rattle.mesh.specs.declared.Counts.{Counts}
use Rattle.mesh.specs.Mesh.{Links}
use Rattle.mesh.specs.Operations.{flip_between}
use Rattle.mesh.specs.Wf.{Wf}
use Rattle.mesh.specs.Cases.{Differ}
use Rattle.mesh.specs.Triangle.{Triangle}
use Rattle.sums.proofs.Cases.{None}
use Rattle.sums.specs.Half.{rev}
use Rattle.sums.proofs.PutLaws.{stores}

-- x is none of the six half-edges
abbrev pub Beside : ℕ → ℕ → ℕ → ℕ → ℕ → ℕ → ℕ → Type 0
Beside e en ep t tn tp x = None x (e ∷ en ∷ ep ∷ t ∷ tn ∷ tp ∷ [])

-- L' is L with the edge of e and t flipped
pub record Flipped (L L' : Links) (e en ep t tn tp : ℕ) : Type 0 where
  pub t-e : rev e ≡ t
  pub e-t : rev t ≡ e
  pub next-e : L'.next e ≡ tp
  pub next-tp : L'.next tp ≡ en
  pub next-en : L'.next en ≡ e
  pub next-t : L'.next t ≡ ep
  pub next-ep : L'.next ep ≡ tn
  pub next-tn : L'.next tn ≡ t
  pub prev-e : L'.prev e ≡ en
  pub prev-tp : L'.prev tp ≡ e
  pub prev-en : L'.prev en ≡ tp
  pub prev-t : L'.prev t ≡ tn
  pub prev-ep : L'.prev ep ≡ t
  pub prev-tn : L'.prev tn ≡ ep
  pub face-e : L'.face e ≡ L.face e
  pub face-tp : L'.face tp ≡ L.face e
  pub face-en : L'.face en ≡ L.face e
  pub face-t : L'.face t ≡ L.face t
  pub face-ep : L'.face ep ≡ L.face t
  pub face-tn : L'.face tn ≡ L.face t
  pub origin-e : L'.origin e ≡ L.origin ep
  pub origin-t : L'.origin t ≡ L.origin tp
  pub out-e : L.origin e ≢ L.origin t → L'.out (L.origin e) ≡ tn
  pub out-t : L'.out (L.origin t) ≡ en
  pub adjacent-e : L'.adjacent (L.face e) ≡ e
  pub adjacent-t : L'.adjacent (L.face t) ≡ t
  pub next-rest : {x : ℕ} → Beside e en ep t tn tp x → L'.next x ≡ L.next x
  pub prev-rest : {x : ℕ} → Beside e en ep t tn tp x → L'.prev x ≡ L.prev x
  pub face-rest : {x : ℕ} → Beside e en ep t tn tp x → L'.face x ≡ L.face x
  pub origin-rest : {x : ℕ} → x ≢ e → x ≢ t → L'.origin x ≡ L.origin x
  pub out-rest : {v : ℕ} → v ≢ L.origin e → v ≢ L.origin t → L'.out v ≡ L.out v
  pub adjacent-rest : {f : ℕ} → f ≢ L.face e → f ≢ L.face t → L'.adjacent f ≡ L.adjacent f

-- the six half-edges of two different triangles
pub record Six (e en ep t tn tp : ℕ) : Type 0 where
  pub s₁ : Differ e en
  pub s₂ : Differ e ep
  pub s₃ : Differ en ep
  pub s₄ : Differ t tn
  pub s₅ : Differ t tp
  pub s₆ : Differ tn tp
  pub c₁ : Differ e t
  pub c₂ : Differ e tn
  pub c₃ : Differ e tp
  pub c₄ : Differ en t
  pub c₅ : Differ en tn
  pub c₆ : Differ en tp
  pub c₇ : Differ ep t
  pub c₈ : Differ ep tn
  pub c₉ : Differ ep tp
