-- The mesh rules of 01 in two parts: the links' rules, which a line of points keeps too, also while the first faces are
-- laid on it; and the two that a line breaks. `LinkRulesWf` proves that together they are `Wf`. Definitions only.
use Rattle.std.specs.Prelude.{ℕ, ◌+◌, ◌<◌, ◌≡◌, ◌≢◌, ◌⊎◌}
use Rattle.mesh.specs.declared.Counts.{Counts}
use Rattle.mesh.specs.Mesh.{Links, In}
use Rattle.mesh.specs.Wf.{Ranges, Linked, Vertices}
use Rattle.sums.specs.Half.{rev}
use Rattle.sums.proofs.IterateLaws.{Reach}

-- 01: "An inner face is a cycle of three through its stored edge. Face 0 is one cycle". Here that is one of at least two
pub record FaceCycles (C : Counts) (L : Links) : Type 0 where
  pub stored : {f : ℕ} → f < C.faces → L.face (L.adjacent f) ≡ f
  pub three : {e : ℕ} → In C e → 0 < L.face e → L.next (L.next e) ≡ L.prev e
  pub apart : {e : ℕ} → In C e → L.next e ≢ e
  pub inner : {e : ℕ} → In C e → 0 < L.face e
      → (e ≡ L.adjacent (L.face e)) ⊎ (e ≡ L.next (L.adjacent (L.face e))) ⊎ (e ≡ L.prev (L.adjacent (L.face e)))
  pub outer : {d e : ℕ} → In C d → In C e → L.face d ≡ 0 → L.face e ≡ 0 → Reach L.next d e

pub record LinkRules (C : Counts) (L : Links) : Type 0 where
  pub ranges : Ranges C L
  pub links : Linked C L
  pub faces : FaceCycles C L
  pub about : Vertices C L
  -- 01: "vertices - edges + faces = 2, the outer face counted."
  pub euler : C.vertices + C.faces ≡ C.edges + 2
  -- there is an outer face
  pub some : 0 < C.faces

-- 01: "Face 0 is one cycle of at least three."
abbrev pub Wide : Counts → Links → Type 0
Wide C L = (e : ℕ) → In C e → L.face e ≡ 0 → L.next (L.next e) ≢ e

-- 01: "Every edge has an inner face on a side."
abbrev pub Sided : Counts → Links → Type 0
Sided C L = (e : ℕ) → In C e → L.face e ≡ 0 → 0 < L.face (rev e)
