-- The mesh rules of 01 as facts, in the form in which proofs use them. `Rules` states the same sentence by sentence as
-- a test that computes.
use Rattle.std.specs.Prelude.{ℕ, ◌+◌, ◌*◌, ◌<◌, ◌≡◌, ◌≢◌, ◌⊎◌}
use Rattle.mesh.specs.declared.Counts.{Counts}
use Rattle.mesh.specs.Mesh.{Links, In, turn}
use Rattle.sums.specs.Half.{rev}
use Rattle.sums.proofs.IterateLaws.{Reach}

-- every link names something in use
pub record Ranges (C : Counts) (L : Links) : Type 0 where
  pub next< : {e : ℕ} → In C e → In C (L.next e)
  pub prev< : {e : ℕ} → In C e → In C (L.prev e)
  pub face< : {e : ℕ} → In C e → L.face e < C.faces
  pub origin< : {e : ℕ} → In C e → L.origin e < C.vertices
  pub adjacent< : {f : ℕ} → f < C.faces → In C (L.adjacent f)
  pub out< : {v : ℕ} → v < C.vertices → In C (L.out v)

-- 01: "next and prev undo each other, and next keeps the face. The origin of next(e) is the origin of e's reverse."
pub record Linked (C : Counts) (L : Links) : Type 0 where
  pub prev-next : {e : ℕ} → In C e → L.prev (L.next e) ≡ e
  pub next-prev : {e : ℕ} → In C e → L.next (L.prev e) ≡ e
  pub face-next : {e : ℕ} → In C e → L.face (L.next e) ≡ L.face e
  pub origin-next : {e : ℕ} → In C e → L.origin (L.next e) ≡ L.origin (rev e)

-- 01: "An inner face is a cycle of three through its stored edge. Face 0 is one cycle of at least three. Every edge has
-- an inner face on a side."
pub record Faces (C : Counts) (L : Links) : Type 0 where
  pub stored : {f : ℕ} → f < C.faces → L.face (L.adjacent f) ≡ f
  pub three : {e : ℕ} → In C e → 0 < L.face e → L.next (L.next e) ≡ L.prev e
  pub apart : {e : ℕ} → In C e → L.next e ≢ e
  pub inner : {e : ℕ} → In C e → 0 < L.face e
      → (e ≡ L.adjacent (L.face e)) ⊎ (e ≡ L.next (L.adjacent (L.face e))) ⊎ (e ≡ L.prev (L.adjacent (L.face e)))
  pub outer : {d e : ℕ} → In C d → In C e → L.face d ≡ 0 → L.face e ≡ 0 → Reach L.next d e
  pub wide : {e : ℕ} → In C e → L.face e ≡ 0 → L.next (L.next e) ≢ e
  pub side : {e : ℕ} → In C e → L.face e ≡ 0 → 0 < L.face (rev e)

-- 01: "Every vertex has an out edge, and turning about the vertex from it meets every half-edge that starts there."
pub record Vertices (C : Counts) (L : Links) : Type 0 where
  pub based : {v : ℕ} → v < C.vertices → L.origin (L.out v) ≡ v
  pub round : {d e : ℕ} → In C d → In C e → L.origin d ≡ L.origin e → Reach (turn L) d e

pub record Wf (C : Counts) (L : Links) : Type 0 where
  pub ranges : Ranges C L
  pub links : Linked C L
  pub faces : Faces C L
  pub about : Vertices C L
  -- 01: "vertices - edges + faces = 2, the outer face counted."
  pub euler : C.vertices + C.faces ≡ C.edges + 2
  -- there is an outer face
  pub some : 0 < C.faces
