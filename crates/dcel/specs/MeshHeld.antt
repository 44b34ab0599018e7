-- Rows that hold a mesh that keeps the rules, and what an accessor asks of them. The operations' own conditions are in
-- `Ready` of dcel_operations. Assumes nothing.
use Rattle.std.specs.Prelude.{ℕ, ◌+◌, ◌*◌, ◌<◌, ◌≤◌, ◌^◌, ◌≡◌, List, length}
use Rattle.std.proofs.Common.{arith}
use Rattle.std.proofs.Math.Path.{subst⁻¹}
use Rattle.sums.specs.Half.{rev}
use Rattle.sums.proofs.HalfLaws.{rev-below}
use Rattle.mesh.specs.declared.Counts.{Counts}
use Rattle.mesh.specs.Mesh.{Links, In}
use Rattle.mesh.specs.Wf.{Wf}
use Rattle.dcel.specs.Rows.{halves_of, row_of, links_of, There}

-- the rows have room for so many vertices, edges and faces, and the numbers of the half-edges fit
pub record Room (C : Counts) (o h a : List ℕ) : Type 0 where
  pub outs : C.vertices ≤ length o
  pub halves : 8 * C.edges ≤ length h
  pub faces : C.faces ≤ length a
  pub small : C.edges < 2 ^ 31

-- the rows hold a mesh of these counts that keeps the rules
pub record MeshHeld (C : Counts) (o h a : List ℕ) : Type 0 where
  pub room : Room C o h a
  pub rules : Wf C (links_of o h a)

module _ {C : Counts} {o h a : List ℕ} (H : MeshHeld C o h a) where
  -- what `next`, `prev`, `face`, `origin`, `half_edge` ask of a half-edge in use, and `to`
  pub there : {e : ℕ} → In C e → There h e
  there l = omega arith

  pub there-rev : {e : ℕ} → In C e → There h (rev e)
  there-rev l = let r = rev-below C.edges l in omega arith

  -- what `out` and `adjacent` ask of a vertex and a face in use
  pub there_out : {v : ℕ} → v < C.vertices → v < length o
  there_out l = omega arith

  pub there-adjacent : {f : ℕ} → f < C.faces → f < length a
  there-adjacent l = omega arith

  -- what a half-edge in use names is in use
  pub next-in : {e : ℕ} → In C e → In C ((halves_of h).next e)
  unfolding links_of
  next-in l = H.rules.ranges.next< l

  pub prev-in : {e : ℕ} → In C e → In C ((halves_of h).prev e)
  unfolding links_of
  prev-in l = H.rules.ranges.prev< l

  pub face-in : {e : ℕ} → In C e → (halves_of h).face e < C.faces
  unfolding links_of
  face-in l = H.rules.ranges.face< l

  pub origin-in : {e : ℕ} → In C e → (halves_of h).origin e < C.vertices
  unfolding links_of
  origin-in l = H.rules.ranges.origin< l

  pub to_in : {e : ℕ} → In C e → (halves_of h).origin (rev e) < C.vertices
  to_in l = origin-in (rev-below C.edges l)

  pub out-in : {v : ℕ} → v < C.vertices → In C (row_of o v)
  unfolding links_of
  out-in l = H.rules.ranges.out< l

  pub adjacent-in : {f : ℕ} → f < C.faces → In C (row_of a f)
  unfolding links_of
  adjacent-in l = H.rules.ranges.adjacent< l

  -- what `far` asks
  pub there-far : {e : ℕ} → In C e → There h e × There h ((halves_of h).prev e)
  there-far l = (there l, there (prev-in l))

  -- the counts of vertices and faces fit too
  pub counts-fit : C.vertices + C.faces < 2 ^ 31 + 2
  counts-fit = let e = H.rules.euler in omega arith

-- after an operation: rows of the same lengths whose links keep the rules
pub held-again : {C : Counts} {o h a : List ℕ} → Room C o h a → (o' h' a' : List ℕ) → length o' ≡ length o
    → length h' ≡ length h → length a' ≡ length a
    → {L : Links} → links_of o' h' a' ≡ L → Wf C L → MeshHeld C o' h' a'
held-again {C} R o' h' a' p q r e W = record {
  room = record { outs = omega arith; halves = omega arith; faces = omega arith; small = R.small };
  rules = subst⁻¹ (Wf C) e W;
}
