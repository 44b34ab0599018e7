-- What an operation leaves: half-edges that keep their links, faces that keep their half-edges, a boundary that stays;
-- and the corners of a face.
-- Assumes nothing.
use Rattle.std.specs.Prelude.{ℕ, ◌<◌, ◌≡◌, refl, ◌⊎◌}
use Rattle.std.proofs.Common.{sym, ◌∙◌, ⊎_elim, inl, inr}
use Rattle.mesh.specs.declared.Counts.{Counts}
use Rattle.mesh.specs.Mesh.{Links, In, to, turn}
use Rattle.mesh.specs.LinkRules.{LinkRules}
use Rattle.mesh.specs.LinkRulesWf.{link-rules}
use Rattle.mesh.specs.Wf.{Wf}
use Rattle.mesh.specs.Triangle.{Triangle, link-triangle, triangle, rev-in}
use Rattle.sums.proofs.IterateLaws.{Reach, reach-by}

-- the half-edge x keeps its links and its two ends
pub record Keeps (L L' : Links) (x : ℕ) : Type 0 where
  pub next : L'.next x ≡ L.next x
  pub prev : L'.prev x ≡ L.prev x
  pub face : L'.face x ≡ L.face x
  pub origin : L'.origin x ≡ L.origin x
  pub end : to L' x ≡ to L x

-- the inner face f keeps its stored edge, and its three half-edges their links
pub record SameFace (L L' : Links) (f : ℕ) : Type 0 where
  pub adjacent : L'.adjacent f ≡ L.adjacent f
  pub first : Keeps L L' (L.adjacent f)
  pub second : Keeps L L' (L.next (L.adjacent f))
  pub third : Keeps L L' (L.prev (L.adjacent f))

-- the outer face has the half-edges that it had, in their order, and its stored edge
pub record SameBoundary (C : Counts) (L L' : Links) : Type 0 where
  pub keeps : {x : ℕ} → In C x → L.face x ≡ 0 → Keeps L L' x
  pub was : {x : ℕ} → In C x → L'.face x ≡ 0 → L.face x ≡ 0
  pub adjacent : L'.adjacent 0 ≡ L.adjacent 0

-- a, b and c are the corners of the inner face f in the order of next, from the origin of its stored edge on
pub record Corners (L : Links) (f a b c : ℕ) : Type 0 where
  pub first : L.origin (L.adjacent f) ≡ a
  pub second : L.origin (L.next (L.adjacent f)) ≡ b
  pub third : L.origin (L.prev (L.adjacent f)) ≡ c

module _ {C : Counts} {L : Links} (W : LinkRules C L) where
  -- an inner face keeps its half-edges, where inner half-edges keep their links
  pub kept-face : {L' : Links} → ((x : ℕ) → In C x → 0 < L.face x → Keeps L L' x) → {f : ℕ} → 0 < f → f < C.faces
      → L'.adjacent f ≡ L.adjacent f → SameFace L L' f
  kept-face k {f} z l a =
      let i : 0 < L.face (L.adjacent f) = rw (W.faces.stored l) z in
      let T = link-triangle W (W.ranges.adjacent< l) i in
      record { adjacent = a; first = k _ T.in-a i; second = k _ T.in_b (rw T.face-b i); third = k _ T.in_c (rw T.face-c i) }

  -- half-edges about one vertex meet each other still, where each comes to the one that it turned to
  pub link-still-round : (L' : Links) → ((x : ℕ) → In C x → Reach (turn L') x (turn L x)) → {x y : ℕ} → In C x → In C y
      → L.origin x ≡ L.origin y → Reach (turn L') x y
  link-still-round L' t h k p = reach-by (In C) (λ z. z) (λ z l. rev-in C (W.ranges.prev< l)) t h (W.about.round h k p)
