-- What the circle rule says of an edge, by what the rows hold of its two halves. Assumes nothing.
use Rattle.std.specs.Prelude.{Bool, false, List, ◌≢◌, ◌≡◌, ℕ, ◌+◌, ◌*◌}
use Rattle.std.proofs.Math.Path.{sym}
use Rattle.std.proofs.Common.{◌∙◌}
use Rattle.dcel.specs.Rows.{halves_of, links_of}
use Rattle.math.specs.declared.Point.{Point}
use Rattle.math.specs.Determinant.{contained_in_circumference}
use Rattle.mesh.specs.Circle.{breaks_circle}
use Rattle.mesh.proofs.CircleLawsFacts.{outer-left, outer-right, both-inner}

module _ (P : ℕ → Point) (h : List ℕ) (u : ℕ) where
  pub outer-e : {f : ℕ} → f ≡ (halves_of h).face (2 * u) → f ≡ 0 → (o a : List ℕ) → false ≡ breaks_circle (links_of o h a) P u
  unfolding links_of
  outer-e e z o a = sym (outer-left (links_of o h a) P u (sym e ∙ z))

  pub outer-t : {f : ℕ} → f ≡ (halves_of h).face (2 * u + 1) → f ≡ 0 → (o a : List ℕ) → false ≡ breaks_circle (links_of o h a) P u
  unfolding links_of
  outer-t e z o a = sym (outer-right (links_of o h a) P u (sym e ∙ z))

  pub inner : {f g a b c d : ℕ} {x : Bool}
      → f ≡ (halves_of h).face (2 * u) → f ≢ 0
      → g ≡ (halves_of h).face (2 * u + 1) → g ≢ 0
      → a ≡ (halves_of h).origin (2 * u)
      → b ≡ (halves_of h).origin (2 * u + 1)
      → c ≡ (halves_of h).origin ((halves_of h).prev (2 * u))
      → d ≡ (halves_of h).origin ((halves_of h).prev (2 * u + 1))
      → x ≡ contained_in_circumference (P a) (P b) (P c) (P d)
      → (l k : List ℕ) → x ≡ breaks_circle (links_of l h k) P u
  unfolding links_of
  inner f i g j a b c d x l k =
      x ∙ rw (a, b, c, d) (sym (both-inner (links_of l h k) P u (λ z. i (f ∙ z)) (λ z. j (g ∙ z))))
