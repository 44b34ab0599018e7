-- What `should_flip` answers, by what `far` says of the edge's two halves. Assumes nothing.
use mathlib.Core.Bool.{Bool, false}
use mathlib.Core.List.{List}
use mathlib.Core.Logic.{◌≢◌}
use mathlib.Core.Path.{◌≡◌, refl, subst⁻¹}
use Prim.Native.Nat.{ℕ, zero, suc, ◌+◌, ◌*◌}
use native.Mathlib.Omega.{arith}
use lib.IntN.{ℤ}
use Rattle.math.specs.declared.Point.{Point}
use Rattle.math.specs.Determinant.{contained_in_circumference}
use Rattle.mesh.specs.Circle.{breaks_circle}
use Rattle.dcel.specs.declared.handles.Far.{Far}
use Rattle.dcel.specs.Far.{far_in}
use Rattle.dcel.specs.Rows.{halves_of, links_of, Placed}
use Rattle.circle_test.specs.BreaksLaws.{outer-e, outer-t, inner}

is-outer : {r : Far} (f v : ℕ) → r ≡ far_in f v → r ≡ Far.Outer → f ≡ 0
unfolding far_in
is-outer zero v e d = refl
is-outer (suc f) v e d = absurd (let z : ◌≡◌ {A = ℕ} 0 1 = cc in omega arith)

is-inner : {r : Far} {c : ℕ} (f v : ℕ) → r ≡ far_in f v → r ≡ Far.Vertex c → f ≢ 0
unfolding far_in
is-inner zero v e d k = let z : ◌≡◌ {A = ℕ} 0 1 = cc in omega arith
is-inner (suc f) v e d k = omega arith

is-vertex : {r : Far} {c : ℕ} (f v : ℕ) → r ≡ far_in f v → r ≡ Far.Vertex c → c ≡ v
unfolding far_in
is-vertex zero v e d = absurd (let z : ◌≡◌ {A = ℕ} 0 1 = cc in omega arith)
is-vertex (suc f) v e d = cc

module _ (P : ℕ → Point) (h : List ℕ) (u : ℕ) where
  pub far-outer-e : {r : Far} → r ≡ far_in ((halves_of h).face (2 * u)) ((halves_of h).origin ((halves_of h).prev (2 * u))) → r ≡ Far.Outer
      → (o a : List ℕ) → false ≡ breaks_circle (links_of o h a) P u
  far-outer-e e d = outer-e P h u refl (is-outer _ _ e d)

  pub far-outer-t : {r : Far} → r ≡ far_in ((halves_of h).face (2 * u + 1)) ((halves_of h).origin ((halves_of h).prev (2 * u + 1)))
      → r ≡ Far.Outer → (o a : List ℕ) → false ≡ breaks_circle (links_of o h a) P u
  far-outer-t e d = outer-t P h u refl (is-outer _ _ e d)

  pub far-inner : {r s : Far} {a b c d : ℕ} {x : Bool}
      → r ≡ far_in ((halves_of h).face (2 * u)) ((halves_of h).origin ((halves_of h).prev (2 * u))) → r ≡ Far.Vertex c
      → s ≡ far_in ((halves_of h).face (2 * u + 1)) ((halves_of h).origin ((halves_of h).prev (2 * u + 1))) → s ≡ Far.Vertex d
      → a ≡ (halves_of h).origin (2 * u) → b ≡ (halves_of h).origin (2 * u + 1) → x ≡ contained_in_circumference (P a) (P b) (P c) (P d)
      → (l k : List ℕ) → x ≡ breaks_circle (links_of l h k) P u
  far-inner r c s d a b x =
      inner P h u refl (is-inner _ _ r c) refl (is-inner _ _ s d) a b (is-vertex _ _ r c) (is-vertex _ _ s d) x

-- a far vertex has a position where the origin of prev has one
pub far-placed : {q : List ℤ} {r : Far} {c : ℕ} (f v : ℕ) → r ≡ far_in f v → r ≡ Far.Vertex c → Placed q v → Placed q c
far-placed {q} f v e d h = subst⁻¹ (Placed q) (is-vertex f v e d) h
