-- The look round the boundary for the edge at an angle: no edge so far holds it. Assumes nothing.
use mathlib.Core.Bool.{Bool, true, false}
use mathlib.Core.List.{List}
use mathlib.Core.Path.{◌≡◌, sym, ◌∙◌, ap, ap₂, subst}
use Prim.Native.Nat.{ℕ, ◌+◌, ◌<◌, ◌≤◌}
use native.Mathlib.Decide.{ℕ_discrete}
use native.Mathlib.Omega.{arith}
use lib.Dec.{T, T_not, eqb}
use lib.Ieee.{Float}
use lib.IntN.{ℤ}
use Rattle.angle.specs.Angle.{turns}
use Rattle.dcel.specs.Rows.{halves_of, There}
use Rattle.hull.proofs.Along.{next-at, angled}
use Rattle.hull.specs.Boundary.{AngledBoundary, Angled, AngleAt, edge_at, origin_turns}
use Rattle.ring.specs.Ring.{proper}
use Rattle.ring.proofs.SegmentsLaws.{holds-proper}
use Rattle.segment.specs.Arc.{holds}
use Rattle.sums.proofs.BitLaws.{is_false}
use Rattle.sums.proofs.BoundedLaws.{first-below-is}
use Rattle.ask.specs.AskRows.{edge_holds, edge_holding}

-- equal angles have no segment
pub equal-none : (x a b : ℕ) → eqb a b ≡ true → false ≡ holds x a b
unfolding proper
equal-none x a b e = sym (is_false (holds x a b) (λ t. T_not (eqb a b) (holds-proper x a b t) (subst T (sym e) tt)))

-- at the k-th edge e, whose origin is at the angle `from`
pub record Looking (p : List ℤ) (h : List ℕ) (cx cy : Float) (start size x e : ℕ) (from : Float) (k : ℕ) : Type 0 where
  pub boundary : AngledBoundary p h cx cy start
  pub at : e ≡ edge_at h start k
  pub most : k ≤ size
  pub angle : AngleAt p h cx cy e from
  pub none : (j : ℕ) → j < k → T (edge_holds p h cx cy start x j) → ⊥

module _ {p : List ℤ} {h : List ℕ} {cx cy : Float} {start size x e k : ℕ} {from : Float}
    (K : Looking p h cx cy start size x e from k) where
  pub there : There h e
  there = rw K.at (K.boundary.rows.there k)

  module _ {n : ℕ} (next : n ≡ (halves_of h).next e) where
    pub next-angled : Angled p h cx cy n
    next-angled = angled (k + 1) K.boundary (next-at h start k K.at next)

    module _ {to : Float} (A : AngleAt p h cx cy n to) {t : Bool} (is : t ≡ holds x (turns from) (turns to)) where
      test-is : t ≡ edge_holds p h cx cy start x k
      test-is =
          is ∙ ap₂ (holds x) (K.angle.turns-are ∙ ap (origin_turns p h cx cy) K.at)
          (A.turns-are ∙ ap (origin_turns p h cx cy) (next ∙ ap (halves_of h).next K.at))

      pub found : k < size → t ≡ true → e ≡ edge_holding p h cx cy start size x
      found l y =
          K.at ∙ ap (edge_at h start) (sym (first-below-is size (edge_holds p h cx cy start x) K.most (λ m. subst T (sym y ∙ test-is) tt)
          K.none))

      pub looking : k < size → t ≡ false → Looking p h cx cy start size x n to (k + 1)
      looking l y = record {
        boundary = K.boundary;
        at = next-at h start k K.at next;
        most = omega arith;
        angle = A;
        none = λ j u. go j u (ℕ_discrete j k);
      }
        where
          go : (j : ℕ) → j < k + 1 → Dec (j ≡ k) → T (edge_holds p h cx cy start x j) → ⊥
          go j u (yes z) w = subst T (sym test-is ∙ y) (subst (λ (i : ℕ). T (edge_holds p h cx cy start x i)) z w)
          go j u (no z) w = K.none j (omega arith) w

  pub not_found : size ≤ k → e ≡ edge_holding p h cx cy start size x
  not_found l =
      let m = K.most in
      let w : k ≡ size = omega arith in
      K.at ∙ ap (edge_at h start) (sym (first-below-is size (edge_holds p h cx cy start x) K.most (λ u. absurd (omega arith)) K.none))
