-- What holds on the way around the boundary: no vertex so far at the centre, the counts so far. Assumes nothing.
use Prim.Native.Nat.{ℕ, ◌+◌, ◌*◌, ◌<◌, ◌≤◌}
use native.Mathlib.Decide.{ℕ_discrete}
use native.Mathlib.Numerals.{add-one}
use native.Mathlib.Omega.{arith}
use mathlib.Core.Path.{◌≡◌, refl, sym, ◌∙◌, ap, ap₂, subst}
use mathlib.Core.Bool.{Bool, true, false, ◌&&◌}
use mathlib.Core.List.{List}
use lib.Dec.{T, ltb, leb, eqb}
use lib.IntN.{ℤ}
use lib.Ieee.{Float}
use lib.ListN.{length}
use Rattle.sums.specs.Bit.{bit}
use Rattle.sums.proofs.BitLaws.{is_true, is_false}
use Rattle.sums.specs.Bounded.{any_below}
use Rattle.sums.proofs.BoundedLaws.{any-below→, any-below←}
use Rattle.sums.specs.Tally.{walk, tally}
use Rattle.sums.proofs.TallyLaws.{tally-last, tally-most}
use Rattle.angle.specs.Angle.{IsAngle, turns, at_center, angle_about}
use Rattle.segment.specs.Arc.{wide}
use Rattle.math.specs.declared.Point.{Point}
use Rattle.dcel.specs.Rows.{halves_of, position_of, There}
use Rattle.ring.specs.Ring.{full_turn, at_ends, wraps, is_strict}
use Rattle.ring.specs.Center.{turns_about}
use Rattle.hull.specs.Boundary.{BoundaryRows, AngledBoundary, Angled, AngleAt, edge_at, origin_turns, origin_at_center, angles_of, vertex_at_center}
use Rattle.hull.proofs.Along.{next-at, angled}
use Rattle.hull.proofs.Strict.{strict-counts}

-- ---- the point at the origin of e, as it is read
module _ (p : List ℤ) (h : List ℕ) (e : ℕ) {v : ℕ} {P : Point} {x y : ℤ} (q : v ≡ (halves_of h).origin e) (r : P ≡ position_of p v) (x-is : x ≡ P.x) (y-is : y ≡ P.y) where
  pub center-at : (cx cy : Float) → at_center x y cx cy ≡ origin_at_center p h cx cy e
  unfolding vertex_at_center
  center-at cx cy = rw (x-is, y-is, r, q)

  pub angle-is : {cx cy : Float} {a : Float} → a ≡ angle_about x y cx cy → IsAngle a → AngleAt p h cx cy e a
  unfolding turns_about
  angle-is {cx} {cy} {a} z i = record { is-angle = i; turns-are = ap turns z ∙ rw (x-is, y-is, r, q) }

-- ---- is one at the centre?
pub record Meeting (p : List ℤ) (h : List ℕ) (cx cy : Float) (start size e k : ℕ) : Type 0 where
  pub rows : BoundaryRows p h start
  pub at : e ≡ edge_at h start k
  pub most : k ≤ size
  pub none : (j : ℕ) → j < k → T (origin_at_center p h cx cy (edge_at h start j)) → ⊥

module _ {p : List ℤ} {h : List ℕ} {cx cy : Float} {start size e k : ℕ} (K : Meeting p h cx cy start size e k) where
  pub there : There h e
  there = rw K.at (K.rows.there k)

  pub placed : {v : ℕ} → v ≡ (halves_of h).origin e → 2 * v + 1 < length p
  placed q = rw (q, K.at) (K.rows.placed k)

  module _ {t : Bool} (q : t ≡ origin_at_center p h cx cy e) where
    pub met : k < size → t ≡ true → true ≡ any_below size (λ j. origin_at_center p h cx cy (edge_at h start j))
    met l y = sym (is_true (any_below size (λ j. origin_at_center p h cx cy (edge_at h start j))) (any-below← size (λ j. origin_at_center p h cx cy (edge_at h start j)) k l (subst (λ (x : ℕ). T (origin_at_center p h cx cy x)) K.at (subst T (sym y ∙ q) tt))))

    pub meeting : {n : ℕ} → k < size → t ≡ false → n ≡ (halves_of h).next e → Meeting p h cx cy start size n (k + 1)
    meeting {n} l y d = record { rows = K.rows; at = next-at h start k K.at d; most = omega arith; none = λ j u. go j u (ℕ_discrete j k) }
      where
        go : (j : ℕ) → j < k + 1 → Dec (j ≡ k) → T (origin_at_center p h cx cy (edge_at h start j)) → ⊥
        go j u (yes z) w = subst T (sym q ∙ y) (subst (λ (x : ℕ). T (origin_at_center p h cx cy x)) (ap (edge_at h start) z ∙ sym K.at) w)
        go j u (no z) w = K.none j (omega arith) w

  pub unmet : size ≤ k → false ≡ any_below size (λ j. origin_at_center p h cx cy (edge_at h start j))
  unmet l = sym (is_false (any_below size (λ j. origin_at_center p h cx cy (edge_at h start j))) (λ t. let r = any-below→ size (λ j. origin_at_center p h cx cy (edge_at h start j)) t in K.none r.0 (let a = r.1 in omega arith) r.2))

-- ---- the counts of a strict ring
pub record Counting (p : List ℤ) (h : List ℕ) (cx cy : Float) (start size e : ℕ) (from : Float) (wrapped wides equals k : ℕ) : Type 0 where
  pub boundary : AngledBoundary p h cx cy start
  pub at : e ≡ edge_at h start k
  pub most : k ≤ size
  pub angle : AngleAt p h cx cy (edge_at h start k) from
  pub wrap-count : wrapped ≡ tally (at_ends wraps (halves_of h).next (origin_turns p h cx cy)) (walk k (halves_of h).next start)
  pub wide-count : wides ≡ tally (at_ends (wide full_turn) (halves_of h).next (origin_turns p h cx cy)) (walk k (halves_of h).next start)
  pub equal-count : equals ≡ tally (at_ends eqb (halves_of h).next (origin_turns p h cx cy)) (walk k (halves_of h).next start)

pub counting : {p : List ℤ} {h : List ℕ} {cx cy : Float} {start size : ℕ} {from : Float} → AngledBoundary p h cx cy start → AngleAt p h cx cy start from → Counting p h cx cy start size start from 0 0 0 0
unfolding tally walk
counting B a = record { boundary = B; at = refl; most = omega arith; angle = a; wrap-count = refl; wide-count = refl; equal-count = refl }

module _ {p : List ℤ} {h : List ℕ} {cx cy : Float} {start size e : ℕ} {from : Float} {wrapped wides equals k : ℕ} (K : Counting p h cx cy start size e from wrapped wides equals k) where
  pub here-angled : Angled p h cx cy e
  here-angled = angled k K.boundary K.at

  pub small-counts : (wrapped ≤ k) × (wides ≤ k) × (equals ≤ k)
  small-counts =
      let a = K.wrap-count in let b = K.wide-count in let c = K.equal-count in
      let f = tally-most (at_ends wraps (halves_of h).next (origin_turns p h cx cy)) (halves_of h).next k start in
      let g = tally-most (at_ends (wide full_turn) (halves_of h).next (origin_turns p h cx cy)) (halves_of h).next k start in
      let i = tally-most (at_ends eqb (halves_of h).next (origin_turns p h cx cy)) (halves_of h).next k start in
      (omega arith, omega arith, omega arith)

  module _ {n : ℕ} (d : n ≡ (halves_of h).next e) where
    pub next-angled : Angled p h cx cy n
    next-angled = angled (k + 1) K.boundary (next-at h start k K.at d)

    module _ {to : Float} (a : AngleAt p h cx cy n to) where
      -- one more pair of a test
      more-count : (φ : ℕ → ℕ → Bool) {c b : ℕ} {t : Bool} → c ≡ tally (at_ends φ (halves_of h).next (origin_turns p h cx cy)) (walk k (halves_of h).next start) → b ≡ bit t → t ≡ φ (turns from) (turns to)
          → c + b ≡ tally (at_ends φ (halves_of h).next (origin_turns p h cx cy)) (walk (k + 1) (halves_of h).next start)
      more-count φ {c} {b} {t} e₁ e₂ e₃ =
          ap₂ ◌+◌ e₁ (e₂ ∙ ap bit (e₃ ∙ ap₂ φ K.angle.turns-are (a.turns-are ∙ ap (origin_turns p h cx cy) (d ∙ ap (halves_of h).next K.at))))
          ∙ sym (tally-last (at_ends φ (halves_of h).next (origin_turns p h cx cy)) (halves_of h).next k start)
          ∙ ap (λ (j : ℕ). tally (at_ends φ (halves_of h).next (origin_turns p h cx cy)) (walk j (halves_of h).next start)) (sym (add-one k))

      pub counted : {b₁ b₂ b₃ : ℕ} {t₁ t₂ t₃ : Bool} → k < size → b₁ ≡ bit t₁ → t₁ ≡ ltb (turns to) (turns from) → b₂ ≡ bit t₂ → t₂ ≡ wide full_turn (turns from) (turns to) → b₃ ≡ bit t₃ → t₃ ≡ eqb (turns from) (turns to)
          → Counting p h cx cy start size n to (wrapped + b₁) (wides + b₂) (equals + b₃) (k + 1)
      unfolding wraps
      counted l e₁ f₁ e₂ f₂ e₃ f₃ = record {
        boundary = K.boundary;
        at = next-at h start k K.at d;
        most = omega arith;
        angle = subst (λ (x : ℕ). AngleAt p h cx cy x to) (next-at h start k K.at d) a;
        wrap-count = more-count wraps K.wrap-count e₁ f₁;
        wide-count = more-count (wide full_turn) K.wide-count e₂ f₂;
        equal-count = more-count eqb K.equal-count e₃ f₃;
      }

  pub strict-end : {r : Bool} → edge_at h start size ≡ start → size ≤ k → r ≡ (leb 3 size && eqb wrapped 1 && eqb wides 0 && eqb equals 0) → r ≡ is_strict full_turn (angles_of p h cx cy start size)
  strict-end {r} c l q =
      let z : k ≡ size = (let m = K.most in the k size m l) in
      q ∙ ap (λ (x : ℕ). leb 3 size && eqb x 1 && eqb wides 0 && eqb equals 0) (K.wrap-count ∙ ap (λ (j : ℕ). tally (at_ends wraps (halves_of h).next (origin_turns p h cx cy)) (walk j (halves_of h).next start)) z)
      ∙ ap (λ (x : ℕ). leb 3 size && eqb (tally (at_ends wraps (halves_of h).next (origin_turns p h cx cy)) (walk size (halves_of h).next start)) 1 && eqb x 0 && eqb equals 0) (K.wide-count ∙ ap (λ (j : ℕ). tally (at_ends (wide full_turn) (halves_of h).next (origin_turns p h cx cy)) (walk j (halves_of h).next start)) z)
      ∙ ap (λ (x : ℕ). leb 3 size && eqb (tally (at_ends wraps (halves_of h).next (origin_turns p h cx cy)) (walk size (halves_of h).next start)) 1 && eqb (tally (at_ends (wide full_turn) (halves_of h).next (origin_turns p h cx cy)) (walk size (halves_of h).next start)) 0 && eqb x 0) (K.equal-count ∙ ap (λ (j : ℕ). tally (at_ends eqb (halves_of h).next (origin_turns p h cx cy)) (walk j (halves_of h).next start)) z)
      ∙ strict-counts full_turn (halves_of h).next (origin_turns p h cx cy) start size c
    where
      the : (k size : ℕ) → k ≤ size → size ≤ k → k ≡ size
      the k size a b = omega arith
