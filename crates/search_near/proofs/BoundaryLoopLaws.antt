-- Laws of specs/BoundaryLoop.antt.
use Rattle.std.proofs.Math.Bool.{Bool, true, false}
use Rattle.std.specs.Prelude.{List, ◌≡◌, ℕ, suc, ◌+◌, ◌<◌, ◌≤◌, ℤ, length}
use Rattle.std.proofs.Math.Path.{refl, sym, ap, ap₂, subst}
use Rattle.std.proofs.Common.{◌∙◌, add-one, arith, below_more}
use Rattle.std.proofs.Math.Dec.{T, eqb}
use Rattle.circle_test.specs.GoodRows.{GoodRows, held}
use Rattle.dcel.specs.Rows.{halves_of, links_of, position_of, row_of, There}
use Rattle.dcel.specs.MeshHeld.{there, there-rev, there-adjacent, origin-in, to_in}
use Rattle.math.specs.declared.Point.{Point}
use Rattle.math.specs.declared.Vector.{Vector}
use Rattle.math.specs.Determinant.{InRange}
use Rattle.math.specs.Vector.{Short, difference}
use Rattle.math.proofs.VectorLaws.{short}
use Rattle.mesh.specs.declared.Counts.{Counts}
use Rattle.mesh.specs.Mesh.{Links, In}
use Rattle.mesh.specs.Area.{boundary_length, hull_edge}
use Rattle.mesh.proofs.BoundaryLaws.{boundary-below}
use Rattle.mesh.proofs.CountsLaws.{faces-least}
use Rattle.nearby.specs.Test.{is_right_turn, turns_right, is_walkable}
use Rattle.outline.specs.Outline.{direction, falls_next, count_boundary}
use Rattle.sums.specs.Bit.{bit}
use Rattle.sums.proofs.BitLaws.{is_true, is_false, from-true}
use Rattle.sums.specs.Bounded.{all_below, count}
use Rattle.sums.proofs.BoundedLaws.{all-below→, all-below←, count-suc, count-le}
use Rattle.sums.specs.Half.{rev}
use Rattle.sums.proofs.IterateLaws.{iter-last}
use Rattle.search_near.specs.NearRows.{DirectionReady, DirectionIs, fall_bit}
use Rattle.search_near.specs.BoundaryLoop.{Along}

-- ---- one direction
module _ {q : List ℤ} {h : List ℕ} {e : ℕ} (R : DirectionReady q h e) {u w : ℕ} (x : u ≡ (halves_of h).origin e)
    (y : w ≡ (halves_of h).origin (rev e)) {from to : Point} (f : from ≡ position_of q u) (t : to ≡ position_of q w) where
  pub direction-range : InRange to × InRange from
  direction-range = (rw (t, y) R.to.range, rw (f, x) R.from.range)

  pub direction-is : {v : Vector} → v ≡ difference to from → DirectionIs q h e v
  direction-is d =
      let k = d ∙ ap₂ difference (t ∙ ap (position_of q) y) (f ∙ ap (position_of q) x) in
      record { is = k; short = short k R.to.range R.from.range }

-- ---- the loop
module _ {C : Counts} {q : List ℤ} {o h a : List ℕ} (R : GoodRows C q o h a) where
  pub first-there : 0 < length a
  first-there = there-adjacent (held R) (let k = faces-least R.good.wf in omega arith)

  edge-ready : {e : ℕ} → In C e → DirectionReady q h e
  edge-ready l = record {
    here = there (held R) l;
    back = there-rev (held R) l;
    from = record { there = let k = R.positions in let i = origin-in (held R) l in omega arith; range = R.good.range (origin-in (held R) l) };
    to = record { there = let k = R.positions in let i = to_in (held R) l in omega arith; range = R.good.range (to_in (held R) l) };
  }

  hull-ready : (k : ℕ) {e : ℕ} → e ≡ hull_edge (links_of o h a) k → DirectionReady q h e
  hull-ready k x = rw x (edge-ready (boundary-below R.good.wf k))

  pub first-ready : {e : ℕ} → e ≡ row_of a 0 → DirectionReady q h e
  unfolding links_of
  first-ready x = hull-ready 0 x

hull-next : (o h a : List ℕ) {d e : ℕ} (k : ℕ) → d ≡ hull_edge (links_of o h a) k → e ≡ (halves_of h).next d
    → e ≡ hull_edge (links_of o h a) (suc k)
unfolding links_of
hull-next o h a k x y = y ∙ ap (halves_of h).next x ∙ sym (iter-last k (halves_of h).next (row_of a 0))

direction-of : (o a : List ℕ) {q : List ℤ} {h : List ℕ} {e : ℕ} {v : Vector} → DirectionIs q h e v → v ≡ direction (links_of o h a) (position_of q) e
unfolding direction links_of
direction-of o a D = D.is

pub along-start : {q : List ℤ} {o h a : List ℕ} (size : ℕ) {e : ℕ} {v : Vector} → e ≡ row_of a 0 → DirectionIs q h e v
    → Along q o h a size e v 0 0
unfolding links_of count
along-start size x D = record { at = x; is = D; turns = λ j l. absurd (omega arith); falls = refl; most = omega arith }

-- the half-edge that follows is of the boundary too
module _ {C : Counts} {q : List ℤ} {o h a : List ℕ} {size e : ℕ} {from : Vector} {circles k : ℕ} (R : GoodRows C q o h a)
    (A : Along q o h a size e from circles k) where
  pub along-there : There h e
  along-there = (hull-ready R k A.at).here

  pub along-ready : {d : ℕ} → d ≡ (halves_of h).next e → DirectionReady q h d
  along-ready n = hull-ready R (suc k) (hull-next o h a k A.at n)

module _ {q : List ℤ} {o h a : List ℕ} {size e : ℕ} {from : Vector} {circles k : ℕ} (A : Along q o h a size e from circles k)
    {d : ℕ} (n : d ≡ (halves_of h).next e) {to : Vector} (D : DirectionIs q h d to) where
  abbrev L : Links
  L = links_of o h a

  here : from ≡ direction (links_of o h a) (position_of q) (hull_edge (links_of o h a) k)
  here = direction-of o a A.is ∙ ap (direction (links_of o h a) (position_of q)) A.at

  after : to ≡ direction (links_of o h a) (position_of q) ((links_of o h a).next (hull_edge (links_of o h a) k))
  unfolding links_of
  after = direction-of o a D ∙ ap (direction (links_of o h a) (position_of q)) (n ∙ ap (halves_of h).next A.at)

  turn_is : is_right_turn from to ≡ turns_right (links_of o h a) (position_of q) (hull_edge (links_of o h a) k)
  turn_is = ap₂ is_right_turn here after

  fall-is : fall_bit from to ≡ bit (falls_next (links_of o h a) (position_of q) (hull_edge (links_of o h a) k))
  unfolding falls_next
  fall-is = ap₂ fall_bit here after

  pub turn-short : Short from × Short to
  turn-short = (A.is.short, D.short)

  module _ {b : Bool} (t : b ≡ is_right_turn from to) where
    -- a corner fails: so does the test
    pub along-fails : {C : Counts} → GoodRows C q o h a → size ≡ boundary_length C (links_of o h a) → k < size → b ≡ false
        → false ≡ is_walkable C (links_of o h a) (position_of q)
    unfolding is_walkable
    along-fails {C} R s l f =
        let all : Bool = all_below (boundary_length C (links_of o h a)) (λ k. turns_right (links_of o h a) (position_of q) (hull_edge (links_of o h a) k)) in
        let z : all ≡ false = is_false all (λ g. let y = all-below→ (boundary_length C (links_of o h a)) (λ k. turns_right (links_of o h a) (position_of q) (hull_edge (links_of o h a) k)) g k (rw s at l) in
        subst T (sym turn_is ∙ sym t ∙ f) y) in
        rw z refl

    pub along-next : k < size → b ≡ true → {c : ℕ} → c ≡ fall_bit from to → Along q o h a size d to (circles + c) (k + 1)
    along-next l f {c} x = record {
      at = hull-next o h a k A.at n ∙ ap (hull_edge (links_of o h a)) (sym (add-one k));
      is = D;
      turns = below_more _ _ A.turns (subst T (turn_is) (from-true (sym t ∙ f)));
      falls = (let u = x ∙ fall-is in let v = A.falls in
          let w = count-suc k (λ j. falls_next (links_of o h a) (position_of q) (hull_edge (links_of o h a) j)) in
          let y = ap (λ (i : ℕ). count i (λ j. falls_next (links_of o h a) (position_of q) (hull_edge (links_of o h a) j))) (add-one k) in omega arith);
      most = omega arith;
    }

module _ {q : List ℤ} {o h a : List ℕ} {size e : ℕ} {from : Vector} {circles k : ℕ} (A : Along q o h a size e from circles k) where
  pub along-few : circles ≤ k
  along-few = let f = A.falls in let m = count-le k (λ j. falls_next (links_of o h a) (position_of q) (hull_edge (links_of o h a) j)) in omega arith

  -- all corners passed
  pub along-end : (C : Counts) → size ≡ boundary_length C (links_of o h a) → size ≤ k → eqb circles 1 ≡ is_walkable C (links_of o h a) (position_of q)
  unfolding is_walkable count_boundary
  along-end C s l =
      let z : k ≡ boundary_length C (links_of o h a) = (let m = A.most in omega arith) in
      let all : Bool = all_below (boundary_length C (links_of o h a)) (λ k. turns_right (links_of o h a) (position_of q) (hull_edge (links_of o h a) k)) in
      let y : all ≡ true = is_true all (all-below← (boundary_length C (links_of o h a)) (λ k. turns_right (links_of o h a) (position_of q) (hull_edge (links_of o h a) k))
      (λ j m. A.turns j (omega arith))) in
      let x : circles ≡ count (boundary_length C (links_of o h a)) (λ j. falls_next (links_of o h a) (position_of q) (hull_edge (links_of o h a) j)) =
      A.falls ∙ ap (λ (i : ℕ). count i (λ j. falls_next (links_of o h a) (position_of q) (hull_edge (links_of o h a) j))) z in
      rw y (ap (λ (i : ℕ). eqb i 1) x)
