-- What an answer of the call `side_query` means: refusal 3 at the first point out of range, or the doubled area, of at most 2 ^ 50 in
-- size. Assumes nothing.
use Rattle.std.specs.Prelude.{Bool, cond, ℕ, ◌^◌, ◌<◌, ◌≤◌, ℤ, nat_abs, Ok, Err}
use Rattle.std.proofs.Math.Bool.{true, false}
use Rattle.std.proofs.Math.Path.{◌≡◌, refl}
use Rattle.std.proofs.Common.{arith}
use Rattle.std.proofs.lemmas.Bool.{not-false}
use Rattle.math.specs.declared.Point.{Point}
use Rattle.math.proofs.AreaBound.{area-bound}
use Rattle.math.specs.Determinant.{InRange, orient2d, is_valid_vertex}
use Rattle.math.proofs.Range.{in-range, valid-vertex}
use Rattle.mesh_check.specs.declared.Refusal.{Refusal}
use Rattle.mesh_check.specs.Check.{is_outside}
use Rattle.area.specs.Sided.{Sided}
use Rattle.area.specs.SideQuery.{side_refused, side_query_of}

pub inside : {p : Point} → is_outside p ≡ false → InRange p
inside {p} e = in-range (not-false (is_valid_vertex p) e)

-- ---- the four answers
module _ (p1 p2 q : Point) where
  pub first-outside : is_outside p1 ≡ true → side_refused 0 ≡ side_query_of p1 p2 q
  unfolding side_query_of
  first-outside e = rw e refl

  module _ (a : is_outside p1 ≡ false) where
    pub second-outside : is_outside p2 ≡ true → side_refused 1 ≡ side_query_of p1 p2 q
    unfolding side_query_of
    second-outside e = rw (a, e) refl

    module _ (b : is_outside p2 ≡ false) where
      pub third-outside : is_outside q ≡ true → side_refused 2 ≡ side_query_of p1 p2 q
      unfolding side_query_of
      third-outside e = rw (a, b, e) refl

      pub none-outside : is_outside q ≡ false → Ok (orient2d p1 p2 q) ≡ side_query_of p1 p2 q
      unfolding side_query_of
      none-outside e = rw (a, b, e) refl

  -- by what is found of the three points
  abbrev tested : Bool → Bool → Bool → Sided
  tested a b c = cond a (side_refused 0) (cond b (side_refused 1) (cond c (side_refused 2) (Ok (orient2d p1 p2 q))))

  -- ---- what they mean
  pub record SideAccepted (area : ℤ) : Type 0 where
    pub first : InRange p1
    pub second : InRange p2
    pub third : InRange q
    pub is : area ≡ orient2d p1 p2 q
    pub most : nat_abs area ≤ 2 ^ 50

  pub side-accepted : {area : ℤ} → side_query_of p1 p2 q ≡ Ok area → SideAccepted area
  unfolding side_query_of
  side-accepted {area} e = go (is_outside p1) (is_outside p2) (is_outside q) refl refl refl e
    where
      go : (a b c : Bool) → is_outside p1 ≡ a → is_outside p2 ≡ b → is_outside q ≡ c → tested a b c ≡ Ok area → SideAccepted area
      go true b c x y z e = absurd (let z : ◌≡◌ {A = ℕ} 0 1 = cc in omega arith)
      go false true c x y z e = absurd (let z : ◌≡◌ {A = ℕ} 0 1 = cc in omega arith)
      go false false true x y z e = absurd (let z : ◌≡◌ {A = ℕ} 0 1 = cc in omega arith)
      go false false false x y z e =
          let w : area ≡ orient2d p1 p2 q = cc in
          record {
            first = inside x;
            second = inside y;
            third = inside z;
            is = w;
            most = rw w (area-bound (inside x) (inside y) (inside z));
          }

  pub side-refused : {r : Refusal} → side_query_of p1 p2 q ≡ Err r → (r.number ≡ 3) × (r.place < 3)
  unfolding side_query_of
  side-refused {r} e = go (is_outside p1) (is_outside p2) (is_outside q) e
    where
      at : {n : ℕ} → n < 3 → side_refused n ≡ Err r → (r.number ≡ 3) × (r.place < 3)
      at {n} l e = let w : ◌≡◌ {A = Refusal} (record { number = 3; place = n }) r = cc in rw (← w) (refl, l)

      go : (a b c : Bool) → tested a b c ≡ Err r → (r.number ≡ 3) × (r.place < 3)
      go true b c e = at (omega arith) e
      go false true c e = at (omega arith) e
      go false false true e = at (omega arith) e
      go false false false e = absurd (let z : ◌≡◌ {A = ℕ} 0 1 = cc in omega arith)

  pub accepted-side : InRange p1 → InRange p2 → InRange q → side_query_of p1 p2 q ≡ Ok (orient2d p1 p2 q)
  unfolding side_query_of
  accepted-side a b c = rw (valid-vertex a, valid-vertex b, valid-vertex c) refl
