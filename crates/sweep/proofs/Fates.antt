-- What an added point's fate says: it has an angle, is at no end of the located edge, is strictly left of it, and the boundary that the
-- step would leave has a sound ring; what fate 4 says: all of this but the last; and what fate 2 says. Assumes nothing.
use Rattle.std.specs.Prelude.{Bool, true, false, not, cond, ◌≡◌, ℕ, T, eqb, Float}
use Rattle.std.proofs.Math.Path.{refl, sym, ap}
use Rattle.std.proofs.Common.{◌∙◌, arith}
use Rattle.angle.specs.Angle.{angle_about, at_center, turns}
use Rattle.decide.specs.declared.Fate.{Fate}
use Rattle.decide.specs.declared.Fate.TheVariants.{Added, Dropped, NotLeft, Unsound, AtCenter}
use Rattle.decide.specs.Decide.{Decided, fate_number, not_added, if_added, at_end, fate_at, decided_at, decided}
use Rattle.math.specs.declared.Point.{Point}
use Rattle.mesh.specs.declared.Counts.{Counts}
use Rattle.mesh.specs.Mesh.{Links}
use Rattle.ring.specs.Ring.{located}
use Rattle.sums.proofs.BitLaws.{from_false}
use Rattle.ring.specs.Center.{turns_about}
use Rattle.ring.specs.Chain.{sees_edge, sound_after, left_chain, right_chain}
use Rattle.sweep.specs.Step.{is_added}

-- fate 1 is that of an added point
pub number-added : (f : Fate) → eqb (fate_number f) 1 ≡ is_added f
unfolding fate_number is_added
number-added (Added v) = refl
number-added Dropped = refl
number-added NotLeft = refl
number-added Unsound = refl
number-added AtCenter = refl

-- of a point off the centre, and of one with an angle
center-cases : (c : Bool) (X : Decided) {n : ℕ} → (cond c (record { fate = AtCenter; edge = 0; left = 0; right = 0 }) X).fate ≡ Added n → c
    ≡ false
center-cases true X e = absurd (let z : ◌≡◌ {A = ℕ} 0 1 = cc in omega arith)
center-cases false X e = refl

fate-cases : (a s t : Bool) {m n : ℕ} → cond a Dropped (cond (not s) NotLeft (cond (not t) Unsound (Added m))) ≡ Added n → T s × T t
    × (m ≡ n)
fate-cases true s t e = absurd (let z : ◌≡◌ {A = ℕ} 0 1 = cc in omega arith)
fate-cases false false t e = absurd (let z : ◌≡◌ {A = ℕ} 0 1 = cc in omega arith)
fate-cases false true false e = absurd (let z : ◌≡◌ {A = ℕ} 0 1 = cc in omega arith)
fate-cases false true true e = (tt, tt, cc)

-- the same of fate 4
center-unsound : (c : Bool) (X : Decided) → (cond c (not_added AtCenter) X).fate ≡ Unsound → c ≡ false
center-unsound true X e = absurd (let z : ◌≡◌ {A = ℕ} 0 1 = cc in omega arith)
center-unsound false X e = refl

unsound-cases : (a s t : Bool) (m : ℕ) → cond a Dropped (cond (not s) NotLeft (cond (not t) Unsound (Added m))) ≡ Unsound
    → T s × (t ≡ false)
unsound-cases true s t m e = absurd (let z : ◌≡◌ {A = ℕ} 0 1 = cc in omega arith)
unsound-cases false false t m e = absurd (let z : ◌≡◌ {A = ℕ} 0 1 = cc in omega arith)
unsound-cases false true false m e = (tt, refl)
unsound-cases false true true m e = absurd (let z : ◌≡◌ {A = ℕ} 0 1 = cc in omega arith)

-- and of fate 2
center-dropped : (c : Bool) (X : Decided) → (cond c (not_added AtCenter) X).fate ≡ Dropped → c ≡ false
center-dropped true X e = absurd (let z : ◌≡◌ {A = ℕ} 0 1 = cc in omega arith)
center-dropped false X e = refl

dropped-cases : (a s t : Bool) (m : ℕ) → cond a Dropped (cond (not s) NotLeft (cond (not t) Unsound (Added m))) ≡ Dropped → T a
dropped-cases true s t m e = tt
dropped-cases false false t m e = absurd (let z : ◌≡◌ {A = ℕ} 0 1 = cc in omega arith)
dropped-cases false true false m e = absurd (let z : ◌≡◌ {A = ℕ} 0 1 = cc in omega arith)
dropped-cases false true true m e = absurd (let z : ◌≡◌ {A = ℕ} 0 1 = cc in omega arith)

added_is : (f : Fate) {m n : ℕ} → f ≡ Added m → if_added f n ≡ n
unfolding if_added
added_is f e = rw e refl

module _ (cx cy : Float) (C : Counts) (L : Links) (p : ℕ → Point) (v : Point) where
  -- the angles of the mesh's vertices, the point's, and the boundary edge that is located there
  abbrev α : ℕ → ℕ
  α = turns_about cx cy p

  abbrev q : ℕ
  q = turns (angle_about v.x v.y cx cy)

  abbrev e : ℕ
  e = located C L α q

  pub record IsAdded (n : ℕ) (D : Decided) : Type 0 where
    pub off-center : T (not (at_center v.x v.y cx cy))
    pub next : n ≡ C.vertices
    pub edge : D.edge ≡ e
    pub seen : T (sees_edge L p v e)
    pub sound : T (sound_after C L p α v q e)
    pub left : D.left ≡ left_chain C L p α v q e
    pub right : D.right ≡ right_chain C L p α v q e

  -- a point off the centre
  pub decided-off : at_center v.x v.y cx cy ≡ false → decided cx cy C L p v ≡ decided_at C L p α v q e
  unfolding decided
  decided-off z = rw z refl

  pub added-off : {n : ℕ} → (decided cx cy C L p v).fate ≡ Added n → at_center v.x v.y cx cy ≡ false
  unfolding decided
  added-off z = center-cases (at_center v.x v.y cx cy) (decided_at C L p α v q e) z

  pub is-added : {n : ℕ} → (decided cx cy C L p v).fate ≡ Added n → IsAdded n (decided cx cy C L p v)
  unfolding decided_at fate_at
  is-added z =
      let c = added-off z in
      let d = decided-off c in
      let f = sym (ap (λ (D : Decided). D.fate) d) ∙ z in
      let k = fate-cases (at_end L p v e) (sees_edge L p v e) (sound_after C L p α v q e) f in
      record {
        off-center = from_false c;
        next = sym k.2;
        edge = ap (λ (D : Decided). D.edge) d ∙ added_is (fate_at C L p α v q e) f;
        seen = k.0;
        sound = k.1;
        left = ap (λ (D : Decided). D.left) d ∙ added_is (fate_at C L p α v q e) f;
        right = ap (λ (D : Decided). D.right) d ∙ added_is (fate_at C L p α v q e) f;
      }

  pub is-dropped : (decided cx cy C L p v).fate ≡ Dropped → T (at_end L p v e)
  unfolding decided decided_at fate_at
  is-dropped z =
      let c = center-dropped (at_center v.x v.y cx cy) (decided_at C L p α v q e) z in
      dropped-cases (at_end L p v e) (sees_edge L p v e) (sound_after C L p α v q e) C.vertices
      (sym (ap (λ (D : Decided). D.fate) (decided-off c)) ∙ z)

  pub is-unsound : (decided cx cy C L p v).fate ≡ Unsound
      → T (sees_edge L p v e) × (sound_after C L p α v q e ≡ false)
  unfolding decided decided_at fate_at
  is-unsound z =
      let c = center-unsound (at_center v.x v.y cx cy) (decided_at C L p α v q e) z in
      unsound-cases (at_end L p v e) (sees_edge L p v e) (sound_after C L p α v q e) C.vertices
      (sym (ap (λ (D : Decided). D.fate) (decided-off c)) ∙ z)
