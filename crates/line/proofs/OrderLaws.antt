-- The order of positions: keys, and what it means for points on one line. Assumes nothing.
use Rattle.std.specs.Prelude.{◌≡◌, Bool, true, false, not, ◌&&◌, ◌||◌, ◌⊎◌, List, [], ◌∷◌, ℕ, ℤ, neg_ℤ, nat_abs, ◌+ℤ◌, ◌-ℤ◌, ◌*ℤ◌}
use Rattle.std.proofs.Math.Path.{refl}
use Rattle.std.proofs.Common.{sym, ◌∙◌, ap, subst, ⊎_elim, inl, inr}
use Rattle.std.proofs.Math.Dec.{T}
use Rattle.std.proofs.Math.IntN.{pos}
use lib.Signed.{lt_z, le_z, ◌<ℤ◌, ◌≤ℤ◌, lt_z_yes, le_z_yes, lt_z_no, clash_ℤ}
use Rattle.algebra.proofs.Bound.{abs-le, abs-ge}
use Rattle.algebra.proofs.Order.{le_antisymm}
use Rattle.algebra.specs.Ring.{E, var, num, ◌⊕◌, ◌⊖◌, ◌⊗◌, ⊝◌}
use Rattle.algebra.proofs.RingLaws.{v0, v1, v2, v3, #◌, ring}
use Rattle.algebra.proofs.Sign.{Pos, NN, Zero, ◌*⁺◌, ◌*°◌, ◌+⁺◌, ◌+°◌, ◌+⁰◌, ◌*⁰◌, weak, less1, pos-in, nn-in, lt_in, le_in, cases, pos-by, lt_by, le-by, eq-in, eq-by, zero°, refute}
use Rattle.math.specs.declared.Point.{Point}
use Rattle.math.specs.Determinant.{Pt, Orient2d, orient2d, InRange}
use Rattle.math.proofs.Plane.{E·}
use Rattle.sums.proofs.BitLaws.{or_cases, or_left, or_right, and_left, and_right, and_both, test}
use Rattle.line.specs.Order.{comes_before, is_same_of, key}

not_T : (t : Bool) → T (not t) → T t → ⊥
not_T true n t = n
not_T false n t = t

-- ---- neither before the other: the same position
pub is_same : (a b : Point) → T (is_same_of a b) → a ≡ b
unfolding is_same_of comes_before
is_same a b t = λ i. record { x = ex i; y = ey i }
  where
    nab : T (comes_before a b) → ⊥
    nab = not_T (comes_before a b) (and_left (not (comes_before a b)) (not (comes_before b a)) t)

    nba : T (comes_before b a) → ⊥
    nba = not_T (comes_before b a) (and_right (not (comes_before a b)) (not (comes_before b a)) t)

    at_least : (x y : ℤ) → (T (lt_z x y) → ⊥) → y ≤ℤ x
    at_least x y n = ⊎_elim (λ h. absurd (n h)) (λ h. lt_z_no h) (test (lt_z x y))

    ex : a.x ≡ b.x
    ex = le_antisymm (at_least b.x a.x (λ h. nba (or_left (lt_z b.x a.x) _ h))) (at_least a.x b.x (λ h. nab (or_left (lt_z a.x b.x) _ h)))

    le-x : {x y : ℤ} → x ≡ y → T (le_z x y)
    le-x {x} e = subst (λ (y : ℤ). T (le_z x y)) e (lib.Signed.≤ℤ_refl x).le

    ey : a.y ≡ b.y
    ey = le_antisymm
        (at_least b.y a.y (λ h. nba (or_right (lt_z b.x a.x) _ (and_both (le_z b.x a.x) _ (le-x (sym ex)) h))))
        (at_least a.y b.y (λ h. nab (or_right (lt_z a.x b.x) _ (and_both (le_z a.x b.x) _ (le-x ex) h))))

-- one of the three
pub three_ways : (a b : Point) → T (is_same_of a b) ⊎ T (comes_before a b) ⊎ T (comes_before b a)
unfolding is_same_of
three_ways a b = go (test (comes_before a b)) (test (comes_before b a))
  where
    go : T (comes_before a b) ⊎ T (not (comes_before a b)) → T (comes_before b a) ⊎ T (not (comes_before b a))
        → T (not (comes_before a b) && not (comes_before b a)) ⊎ T (comes_before a b) ⊎ T (comes_before b a)
    go (inl h) k = inr (inl h)
    go (inr h) (inl k) = inr (inr k)
    go (inr h) (inr k) = inl (and_both (not (comes_before a b)) (not (comes_before b a)) h k)

-- ---- keys: in range they are in the order of x, then y
module _ (a b : Point) (ra : InRange a) (rb : InRange b) where
  abbrev ρ : List ℤ
  ρ = a.x ∷ a.y ∷ b.x ∷ b.y ∷ []

  low-a : NN ρ (v1 ⊖ ⊝ # 16777216)
  low-a = le_in ρ (⊝ # 16777216) v1 (abs-ge ra.y)

  high-a : NN ρ (# 16777216 ⊖ v1)
  high-a = le_in ρ v1 (# 16777216) (abs-le ra.y)

  low-b : NN ρ (v3 ⊖ ⊝ # 16777216)
  low-b = le_in ρ (⊝ # 16777216) v3 (abs-ge rb.y)

  high-b : NN ρ (# 16777216 ⊖ v3)
  high-b = le_in ρ v3 (# 16777216) (abs-le rb.y)

  large : NN ρ (# 33554433)
  large = nn-in ρ (# 33554433) (le_z_yes tt)

  one : Pos ρ (# 1)
  one = pos-in ρ (# 1) (lt_z_yes tt)

  pub before-key : T (comes_before a b) → key a <ℤ key b
  unfolding comes_before key
  before-key t = go (or_cases (lt_z a.x b.x) _ t)
    where
      go : T (lt_z a.x b.x) ⊎ T (le_z a.x b.x && lt_z a.y b.y)
          → (a.x *ℤ pos 33554433 +ℤ a.y) <ℤ (b.x *ℤ pos 33554433 +ℤ b.y)
      go (inl h) = lt_by (one +⁺ large *° less1 (lt_in ρ v0 v2 (lt_z_yes h)) +⁺ low-b +⁺ high-a) (v0 ⊗ # 33554433 ⊕ v1) (v2 ⊗ # 33554433 ⊕ v3) refl
      go (inr h) = lt_by (lt_in ρ v1 v3 (lt_z_yes (and_right (le_z a.x b.x) _ h)) +⁺ large *° le_in ρ v0 v2 (le_z_yes (and_left (le_z a.x b.x) _ h)))
          (v0 ⊗ # 33554433 ⊕ v1) (v2 ⊗ # 33554433 ⊕ v3) refl

  pub key-before : key a <ℤ key b → T (comes_before a b)
  unfolding comes_before key
  key-before h = go (cases ρ (v2 ⊖ v0)) (cases ρ (v0 ⊖ v2))
    where
      k : Pos ρ ((v2 ⊗ # 33554433 ⊕ v3) ⊖ (v0 ⊗ # 33554433 ⊕ v1))
      k = lt_in ρ (v0 ⊗ # 33554433 ⊕ v1) (v2 ⊗ # 33554433 ⊕ v3) h

      go : Pos ρ (v2 ⊖ v0) ⊎ NN ρ (⊝ (v2 ⊖ v0)) → Pos ρ (v0 ⊖ v2) ⊎ NN ρ (⊝ (v0 ⊖ v2))
          → T (lt_z a.x b.x || (le_z a.x b.x && lt_z a.y b.y))
      go (inl u) w = or_left (lt_z a.x b.x) _ (lt_by u v0 v2 refl).lt
      go (inr u) (inl w) = absurd (refute (k +⁺ large *° less1 w +⁺ high-b +⁺ low-a) tt)
      go (inr u) (inr w) = or_right (lt_z a.x b.x) _ (and_both (le_z a.x b.x) _ (le-by w v0 v2 refl).le (lt_by (k +⁺ large *° u) v1 v3 refl).lt)

-- keys of the line's order are linear: what the next two laws use is that alone. Six points' worth of variables
abbrev PA : Pt E
PA = record { x = var 0; y = var 1 }

abbrev PB : Pt E
PB = record { x = var 2; y = var 3 }

abbrev PC : Pt E
PC = record { x = var 4; y = var 5 }

abbrev PD : Pt E
PD = record { x = var 6; y = var 7 }

abbrev PV : Pt E
PV = record { x = var 8; y = var 9 }

abbrev Key : Pt E → E
Key q = q.x ⊗ # 33554433 ⊕ q.y

abbrev env5 : Point → Point → Point → Point → Point → List ℤ
env5 a b c d v = a.x ∷ a.y ∷ b.x ∷ b.y ∷ c.x ∷ c.y ∷ d.x ∷ d.y ∷ v.x ∷ v.y ∷ []

-- two steps in the order along one line have a point on the same side
pub same-side : (a b c d v : Point) → key a <ℤ key b → key c <ℤ key d → orient2d a b c ≡ pos 0 → orient2d a b d ≡ pos 0
    → orient2d c d a ≡ pos 0 → pos 0 <ℤ orient2d a b v → pos 0 <ℤ orient2d c d v
unfolding key orient2d
same-side a b c d v ab cd abc abd cda h = ⊎_elim (λ k. k.is) (λ k. absurd (no k)) (cases ρ' (Orient2d E· PC PD PV))
  where
    ρ' : List ℤ
    ρ' = env5 a b c d v

    no : NN ρ' (⊝ Orient2d E· PC PD PV) → ⊥
    no k = refute (lt_in ρ' (Key PC) (Key PD) cd *⁺ pos-in ρ' (Orient2d E· PA PB PV) h
        +⁺ weak (lt_in ρ' (Key PA) (Key PB) ab) *° k
        +⁺ zero° ((Key PB ⊖ Key PA) *⁰ eq-in ρ' (Orient2d E· PC PD PA) (num (pos 0)) cda)
        +⁺ zero° (⊝ (Key PV ⊖ Key PA) *⁰ eq-in ρ' (Orient2d E· PA PB PD) (num (pos 0)) abd)
        +⁺ zero° ((Key PV ⊖ Key PA) *⁰ eq-in ρ' (Orient2d E· PA PB PC) (num (pos 0)) abc)) tt

-- the same on the other side
pub other-side : (a b c d v : Point) → key a <ℤ key b → key c <ℤ key d → orient2d a b c ≡ pos 0 → orient2d a b d ≡ pos 0
    → orient2d c d a ≡ pos 0 → pos 0 <ℤ orient2d b a v → pos 0 <ℤ orient2d d c v
unfolding key orient2d
other-side a b c d v ab cd abc abd cda h = ⊎_elim (λ k. k.is) (λ k. absurd (no k)) (cases ρ' (Orient2d E· PD PC PV))
  where
    ρ' : List ℤ
    ρ' = env5 a b c d v

    no : NN ρ' (⊝ Orient2d E· PD PC PV) → ⊥
    no k = refute (lt_in ρ' (Key PC) (Key PD) cd *⁺ pos-in ρ' (Orient2d E· PB PA PV) h
        +⁺ weak (lt_in ρ' (Key PA) (Key PB) ab) *° k
        +⁺ zero° (⊝ (Key PB ⊖ Key PA) *⁰ eq-in ρ' (Orient2d E· PC PD PA) (num (pos 0)) cda)
        +⁺ zero° ((Key PV ⊖ Key PA) *⁰ eq-in ρ' (Orient2d E· PA PB PD) (num (pos 0)) abd)
        +⁺ zero° (⊝ (Key PV ⊖ Key PA) *⁰ eq-in ρ' (Orient2d E· PA PB PC) (num (pos 0)) abc)) tt

-- three points on one line with a and b make no area
pub three-flat : (a b c d v : Point) → key a <ℤ key b → orient2d a b c ≡ pos 0 → orient2d a b d ≡ pos 0 → orient2d a b v ≡ pos 0
    → orient2d c d v ≡ pos 0
unfolding key orient2d
three-flat a b c d v ab abc abd abv = le_antisymm (no_more (cases ρ' (Orient2d E· PC PD PV))) (no_less (cases ρ' (⊝ Orient2d E· PC PD PV)))
  where
    ρ' : List ℤ
    ρ' = env5 a b c d v

    zc : Zero ρ' (Orient2d E· PA PB PC ⊖ num (pos 0))
    zc = eq-in ρ' (Orient2d E· PA PB PC) (num (pos 0)) abc

    zd : Zero ρ' (Orient2d E· PA PB PD ⊖ num (pos 0))
    zd = eq-in ρ' (Orient2d E· PA PB PD) (num (pos 0)) abd

    zv : Zero ρ' (Orient2d E· PA PB PV ⊖ num (pos 0))
    zv = eq-in ρ' (Orient2d E· PA PB PV) (num (pos 0)) abv

    -- (key b - key a) [c d v] as a combination of the three
    no_more : Pos ρ' (Orient2d E· PC PD PV) ⊎ NN ρ' (⊝ Orient2d E· PC PD PV) → orient2d c d v ≤ℤ pos 0
    no_more (inl k) = absurd (refute (lt_in ρ' (Key PA) (Key PB) ab *⁺ k
        +⁺ zero° (⊝ (Key PD ⊖ Key PC) *⁰ zv) +⁺ zero° ((Key PV ⊖ Key PC) *⁰ zd) +⁺ zero° (⊝ (Key PV ⊖ Key PD) *⁰ zc)) tt)
    no_more (inr k) = le-by k (Orient2d E· PC PD PV) (num (pos 0)) refl

    no_less : Pos ρ' (⊝ Orient2d E· PC PD PV) ⊎ NN ρ' (⊝ ⊝ Orient2d E· PC PD PV) → pos 0 ≤ℤ orient2d c d v
    no_less (inl k) = absurd (refute (lt_in ρ' (Key PA) (Key PB) ab *⁺ k
        +⁺ zero° ((Key PD ⊖ Key PC) *⁰ zv) +⁺ zero° (⊝ (Key PV ⊖ Key PC) *⁰ zd) +⁺ zero° ((Key PV ⊖ Key PD) *⁰ zc)) tt)
    no_less (inr k) = le-by k (num (pos 0)) (Orient2d E· PC PD PV) refl
