-- Laws of specs/HalfPlane.antt.
use Rattle.std.specs.Prelude.{◌≡◌, refl, ◌⊎◌, List, [], ◌∷◌, Bool, not, ◌&&◌, T, ℤ, pos, ◌<ℤ◌, ◌≤ℤ◌}
use Rattle.std.proofs.Math.Logic.{inl, inr, ⊎_elim}
use Rattle.std.proofs.Common.{T_not}
use Rattle.std.specs.Int.Signed.{lt_z, le_z, lt_z_yes, lt_z_no, le_z_yes}
use Rattle.algebra.specs.Ring.{var, ◌⊖◌, ◌⊗◌, ⊝◌}
use Rattle.algebra.proofs.RingLaws.{#◌}
use Rattle.algebra.proofs.Order.{lt-le}
use Rattle.algebra.proofs.Sign.{Pos, NN, ◌*⁺◌, ◌*°◌, ◌+⁺◌, ◌+°◌, weak, sq, pos-in, nn-in, lt_in, le-by, lt_by, cases, refute, eq-in, eq-by, zero°, ◌*⁰◌}
use Rattle.math.specs.declared.Vector.{Vector}
use Rattle.math.specs.Determinant.{Dot}
use Rattle.math.proofs.Plane.{E·, A, B, C}
use Rattle.math.specs.Vector.{cross_of, dot_of}
use Rattle.sums.proofs.BitLaws.{or_cases, or_left, or_right, and_left, and_right, and_both}
use Rattle.outline.specs.Outline.{upper}
use Rattle.outline.proofs.VectorLaws.{Cross, vectors, three-signs}
use Rattle.outline.specs.HalfPlane.{SameWay, HalfPlane, left, east}

pub same-way-sym : {v v' : Vector} → SameWay v v' → SameWay v' v
unfolding cross_of dot_of
same-way-sym {v} {v'} s = let ρ = vectors v v' v v in record {
  parallel = eq-by ((⊝ # 1) *⁰ eq-in ρ (Cross A B) (# 0) s.parallel) (Cross B A) (# 0) refl;
  ahead = lt_by (pos-in ρ (Dot E· A B) s.ahead) (# 0) (Dot E· B A) refl;
}

-- a turn to the right by less than half a circle
abbrev pub RightTurn : Vector → Vector → Type 0
RightTurn v v' = (cross_of v v' <ℤ pos 0) ⊎ SameWay v v'

-- |u|² |v|² = (u × v)² + (u · v)²
pub right-turn-not-0 : (u v : Vector) → RightTurn u v → pos 0 <ℤ dot_of u u
unfolding cross_of dot_of
right-turn-not-0 u v t = ⊎_elim (λ k. k.is) (λ k. absurd (no k t)) (cases ρ (Dot E· A A))
  where
    ρ : List ℤ
    ρ = vectors u v u v

    no : NN ρ (⊝ Dot E· A A) → RightTurn u v → ⊥
    no k (inl h) = refute (lt_in ρ (Cross A B) (# 0) h *⁺ lt_in ρ (Cross A B) (# 0) h +⁺ sq (Dot E· A B) +⁺ k *° (sq B.x +° sq B.y)) tt
    no k (inr s) = let h = pos-in ρ (Dot E· A B) s.ahead in refute (h *⁺ h +⁺ sq (Cross A B) +⁺ k *° (sq B.x +° sq B.y)) tt

-- (u × w) |v|² = (u × v)(v · w) + (u · v)(v × w), and (u · w) |v|² = (u · v)(v · w) - (u × v)(v × w)
pub same-way-trans : (u v w : Vector) → SameWay u v → SameWay v w → SameWay u w
unfolding cross_of dot_of
same-way-trans u v w s s' = record { parallel = flat (three-signs (cross_of u w)); ahead = ⊎_elim (λ k. k.is) (λ k. absurd (behind k)) (cases ρ (Dot E· A C)) }
  where
    ρ : List ℤ
    ρ = vectors u v w w

    v² : Pos ρ (Dot E· B B)
    v² = pos-in ρ (Dot E· B B) (right-turn-not-0 v w (inr s'))

    flat : (cross_of u w <ℤ pos 0) ⊎ ((cross_of u w ≡ pos 0) ⊎ (pos 0 <ℤ cross_of u w)) → cross_of u w ≡ pos 0
    flat (inl h) = absurd (refute (lt_in ρ (Cross A C) (# 0) h *⁺ v² +⁺ zero° (Dot E· B C *⁰ eq-in ρ (Cross A B) (# 0) s.parallel) +⁺ zero° (Dot E· A B *⁰ eq-in ρ (Cross B C) (# 0) s'.parallel)) tt)
    flat (inr (inl h)) = h
    flat (inr (inr h)) = absurd (refute (pos-in ρ (Cross A C) h *⁺ v² +⁺ zero° ((⊝ Dot E· B C) *⁰ eq-in ρ (Cross A B) (# 0) s.parallel) +⁺ zero° ((⊝ Dot E· A B) *⁰ eq-in ρ (Cross B C) (# 0) s'.parallel)) tt)

    behind : NN ρ (⊝ Dot E· A C) → ⊥
    behind k = refute (pos-in ρ (Dot E· A B) s.ahead *⁺ pos-in ρ (Dot E· B C) s'.ahead +⁺ k *° weak v² +⁺ zero° ((⊝ Cross B C) *⁰ eq-in ρ (Cross A B) (# 0) s.parallel)) tt

-- what turns right into the way of u is left of u: (v × x)(x · u) + (v · x)(x × u) = (v × u) |x|²
pub right-turn-into : (u v x : Vector) → SameWay u x → cross_of v x <ℤ pos 0 → pos 0 <ℤ cross_of u v
unfolding cross_of dot_of
right-turn-into u v x s h =
    let ρ = vectors u v x x in
    ⊎_elim (λ k. k.is)
    (λ k. absurd (refute (lt_in ρ (Cross B C) (# 0) h *⁺ pos-in ρ (Dot E· A C) s.ahead +⁺ k *° (sq C.x +° sq C.y) +⁺ zero° (Dot E· B C *⁰ eq-in ρ (Cross A C) (# 0) s.parallel)) tt))
    (cases ρ (Cross A B))

pub left→ : (a v : Vector) → T (left a v) → pos 0 <ℤ cross_of a v
unfolding left
left→ a v t = lt_z_yes t

pub left← : (a v : Vector) → pos 0 <ℤ cross_of a v → T (left a v)
unfolding left
left← a v h = h.lt

pub not-left→ : (a v : Vector) → T (not (left a v)) → cross_of a v ≤ℤ pos 0
unfolding left
not-left→ a v t = lt_z_no t

-- (a × v)(v · v') + (a · v)(v × v') = (a × v') |v|²
left-ray : (a v v' : Vector) → SameWay v v' → pos 0 <ℤ cross_of a v → pos 0 <ℤ cross_of a v'
unfolding cross_of dot_of
left-ray a v v' s h =
    let ρ = vectors a v v' v' in
    ⊎_elim (λ k. k.is)
    (λ k. absurd (refute (pos-in ρ (Cross A B) h *⁺ pos-in ρ (Dot E· B C) s.ahead +⁺ k *° (sq B.x +° sq B.y) +⁺ zero° (Dot E· A B *⁰ eq-in ρ (Cross B C) (# 0) s.parallel)) tt))
    (cases ρ (Cross A C))

pub left-half : (a : Vector) → HalfPlane a (left a)
left-half a = record {
  inside = λ v t. lt-le (left→ a v t);
  outside = λ v t. not-left→ a v t;
  ray = λ v v' s t. left← a v' (left-ray a v v' s (left→ a v t));
}

module _ (v : Vector) where
  pub upper→ : T (upper v) → (pos 0 <ℤ v.y) ⊎ ((pos 0 ≤ℤ v.y) × (pos 0 <ℤ v.x))
  unfolding upper
  upper→ t = ⊎_elim (λ u. inl (lt_z_yes u)) (λ u. inr (le_z_yes (and_left (le_z (pos 0) v.y) (lt_z (pos 0) v.x) u), lt_z_yes (and_right (le_z (pos 0) v.y) (lt_z (pos 0) v.x) u)))
      (or_cases (lt_z (pos 0) v.y) (le_z (pos 0) v.y && lt_z (pos 0) v.x) t)

  pub upper←y : pos 0 <ℤ v.y → T (upper v)
  unfolding upper
  upper←y h = or_left (lt_z (pos 0) v.y) (le_z (pos 0) v.y && lt_z (pos 0) v.x) h.lt

  pub upper←x : pos 0 ≤ℤ v.y → pos 0 <ℤ v.x → T (upper v)
  unfolding upper
  upper←x h k = or_right (lt_z (pos 0) v.y) (le_z (pos 0) v.y && lt_z (pos 0) v.x) (and_both (le_z (pos 0) v.y) (lt_z (pos 0) v.x) h.le k.lt)

pub upper-half : HalfPlane east upper
unfolding cross_of dot_of east
upper-half = record { inside = inside; outside = outside; ray = ray }
  where
    inside : (v : Vector) → T (upper v) → pos 0 ≤ℤ cross_of east v
    inside v t = go (upper→ v t)
      where
        go : (pos 0 <ℤ v.y) ⊎ ((pos 0 ≤ℤ v.y) × (pos 0 <ℤ v.x)) → pos 0 ≤ℤ cross_of east v
        go (inl h) = le-by (weak (pos-in (v.x ∷ v.y ∷ []) (var 1) h)) (# 0) (# 1 ⊗ var 1 ⊖ # 0 ⊗ var 0) refl
        go (inr h) = le-by (nn-in (v.x ∷ v.y ∷ []) (var 1) h.0) (# 0) (# 1 ⊗ var 1 ⊖ # 0 ⊗ var 0) refl

    outside : (v : Vector) → T (not (upper v)) → cross_of east v ≤ℤ pos 0
    outside v t = let ρ = v.x ∷ v.y ∷ [] in
        ⊎_elim (λ k. absurd (T_not (upper v) t (upper←y v k.is))) (λ k. le-by k (# 1 ⊗ var 1 ⊖ # 0 ⊗ var 0) (# 0) refl) (cases ρ (var 1))

    ray : (v v' : Vector) → SameWay v v' → T (upper v) → T (upper v')
    ray v v' s t = ⊎_elim (λ k. upper←y v' k.is) (λ k. low k (upper→ v t)) (cases ρ (var 3))
      where
        ρ : List ℤ
        ρ = v.x ∷ v.y ∷ v'.x ∷ v'.y ∷ []

        dot : Pos ρ (Dot E· A B)
        dot = pos-in ρ (Dot E· A B) s.ahead

        -- v is due east, and so is v'
        low : NN ρ (⊝ var 3) → (pos 0 <ℤ v.y) ⊎ ((pos 0 ≤ℤ v.y) × (pos 0 <ℤ v.x)) → T (upper v')
        low k (inl h) = absurd (refute (pos-in ρ (var 1) h *⁺ dot +⁺ k *° (sq (var 0) +° sq (var 1)) +⁺ zero° (var 0 *⁰ eq-in ρ (Cross A B) (# 0) s.parallel)) tt)
        low k (inr (h, i)) = ⊎_elim (λ j. go j) (λ j. absurd (refute (dot +⁺ nn-in ρ (var 1) h *° k +⁺ weak (pos-in ρ (var 0) i) *° j) tt)) (cases ρ (var 2))
          where
            go : Pos ρ (var 2) → T (upper v')
            go j = ⊎_elim (λ m. absurd (refute (pos-in ρ (var 0) i *⁺ m +⁺ nn-in ρ (var 1) h *° weak j +⁺ zero° (eq-in ρ (Cross A B) (# 0) s.parallel)) tt))
                (λ m. upper←x v' (le-by m (# 0) (var 3) refl) j.is) (cases ρ (⊝ var 3))
